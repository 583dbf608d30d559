-- Pairs of effect kinds, where a kind is added or two kinds are paired.
use Rattle.std.proofs.Common.{◌≡◌, ◌⊎◌, ℕ, zero, suc, ◌<◌, List, [], ◌∷◌, ◌++◌, true, Option, Some, None, is_none, length, set, refl, sym, ◌∙◌, ap, subst, ⊎_elim, inl, inr, arith, length-append}
use Rattle.std.proofs.lemmas.Grind.{common_steps}
use Rattle.std.proofs.lemmas.List.{length-set}
use Rattle.std.proofs.lemmas.Option.{none-some, same_Some}
use Rattle.transaction.specs.Effects.{map_of}
use Rattle.values.specs.Declarations.{Declarations}
use Rattle.values.specs.Lawful.{are_inverse, ArePairs, IsPair}
use Rattle.registry.specs.declared.id_sort.IdSort.TheVariants.{Effect}
use Rattle.registry.specs.Refusals.{Passes, pair_refusals}
use Rattle.registry.proofs.Passing.{holds, is-known, none-of}

map-within : (xs : List (Option ℕ)) (i y : ℕ) → map_of xs i ≡ Some y → i < length xs
map-within [] i y e = absurd (none-some y e)
map-within (x ∷ xs) zero y e = omega arith
map-within (x ∷ xs) (suc i) y e = let l : i < length xs = map-within xs i y e in omega (arith, l)

pub map-pushed : (xs : List (Option ℕ)) (i : ℕ) → map_of (xs ++ None ∷ []) i ≡ map_of xs i
map-pushed [] zero = refl
map-pushed [] (suc i) = refl
map-pushed (x ∷ xs) zero = refl
map-pushed (x ∷ xs) (suc i) = map-pushed xs i

map-kept : (xs ys : List (Option ℕ)) (i : ℕ) → i < length xs → map_of (xs ++ ys) i ≡ map_of xs i
map-kept [] ys i l = absurd (omega (arith, l))
map-kept (x ∷ xs) ys zero l = refl
map-kept (x ∷ xs) ys (suc i) l = map-kept xs ys i (omega (arith, l))

map-set : (xs : List (Option ℕ)) (i : ℕ) (x : Option ℕ) → i < length xs → map_of (set xs i x) i ≡ x
map-set [] i x l = absurd (omega (arith, l))
map-set (z ∷ zs) zero x l = refl
map-set (z ∷ zs) (suc i) x l = map-set zs i x (omega (arith, l))

map-set_other : (xs : List (Option ℕ)) (i j : ℕ) (x : Option ℕ) → (j ≡ i → ⊥) → map_of (set xs i x) j ≡ map_of xs j
map-set_other [] i j x n = refl
map-set_other (z ∷ zs) zero zero x n = absurd (n refl)
map-set_other (z ∷ zs) zero (suc j) x n = refl
map-set_other (z ∷ zs) (suc i) zero x n = refl
map-set_other (z ∷ zs) (suc i) (suc j) x n = map-set_other zs i j x (λ e. n (ap suc e))

same-or-not : (i j : ℕ) → (i ≡ j) ⊎ (i ≡ j → ⊥)
same-or-not zero zero = inl refl
same-or-not zero (suc j) = inr (λ e. omega (arith, e))
same-or-not (suc i) zero = inr (λ e. omega (arith, e))
same-or-not (suc i) (suc j) = ⊎_elim (λ e. inl (ap suc e)) (λ n. inr (λ e. n (omega (arith, e)))) (same-or-not i j)

swapped : (a b : Option ℕ) → are_inverse a b ≡ true → are_inverse b a ≡ true
swapped None None e = e
swapped None (Some b) e = e
swapped (Some a) None e = e
swapped (Some a) (Some b) e = grind (arith, common_steps, e)

-- pairs stay lawful where an effect kind is added
pub pairs-effect : (maps pairs : List (Option ℕ)) (map : Option ℕ) → length pairs ≡ length maps → ArePairs maps pairs → ArePairs (maps ++ map ∷ []) (pairs ++ None ∷ [])
pairs-effect maps pairs map k h effect back e =
    let q : map_of pairs effect ≡ Some back = sym (map-pushed pairs effect) ∙ e in
    let p : IsPair maps pairs effect back = h effect back q in
    let l : effect < length pairs = map-within pairs effect back q in
    record {
      declared = omega (arith, p.declared, length-append maps (map ∷ []));
      paired_back = map-pushed pairs back ∙ p.paired_back;
      inverse = rw (map-kept maps (map ∷ []) effect (omega (arith, l, k)), map-kept maps (map ∷ []) back p.declared) p.inverse;
    }

-- two effect kinds can be made a pair
pub record CanPair (maps pairs : List (Option ℕ)) (effect back : ℕ) : Type 0 where
  pub effect_in : effect < length maps
  pub back_in : back < length maps
  pub inverse : are_inverse (map_of maps effect) (map_of maps back) ≡ true
  pub effect_free : map_of pairs effect ≡ None
  pub back_free : map_of pairs back ≡ None

is-none : (o : Option ℕ) → is_none o ≡ true → o ≡ None
is-none None e = refl
is-none (Some x) e = absurd (grind (arith, e))

pub can-pair : (d : Declarations) (effect back : ℕ) → Passes (pair_refusals d effect back) → CanPair d.maps d.pairs effect back
can-pair d effect back e =
    let p = none-of (pair_refusals d effect back) e in
    record {
      effect_in = is-known Effect (length d.maps) effect p.0;
      back_in = is-known Effect (length d.maps) back p.1.0;
      inverse = holds (are_inverse (map_of d.maps effect) (map_of d.maps back)) _ p.1.1.0;
      effect_free = is-none (map_of d.pairs effect) (holds (is_none (map_of d.pairs effect)) _ p.1.1.1.0);
      back_free = is-none (map_of d.pairs back) (holds (is_none (map_of d.pairs back)) _ p.1.1.1.1.0);
    }

module _ (maps pairs : List (Option ℕ)) (effect back : ℕ) (can : CanPair maps pairs effect back) where
  abbrev paired : List (Option ℕ)
  paired = set (set pairs effect (Some back)) back (Some effect)

  elsewhere : (i : ℕ) → (i ≡ effect → ⊥) → (i ≡ back → ⊥) → map_of paired i ≡ map_of pairs i
  elsewhere i n m = map-set_other (set pairs effect (Some back)) back i (Some effect) m ∙ map-set_other pairs effect i (Some back) n

  not-free : (i j y : ℕ) → map_of pairs i ≡ None → map_of pairs j ≡ Some y → j ≡ i → ⊥
  not-free i j y e q s = none-some y (sym e ∙ subst (λ k. map_of pairs k ≡ Some y) s q)

  -- a pair that was made before stays
  pub pairs-kept : (x y : ℕ) → map_of pairs x ≡ Some y → map_of paired x ≡ Some y
  pairs-kept x y e = elsewhere x (not-free effect x y can.effect_free e) (not-free back x y can.back_free e) ∙ e

  module _ (same : length pairs ≡ length maps) (h : ArePairs maps pairs) where
    at-back : map_of paired back ≡ Some effect
    at-back = map-set (set pairs effect (Some back)) back (Some effect) (omega (arith, length-set pairs effect (Some back), same, can.back_in))

    at-effect : map_of paired effect ≡ Some back
    at-effect =
        ⊎_elim
        (λ (e : effect ≡ back). subst (λ i. map_of paired i ≡ Some back) (sym e) (at-back ∙ ap (λ i. Some i) e))
        (λ n. map-set_other (set pairs effect (Some back)) back effect (Some effect) n ∙ map-set pairs effect (Some back) (omega (arith, same, can.effect_in)))
        (same-or-not effect back)

    of-effect : IsPair maps paired effect back
    of-effect = record { declared = can.back_in; paired_back = at-back; inverse = can.inverse }

    of-back : IsPair maps paired back effect
    of-back = record { declared = can.effect_in; paired_back = at-effect; inverse = swapped (map_of maps effect) (map_of maps back) can.inverse }

    -- whatever the pair of a kind is
    only : (at of x y : ℕ) → IsPair maps paired at of → map_of paired at ≡ Some of → map_of paired x ≡ Some y → x ≡ at → IsPair maps paired x y
    only at of x y p is e s =
        let q : of ≡ y = same_Some of y (sym is ∙ subst (λ i. map_of paired i ≡ Some y) s e) in
        subst (λ i. IsPair maps paired i y) (sym s) (subst (IsPair maps paired at) q p)

    older : (x y : ℕ) → map_of pairs x ≡ Some y → IsPair maps paired x y
    older x y q =
        let p : IsPair maps pairs x y = h x y q in
        record { declared = p.declared; paired_back = pairs-kept y x p.paired_back; inverse = p.inverse }

    pub pairs-pair : ArePairs maps paired
    pairs-pair x y e =
        ⊎_elim
        (only back effect x y of-back at-back e)
        (λ m. ⊎_elim (only effect back x y of-effect at-effect e) (λ n. older x y (sym (elsewhere x n m) ∙ e)) (same-or-not x effect))
        (same-or-not x back)
