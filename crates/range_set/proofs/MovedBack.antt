-- A range that changes places with the one before it, which it belongs before, changes no sort.
use Rattle.std.proofs.Common.{◌≡◌, ℕ, zero, suc, ◌+◌, ◌<◌, Bool, true, false, not, ◌&&◌, cond, List, [], ◌∷◌, length, get_or, slice_set, Option, Some, refl, sym, ◌∙◌, ap, subst, arith}
use Rattle.std.specs.Prelude.{nat_lt}
use Rattle.std.specs.Cmp.{IsStrictWeakOrder}
use Rattle.std.specs.List.{filter}
use Rattle.std.specs.List.Sorted.{ties}
use Rattle.stable_order.specs.StableSort.{stable_sort}
use Rattle.stable_order.proofs.StableSort.{Rises-stable_sort, filter-stable_sort, same_from_ties}
use Rattle.range_set.specs.Rules.{RangeRules}
use Rattle.range_set.specs.Order.{fault_from, precedes}
use Rattle.range_set.specs.declared.ranged.Ranged.{Ranged}
use Rattle.range_set.specs.declared.range_error.RangeError.TheVariants as fault

module _ {X : Type 0} (lt : X → X → Bool) (o : IsStrictWeakOrder lt) where
  both_false : (a b : Bool) → (not a && not b) ≡ true → (a ≡ false) × (b ≡ false)
  both_false false false e = (refl, refl)
  both_false false true e = cc
  both_false true false e = cc
  both_false true true e = cc

  -- no element ties with two of which one is less
  never_both : (w x y : X) → lt y x ≡ true → ties lt w x ≡ true → ties lt w y ≡ true → ⊥
  never_both w x y e p q =
      let a = both_false _ _ p in
      let b = both_false _ _ q in
      let c = o.chain y w x b.1 a.0 in cc

  apart : (x y : X) (f : List X) (a b : Bool) → (a ≡ true → b ≡ true → ⊥) → cond b (y ∷ cond a (x ∷ f) f) (cond a (x ∷ f) f) ≡ cond a (x ∷ cond b (y ∷ f) f) (cond b (y ∷ f) f)
  apart x y f true true h = absurd (h refl refl)
  apart x y f true false h = refl
  apart x y f false true h = refl
  apart x y f false false h = refl

  same_default : (xs : List X) (i : ℕ) (d e : X) → i < length xs → get_or xs i d ≡ get_or xs i e
  same_default [] i d e l = absurd (omega (arith, l))
  same_default (x ∷ xs) zero d e l = refl
  same_default (x ∷ xs) (suc i) d e l = same_default xs i d e (omega (arith, l))

  filter-changed : (w : X) (xs : List X) (i : ℕ) (d : X) → suc i < length xs → lt (get_or xs (suc i) d) (get_or xs i d) ≡ true
      → filter (ties lt w) (slice_set (slice_set xs i (get_or xs (suc i) d)) (suc i) (get_or xs i d)) ≡ filter (ties lt w) xs
  filter-changed w [] i d l e = absurd (omega (arith, l))
  filter-changed w (x ∷ []) i d l e = absurd (omega (arith, l))
  filter-changed w (x ∷ y ∷ ys) zero d l e = apart x y (filter (ties lt w) ys) (ties lt w x) (ties lt w y) (never_both w x y e)
  filter-changed w (x ∷ y ∷ ys) (suc i) d l e = ap (λ f. cond (ties lt w x) (x ∷ f) f) (filter-changed w (y ∷ ys) i d (omega (arith, l)) e)

  sort-changed : (xs : List X) (i : ℕ) (d : X) → suc i < length xs → lt (get_or xs (suc i) d) (get_or xs i d) ≡ true
      → stable_sort lt (slice_set (slice_set xs i (get_or xs (suc i) d)) (suc i) (get_or xs i d)) ≡ stable_sort lt xs
  sort-changed xs i d l e =
      let ys = slice_set (slice_set xs i (get_or xs (suc i) d)) (suc i) (get_or xs i d) in
      same_from_ties lt o (stable_sort lt ys) (stable_sort lt xs) (Rises-stable_sort lt o ys) (Rises-stable_sort lt o xs)
      (λ w. filter-stable_sort lt o w ys ∙ (filter-changed w xs i d l e ∙ sym (filter-stable_sort lt o w xs)))

  next-changed : (xs : List X) (i : ℕ) (a b : X) → a ≡ get_or xs i a → lt b a ≡ true → suc i < length xs → b ≡ get_or xs (suc i) b
      → stable_sort lt (slice_set (slice_set xs i (get_or xs (suc i) a)) (suc i) (get_or xs i a)) ≡ stable_sort lt xs
  next-changed xs i a b p e l q =
      let later : b ≡ get_or xs (suc i) a = q ∙ same_default xs (suc i) b a l in
      sort-changed xs i a l (sym (ap (λ v. lt v (get_or xs i a)) later) ∙ (sym (ap (λ v. lt b v) p) ∙ e))

  -- neighbours of which the later belongs before the earlier may change places before a sort
  pub stable_sort-changed : (xs : List X) (i j : ℕ) (a b : X) → suc i ≡ j → j < length xs → a ≡ get_or xs i a → b ≡ get_or xs j b → lt b a ≡ true
      → stable_sort lt (slice_set (slice_set xs i (get_or xs j a)) j (get_or xs i a)) ≡ stable_sort lt xs
  stable_sort-changed xs i j a b is l p q e =
      subst (λ n. n < length xs → b ≡ get_or xs n b → stable_sort lt (slice_set (slice_set xs i (get_or xs n a)) n (get_or xs i a)) ≡ stable_sort lt xs)
      is (next-changed xs i a b p e) l q

length-set : {X : Type 0} (xs : List X) (i : ℕ) (x : X) → length (slice_set xs i x) ≡ length xs
length-set [] i x = refl
length-set (y ∷ ys) zero x = refl
length-set (y ∷ ys) (suc i) x = ap suc (length-set ys i x)

pub length-changed : {X : Type 0} (xs : List X) (i j : ℕ) (x y : X) → length (slice_set (slice_set xs i x) j y) ≡ length xs
length-changed xs i j x y = length-set (slice_set xs i x) j y ∙ length-set xs i x

module _ {T : Type 0} (rules : RangeRules T) where
  -- a range that belongs before the one before it is one of them
  pub fault_within : (i k : ℕ) (last : Option (Ranged T)) (rs : List (Ranged T)) → fault_from rules i last rs ≡ Some (fault.NotSorted k) → k < i + length rs
  fault_within i k last [] e = cc
  fault_within i k last (r ∷ rs) e = first (nat_lt r.to r.from) (precedes rules r last) (fault_within (i + 1) k (Some r) rs) e
    where
      first : (a b : Bool) → (fault_from rules (i + 1) (Some r) rs ≡ Some (fault.NotSorted k) → k < i + 1 + length rs)
          → cond a (Some (fault.Reversed i)) (cond b (Some (fault.NotSorted i)) (fault_from rules (i + 1) (Some r) rs)) ≡ Some (fault.NotSorted k) → k < i + suc (length rs)
      first true b ih h = cc
      first false true ih h = let is : i ≡ k = cc in omega (arith, is)
      first false false ih h = let l = ih h in omega (arith, l)
