-- In an order of numbers each stands after what it depends on, and there are no more than there may be.
use Rattle.std.proofs.Common.{◌≡◌, ◌≤◌, ◌<◌, ◌-◌, ◌∙◌, ℕ, zero, suc, List, [], ◌∷◌, true, false, ◌||◌, eqb, None, Some, length, slice_get, get_or, reverse, refl, sym, ap, subst, arith, ⊎_elim, ◌⊎◌, inl, inr}
use Rattle.std.specs.List.{AllByRecursion, IsDistinct, list_any}
use Rattle.std.proofs.lemmas.Bool.{ne_eqb}
use Rattle.std.proofs.lemmas.Bool.Decides.{Decides-eqb}
use Rattle.std.proofs.lemmas.List.{get_or-reverse, length-reverse}
use Rattle.std.proofs.lemmas.Map.Steps.{length-le_from_distinct_below}
use Rattle.std.proofs.lemmas.Option.{get_or_from_slice_get, slice_get-get_or, slice_get_within}
use Rattle.id_lists.specs.Members.{In}
use Rattle.dep_graph.specs.declared.edge.Edge.{Edge}
use Rattle.dep_graph.specs.Order.{DependsOn, IsOrdered, IsOrder}
use Rattle.dep_graph.proofs.Members.{from-reverse}

apart : (v : ℕ) (vs : List ℕ) → (In v vs → ⊥) → AllByRecursion (λ (y : ℕ). eqb v y ≡ false) vs
apart v [] h = tt
apart v (y ∷ ys) h = (ne_eqb v y (λ e. h (inl e)), apart v ys (λ i. h (inr i)))

distinct : (es : List Edge) (vs : List ℕ) → IsOrdered es vs → IsDistinct eqb vs
unfolding IsDistinct
distinct es [] h = tt
distinct es (v ∷ vs) h = (apart v vs h.1, distinct es vs h.2)

member-in : (q : ℕ) (xs : List ℕ) → list_any (eqb q) xs ≡ true → In q xs
member-in q [] e = absurd (false-true e)
  where
    false-true : false ≡ true → ⊥
    false-true f = cc
member-in q (x ∷ xs) e =
    elim (eqb q x) as (λ b. eqb q x ≡ b → (b || list_any (eqb q) xs) ≡ true → (q ≡ x) ⊎ In q xs) [
      | true ↦ λ is h. inl ((Decides-eqb q x).0 is)
      | false ↦ λ is h. inr (member-in q xs h)
    ] refl e

-- there are no more than there may be
pub order-short : (count : ℕ) (es : List Edge) (numbers : List ℕ) → IsOrder count es numbers → length numbers ≤ count
order-short count es numbers is =
    let le = length-le_from_distinct_below (reverse numbers) count (distinct es (reverse numbers) is.ordered) (λ q m. is.within q (from-reverse numbers q (member-in q (reverse numbers) m))) in
    let same = length-reverse numbers in
    omega (arith, le, same)

-- a member has a place
pub in-place : {X : Type 0} (x : X) (xs : List X) → In x xs → (k : ℕ) × (k < length xs) × (slice_get xs k ≡ Some x)
in-place x [] i = absurd i
in-place x (y ∷ ys) i =
    ⊎_elim (λ e. (0, omega arith, ap Some (sym e))) (λ j. let at = in-place x ys j in (suc at.0, omega (arith, at.1), at.2)) i

pub place-in : {X : Type 0} (x : X) (xs : List X) (k : ℕ) → slice_get xs k ≡ Some x → In x xs
place-in x [] k e = absurd (none-some e)
  where
    none-some : {X : Type 0} {x : X} → None ≡ Some x → ⊥
    none-some f = cc
place-in x (y ∷ ys) zero e = inl (some-back e)
  where
    some-back : {X : Type 0} {x y : X} → Some y ≡ Some x → x ≡ y
    some-back f = cc
place-in x (y ∷ ys) (suc k) e = inr (place-in x ys k e)

-- read from its end, what one depends on stands after it
later : (es : List Edge) (ys : List ℕ) → IsOrdered es ys → (j v d : ℕ) → slice_get ys j ≡ Some v → DependsOn es v d → (k : ℕ) × (j < k) × (slice_get ys k ≡ Some d)
later es [] h j v d at dep = absurd (none-some at)
  where
    none-some : {X : Type 0} {x : X} → None ≡ Some x → ⊥
    none-some f = cc
later es (y ∷ ys) h zero v d at dep =
    let place = in-place d ys (h.0 d (subst (λ (u : ℕ). DependsOn es u d) (sym (some-back at)) dep)) in (suc place.0, omega arith, place.2)
  where
    some-back : {X : Type 0} {x y : X} → Some y ≡ Some x → y ≡ x
    some-back f = cc
later es (y ∷ ys) h (suc j) v d at dep = let place = later es ys h.2 j v d at dep in (suc place.0, omega (arith, place.1), place.2)

turned : {X : Type 0} (xs : List X) (k : ℕ) (x : X) → slice_get xs k ≡ Some x → slice_get (reverse xs) (length xs - 1 - k) ≡ Some x
turned xs k x at =
    let inside = slice_get_within xs k x at in
    let same = length-reverse xs in
    let back : length xs - 1 - (length xs - 1 - k) ≡ k = omega (arith, inside) in
    slice_get-get_or (reverse xs) (length xs - 1 - k) x (omega (arith, inside, same))
    ∙ ap Some (get_or-reverse xs (length xs - 1 - k) x (omega (arith, inside)) ∙ ap (λ (n : ℕ). get_or xs n x) back ∙ get_or_from_slice_get xs k x x at)

turned-back : {X : Type 0} (xs : List X) (k : ℕ) (x : X) → slice_get (reverse xs) k ≡ Some x → slice_get xs (length xs - 1 - k) ≡ Some x
turned-back xs k x at =
    let within = slice_get_within (reverse xs) k x at in
    let same = length-reverse xs in
    let inside : k < length xs = omega (arith, within, same) in
    slice_get-get_or xs (length xs - 1 - k) x (omega (arith, inside)) ∙ ap Some (sym (get_or-reverse xs k x inside) ∙ get_or_from_slice_get (reverse xs) k x x at)

-- what one depends on stands before it
pub earlier : (count : ℕ) (es : List Edge) (numbers : List ℕ) → IsOrder count es numbers → (i v d : ℕ) → slice_get numbers i ≡ Some v → DependsOn es v d → (k : ℕ) × (k < i) × (slice_get numbers k ≡ Some d)
earlier count es numbers is i v d at dep =
    let inside = slice_get_within numbers i v at in
    let place = later es (reverse numbers) is.ordered (length numbers - 1 - i) v d (turned numbers i v at) dep in
    let within = slice_get_within (reverse numbers) place.0 d place.2 in
    let same = length-reverse numbers in
    let after = place.1 in
    (length numbers - 1 - place.0, omega (arith, inside, within, same, after), turned-back numbers place.0 d place.2)
