-- Selections are the same exactly where they are equal.
use Rattle.std.proofs.Common.{◌≡◌, ℕ, Bool, true, false, List, [], ◌∷◌, refl, sym, ap, subst, ◌∙◌}
use Rattle.std.specs.Prelude.{eqb}
use Rattle.std.specs.Cmp.Lexicographic.{pointwise}
use Rattle.std.proofs.lemmas.Bool.{and_parts, and_from, eq-eqb, eqb-true}
use Rattle.selection.specs.declared.range.Range.{Range}
use Rattle.selection.specs.Selections.{SelectionView}
use Rattle.history.specs.Selecting.{same_range, same_selection}

range-is : (a b : Range) → same_range a b ≡ true → a ≡ b
range-is a b h =
    let p : (eqb a.anchor b.anchor ≡ true) × (eqb a.head b.head ≡ true) = and_parts (eqb a.anchor b.anchor) (eqb a.head b.head) h in
    let by : ℕ → ℕ → Range = λ m n. record { anchor = m; head = n } in
    ap (λ m. by m a.head) (eqb-true a.anchor b.anchor p.0) ∙ ap (λ n. by b.anchor n) (eqb-true a.head b.head p.1)

range-refl : (a : Range) → same_range a a ≡ true
range-refl a = and_from (eqb a.anchor a.anchor) (eqb a.head a.head) (eq-eqb a.anchor a.anchor refl) (eq-eqb a.head a.head refl)

ranges-are : (xs ys : List Range) → pointwise same_range xs ys ≡ true → xs ≡ ys
ranges-are [] [] h = refl
ranges-are [] (y ∷ ys) h = cc
ranges-are (x ∷ xs) [] h = cc
ranges-are (x ∷ xs) (y ∷ ys) h =
    let p : (same_range x y ≡ true) × (pointwise same_range xs ys ≡ true) = and_parts (same_range x y) (pointwise same_range xs ys) h in
    ap (λ z. z ∷ xs) (range-is x y p.0) ∙ ap (λ zs. y ∷ zs) (ranges-are xs ys p.1)

ranges-refl : (xs : List Range) → pointwise same_range xs xs ≡ true
ranges-refl [] = refl
ranges-refl (x ∷ xs) = and_from (same_range x x) (pointwise same_range xs xs) (range-refl x) (ranges-refl xs)

selection-is : (a b : SelectionView) → same_selection a b ≡ true → a ≡ b
selection-is a b h =
    let p : (eqb a.main b.main ≡ true) × (pointwise same_range a.ranges b.ranges ≡ true) = and_parts (eqb a.main b.main) (pointwise same_range a.ranges b.ranges) h in
    let by : List Range → ℕ → SelectionView = λ r m. record { ranges = r; main = m } in
    ap (λ r. by r a.main) (ranges-are a.ranges b.ranges p.1) ∙ ap (λ m. by b.ranges m) (eqb-true a.main b.main p.0)

selection-refl : (a : SelectionView) → same_selection a a ≡ true
selection-refl a = and_from (eqb a.main a.main) (pointwise same_range a.ranges a.ranges) (eq-eqb a.main a.main refl) (ranges-refl a.ranges)

agree : (r s : Bool) → (r ≡ true → s ≡ true) → (s ≡ true → r ≡ true) → r ≡ s
agree true true f g = refl
agree false false f g = refl
agree true false f g = sym (f refl)
agree false true f g = g refl

pub same-is : (r : Bool) (a b : SelectionView) → (r ≡ true → a ≡ b) → (a ≡ b → r ≡ true) → r ≡ same_selection a b
same-is r a b f g =
    agree r (same_selection a b) (λ e. subst (λ x. same_selection a x ≡ true) (f e) (selection-refl a)) (λ e. g (selection-is a b e))
