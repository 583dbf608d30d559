-- A selection in normal form is its own normal form.
use Rattle.std.proofs.Common.{◌≡◌, ℕ, zero, suc, ◌+◌, ◌≤◌, ◌<◌, true, false, not, eqb, ltb, List, [], ◌∷◌, map, length, refl, sym, ap, ◌∙◌, arith}
use Rattle.std.proofs.lemmas.Bool.Decides.{nat_tests}
use Rattle.selection.specs.declared.range.Range.{Range}
use Rattle.selection.specs.declared.marked.Marked.{Marked}
use Rattle.selection.specs.Ranges.{low, meet}
use Rattle.selection.specs.Selections.{IsSelection, SelectionView, all_joined, are_apart, begins_before, joined_from, main_of, marked_from, normal_form, range_of, selection_of}
use Rattle.selection.proofs.Apart.{and_left, apart_rest, high_before, not_true}
use Rattle.selection.proofs.Normals.{ranges-marked}
use Rattle.selection.proofs.SelectionOrder.{begins_before-order}
use Rattle.stable_order.proofs.StableSort.{NoneBelow, Rises, stable_sort-risen}

not_less : (x y : ℕ) → y ≤ x → ltb x y ≡ false
not_less x y h = grind (arith, nat_tests)

-- each range begins after the end of those before it
none_below : (a : Marked) (i main : ℕ) (r : Range) (rs : List Range) → low a.range ≤ low r → are_apart (r ∷ rs) ≡ true → NoneBelow begins_before a (marked_from i main (r ∷ rs))
none_below a i main r [] h p = (not_less (low r) (low a.range) h, tt)
none_below a i main r (q ∷ rs) h p =
    (not_less (low r) (low a.range) h, none_below a (suc i) main q rs (omega (arith, high_before r q rs p, h)) (apart_rest r q rs p))

rises : (i main : ℕ) (rs : List Range) → are_apart rs ≡ true → Rises begins_before (marked_from i main rs)
rises i main [] p = tt
rises i main (r ∷ []) p = (tt, tt)
rises i main (r ∷ q ∷ rs) p = (
  none_below (record { range = r; is_main = eqb i main }) (suc i) main q rs (omega (arith, high_before r q rs p)) (apart_rest r q rs p),
  rises (suc i) main (q ∷ rs) (apart_rest r q rs p),
)

joined_apart : (i main : ℕ) (r : Range) (rs : List Range) → are_apart (r ∷ rs) ≡ true →
    joined_from (record { range = r; is_main = eqb i main }) (marked_from (suc i) main rs) ≡ marked_from i main (r ∷ rs)
joined_apart i main r [] p = refl
joined_apart i main r (q ∷ rs) p =
    let m : Marked = record { range = r; is_main = eqb i main } in
    let e = not_true (meet r q) (and_left (not (meet r q)) (are_apart (q ∷ rs)) p) in
    rw e (ap (λ ms. m ∷ ms) (joined_apart (suc i) main q rs (apart_rest r q rs p)))

all_apart : (i main : ℕ) (rs : List Range) → are_apart rs ≡ true → all_joined (marked_from i main rs) ≡ marked_from i main rs
all_apart i main [] p = refl
all_apart i main (r ∷ rs) p = joined_apart i main r rs p

main-marked : (i k : ℕ) (rs : List Range) → k < length rs → main_of (marked_from i (i + k) rs) ≡ k
main-marked i k [] l = absurd (omega arith)
main-marked i zero (r ∷ rs) l = let e : eqb i (i + 0) ≡ true = grind (arith, nat_tests) in rw e refl
main-marked i (suc k) (r ∷ rs) l =
    let e : eqb i (i + suc k) ≡ false = grind (arith, nat_tests) in
    let f : i + suc k ≡ suc i + k = omega arith in
    rw e (ap suc (ap (λ n. main_of (marked_from (suc i) n rs)) f ∙ main-marked (suc i) k rs (omega arith)))

selection-ext : (rs ss : List Range) (m n : ℕ) → rs ≡ ss → m ≡ n → let s : SelectionView = record { ranges = rs; main = m } in let t : SelectionView = record { ranges = ss; main = n } in s ≡ t
selection-ext rs ss m n e f = rw (e, f) refl

pub created_again : (s : SelectionView) → IsSelection s → normal_form s.ranges s.main ≡ s
created_again s h =
    let marks : List Marked = marked_from 0 s.main s.ranges in
    let e : 0 + s.main ≡ s.main = omega arith in
    ap (λ ms. selection_of (all_joined ms)) (stable_sort-risen begins_before begins_before-order marks (rises 0 s.main s.ranges h.apart)) ∙
    (ap selection_of (all_apart 0 s.main s.ranges h.apart) ∙
    selection-ext (map range_of marks) s.ranges (main_of marks) s.main (ranges-marked 0 s.main s.ranges)
    (ap (λ n. main_of (marked_from 0 n s.ranges)) (sym e) ∙ main-marked 0 s.main s.ranges h.within))
