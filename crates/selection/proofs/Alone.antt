-- One range by itself is in normal form.
use Rattle.std.proofs.Common.{◌≡◌, ℕ, zero, suc, ◌<◌, List, [], ◌∷◌, map, length, refl, ap, ◌∙◌, arith}
use Rattle.std.proofs.lemmas.List.{length-map}
use Rattle.change_desc.specs.declared.section.Section.{Section}
use Rattle.selection.specs.declared.range.Range.{Range}
use Rattle.selection.specs.Ranges.{moved_range}
use Rattle.selection.specs.Selections.{IsSelection, SelectionView, moved_selection, normal_form}

-- the first of some ranges is the main one
abbrev pub with_first : List Range → SelectionView
with_first ranges = record { ranges = ranges; main = 0 }

pub alone-is_selection : (ranges : List Range) → length ranges ≡ 1 → IsSelection (with_first ranges)
alone-is_selection [] h = absurd (omega arith)
alone-is_selection (r ∷ []) h = record { apart = refl; within = omega arith }
alone-is_selection (r ∷ q ∷ rs) h = absurd (omega arith)

alone-normal : (ranges : List Range) (main : ℕ) → length ranges ≡ 1 → main < length ranges → with_first ranges ≡ normal_form ranges main
alone-normal [] main h w = absurd (omega arith)
alone-normal (r ∷ []) zero h w = refl
alone-normal (r ∷ []) (suc main) h w = absurd (omega arith)
alone-normal (r ∷ q ∷ rs) main h w = absurd (omega arith)

-- so a selection whose mapped ranges are one is mapped to that one
pub alone-moved : (changes : List (Section ℕ)) (s : SelectionView) (kept moved : List Range) → IsSelection s → kept ≡ s.ranges → moved ≡ map (moved_range changes) kept → length moved ≡ 1 → with_first moved ≡ moved_selection changes s
alone-moved changes s kept moved is k m one =
    let e : moved ≡ map (moved_range changes) s.ranges = m ∙ ap (map (moved_range changes)) k in
    let n : length moved ≡ length s.ranges = ap length e ∙ length-map s.ranges (moved_range changes) in
    alone-normal moved s.main one (omega (arith, n, is.within)) ∙ ap (λ ranges. normal_form ranges s.main) e
