-- A part of a block tells what is wanted of the whole once a piece after it was left out.
use Rattle.std.proofs.Common.{◌≡◌, ℕ, ◌+◌, ◌-◌, ◌<◌, ◌≤◌, true, List, length, refl, sym, ap, ◌∙◌, arith}
use Rattle.range_set.specs.declared.ranged.Ranged.{Ranged}
use Rattle.decoration.specs.declared.deco.Deco.{Deco}
use Rattle.decoration.specs.declared.style.Style.{Style}
use Rattle.selection.specs.declared.range.Range.{Range}
use Rattle.pieces.specs.Filling.{FillingView, all_put, begun, wanted}
use Rattle.pieces.specs.Items.{ItemView, items_of}
use Rattle.pieces.specs.Pieces.{block_of, walked}
use Rattle.pieces.specs.Rules.{pieces_of}
use Rattle.pieces.specs.Shading.{block_style, style_at, style_ranges}
use Rattle.pieces.specs.declared.goal.Goal.{Goal}
use Rattle.pieces.proofs.Fillings.{all_wanted}
use Rattle.pieces.proofs.Parts.{items_on, styles_on}
use Rattle.pieces.proofs.Prefixes.{Agree, agree_kept, walked_agree}
use Rattle.pieces.proofs.Ruled.{items-forward, items-rise, walked-ruled}

-- the pieces of a part of a block from its start, but for the last one, are the first of the whole
pub parts_agree : (text : List ℕ) (from stop to : ℕ) (layers : List (List (Ranged Deco))) (ranges : List Range) → stop ≤ to → to ≤ length text → Agree (pieces_of text from stop layers ranges).pieces (pieces_of text from to layers ranges).pieces
parts_agree text from stop to layers ranges order within =
    let style = block_style from layers in
    let items = items_on stop from to layers order in
    let f : ℕ → Style = λ (p : ℕ). style_at style (style_ranges from stop layers ranges) (from + p) in
    let g : ℕ → Style = λ (p : ℕ). style_at style (style_ranges from to layers ranges) (from + p) in
    let same : (p : ℕ) → p < stop - from → f p ≡ g p = λ p inside. styles_on (from + p) stop from to layers ranges style (omega arith) order in
    let agree = walked_agree text from stop to style f g order within same from (items_of from stop layers) items.late (omega arith) items.are_early items.are_late in
    let own = walked-ruled (block_of text from stop layers ranges) (items_of from stop layers) (items-forward from stop layers) (items-rise from stop layers) in
    let all = walked-ruled (block_of text from to layers ranges) (items_of from to layers) (items-forward from to layers) (items-rise from to layers) in
    let whole = ap (λ (xs : List ItemView). walked (block_of text from to layers ranges) from xs) (sym items.is) ∙ all in
    rw (← own, ← whole) agree

pub part_tells : (text : List ℕ) (from stop to : ℕ) (layers : List (List (Ranged Deco))) (ranges : List Range) (goal : Goal) (filling : FillingView) → stop ≤ to → to ≤ length text → filling ≡ all_put goal (pieces_of text from stop layers ranges) → filling.over ≡ true → filling.pieces ≡ wanted goal (pieces_of text from to layers ranges)
part_tells text from stop to layers ranges goal filling order within is over =
    let start = begun (block_style from layers) goal in
    let left_out : (all_put goal (pieces_of text from stop layers ranges)).over ≡ true = sym (ap (λ (f : FillingView). f.over) is) ∙ over in
    ap (λ (f : FillingView). f.pieces) is
    ∙ sym (agree_kept start _ _ (parts_agree text from stop to layers ranges order within) refl left_out)
    ∙ all_wanted goal (pieces_of text from to layers ranges) refl
