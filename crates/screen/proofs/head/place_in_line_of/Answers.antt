use Rattle.std.proofs.Common.{◌≡◌, ◌-◌, ℕ, List, sym, ap, ◌∙◌}
use Rattle.std.specs.Prelude.{IfSome, Option, Some, slice_get}
use Rattle.line_tree.specs.declared.line.Line as lines
use Rattle.blocks.specs.Hiding.{blocks_of}
use Rattle.blocks.proofs.Plain.{plain_blocks}
use Rattle.pieces.specs.Rules.{pieces_of}
use Rattle.line_rows.specs.Column.{column_of}
use Rattle.line_rows.proofs.PlaceSteps.{plain_column}
use Rattle.screen.specs.declared.head.HeadPlace.{HeadPlace}
use Rattle.screen.specs.Screen.{shown_view}
use Rattle.screen.proofs.Changes.{head_lies}
use Rattle.screen.proofs.Heads.{block_found, head_found, wide_some}
use Rattle.screen.proofs.head.place_in_line_of.Goals as goal

-- a place of a line by its column and width
abbrev at : ℕ → ℕ × ℕ → Option HeadPlace
at number found = Some (record { number = number; column = found.0; width = found.1 })

pub line_at-line-requires : goal.line_at-line-requires
line_at-line-requires c = head_lies _ _ _ c.main-main.result c.requires.inside c.main-main.ensures

found_is : (found : Option (ℕ × ℕ)) (place all : ℕ × ℕ) → found ≡ Some place → IfSome found (λ p. p ≡ all) → place ≡ all
found_is found place all is holds = rw is at holds

pub returns-in-Some-clause-value : goal.returns-in-Some-clause-value
returns-in-Some-clause-value c =
    let v = shown_view c.args.view.now in
    let main = c.main-main.result in
    let line : lines.Line = c.line_at-line.result in
    let column = found_is c.in_ok-found.found (c.in-Some.column, c.in-Some.width) _ c.in-Some.is c.in_ok-found.ensures ∙ plain_column v.tab (main.head - line.from) v.text line.from line.to v.layers v.selection.ranges c.requires.plain in
    let is_line : slice_get (blocks_of v.text v.layers) (line.number - 1) ≡ Some line =
    ap (λ (bs : List lines.Line). slice_get bs (line.number - 1)) (plain_blocks v.text v.layers c.requires.plain) ∙ c.line_at-line.ensures.line in
    head_found v main line c.main-main.ensures (block_found v (line.number - 1) main.head line is_line c.line_at-line.ensures.starts c.line_at-line.ensures.ends)
    ∙ sym (ap (at line.number) column)

pub returns-in-Some-clause-some : goal.returns-in-Some-clause-some
returns-in-Some-clause-some c =
    let v = shown_view c.args.view.now in
    let line : lines.Line = c.line_at-line.result in
    let pos = c.main-main.result.head - line.from in
    let column = found_is c.in_ok-found.found (c.in-Some.column, c.in-Some.width) _ c.in-Some.is c.in_ok-found.ensures ∙ plain_column v.tab pos v.text line.from line.to v.layers v.selection.ranges c.requires.plain in
    rw (ap (λ (r : ℕ × ℕ). r.1) column) (wide_some v.tab pos 0 (pieces_of v.text line.from line.to v.layers v.selection.ranges).pieces)
