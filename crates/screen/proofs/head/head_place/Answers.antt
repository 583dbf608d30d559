use Rattle.std.proofs.Common.{◌-◌, ℕ, length, sym, ap, ◌∙◌, arith}
use Rattle.std.specs.Prelude.{Option, Some, slice_get}
use Rattle.line_tree.specs.declared.line.Line as lines
use Rattle.pieces.specs.Piece.{PiecesView}
use Rattle.pieces.specs.Rules.{pieces_of}
use Rattle.line_rows.specs.Column.{column_of}
use Rattle.line_rows.proofs.ColumnSteps.{column_at}
use Rattle.blocks.specs.Hiding.{BlocksView}
use Rattle.screen.specs.declared.head.HeadPlace.{HeadPlace}
use Rattle.screen.specs.Screen.{shown_view}
use Rattle.screen.proofs.Changes.{head_lies}
use Rattle.screen.proofs.Heads.{block_found, head_found, wide_some}
use Rattle.screen.proofs.head.head_place.Goals as goal

-- a place of a block by its column and width
abbrev at : ℕ → ℕ × ℕ → Option HeadPlace
at number found = Some (record { number = number; column = found.0; width = found.1 })

pub at-block-requires : goal.at-block-requires
at-block-requires c =
    let lies = head_lies _ _ _ c.main-main.result c.requires.inside c.main-main.ensures in
    omega (arith, lies, ap (λ (b : BlocksView). length b.text) c.requires.blocks)

pub returns-clause-value : goal.returns-clause-value
returns-clause-value c =
    let v = shown_view c.args.view.now in
    let main = c.main-main.result in
    let place = main.head - c.at-block.result.from in
    let block : lines.Line = record { number = c.at-block.result.number; from = c.at-block.result.from; to = c.at-block.result.to } in
    let all = pieces_of v.text block.from block.to v.layers v.selection.ranges in
    let column =
    c.column_of-column.ensures
    ∙ ap (λ (p : PiecesView). column_of c.args.view.now.tab place p.start p.pieces) c.in_ok-found.ensures
    ∙ column_at c.args.view.now.tab place 0 all.pieces in
    let is_block = sym (ap (λ (b : BlocksView). slice_get b.blocks (c.at-block.result.number - 1)) c.requires.blocks) ∙ c.at-block.ensures.block in
    head_found v main block c.main-main.ensures (block_found v (block.number - 1) main.head block is_block c.at-block.ensures.starts c.at-block.ensures.ends)
    ∙ sym (ap (at block.number) column)

pub returns-clause-some : goal.returns-clause-some
returns-clause-some c =
    let place = c.main-main.result.head - c.at-block.result.from in
    rw (ap (λ (r : ℕ × ℕ). r.1) c.column_of-column.ensures) (wide_some c.args.view.now.tab place c.in_ok-found.found.start c.in_ok-found.found.pieces)
