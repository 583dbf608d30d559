use Rattle.std.proofs.Common.{◌≡◌, None, [], length, ap, ◌∙◌, arith}
use Rattle.blocks.specs.Hiding.{BlocksView}
use Rattle.screen.specs.Screen.{block_at, shown_view}
use Rattle.screen.proofs.Changes.{past_row, zero_block, no_block}
use Rattle.screen.proofs.screen.row_pieces.Goals.{then-number-eq0-via-then-number-eq0, then-number-eq0-via-else-number-eq0+then-number-from}
use Rattle.screen.proofs.screen.row_pieces.Goals as goal

pub returns-then-number-eq0 : goal.returns-then-number-eq0
returns-then-number-eq0 c =
    let v = shown_view c.args.view.now in
    let none : block_at v c.args.number ≡ None = elim c.then-number-eq0.branch [
      | then-number-eq0-via-then-number-eq0 w ↦ zero_block v c.args.number (omega (arith, w.if-number-eq0.true))
      | then-number-eq0-via-else-number-eq0+then-number-from w ↦ no_block v c.args.number
          (omega (arith, w.count.ensures, w.from.ensures, w.if-number-from.true, ap (λ (b : BlocksView). length b.blocks) c.requires.blocks))
    ] in
    c.none.ensures ∙ (λ i. record { style = c.plain.ensures i; start = 0; pieces = [] }) ∙ past_row v c.args.number none
