use Rattle.std.proofs.Common.{◌≡◌, ◌<◌, ◌≤◌, arith, ap, ◌∙◌, length}
use Rattle.cells.specs.Layout.{cells_of}
use Rattle.line_rows.proofs.Windows.{edge_end, pieces_step, pieces_end}
use Rattle.line_rows.proofs.rows.push_pieces.Goals as goal

pub loop-piece-preserved : goal.loop-piece-preserved
loop-piece-preserved c =
    let count : c.len-count.result ≡ length c.in_ok-cells.cells.items = omega (arith, c.in_ok-cells.cells.ok.0) in
    let inside : c.loop-piece.piece-index < length c.args.pieces.now.pieces = omega (arith, ap length c.list-piece-items.ensures.value) in
    record {
      column = omega (arith, c.in_ok-cells.cells.small, c.loop-piece.invariant.column);
      rest = pieces_step c.args.tab c.args.left c.args.cols c.loop-piece.at c.piece-item.result _ c.loop-piece.piece-index _ _ _ _ _ inside
          (rw c.list-piece-items.ensures.value at c.piece-item.is)
          (c.in_ok-cells.ensures ∙ ap (cells_of c.args.tab c.loop-piece.at) c.text.ensures) count
          (rw (← c.style.ensures) c.in_ok-push_part.ensures) c.loop-piece.invariant.rest;
    }

pub returns : goal.returns
returns c =
    let past : length c.args.pieces.now.pieces ≤ c.loop-piece.piece-index = omega (arith, ap length c.list-piece-items.ensures.value) in
    pieces_end c.args.tab c.args.left c.args.cols c.loop-piece.at c.args.pieces.now.pieces c.loop-piece.piece-index _ _ past c.loop-piece.invariant.rest

pub returns-then-at-left-2 : goal.returns-then-at-left-2
returns-then-at-left-2 c =
    edge_end c.args.tab c.args.left c.args.cols c.loop-piece.at _ _ _ (omega (arith, c.if-at-left.true, c.if-at-left-2.true)) c.loop-piece.invariant.rest
