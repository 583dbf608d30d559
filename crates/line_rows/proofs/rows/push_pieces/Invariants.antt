use Rattle.std.proofs.Common.{◌≡◌, ◌+◌, ◌*◌, ◌^◌, ◌≤◌, ◌++◌, drop}
use Rattle.line_rows.specs.Row.{pieces_in_window}
use Rattle.line_rows.proofs.rows.push_pieces.Given as goal

abbrev pub invariant-loop-piece : goal.invariant-loop-piece
invariant-loop-piece l = record {
  column : l.at ≤ l.pieces.start + l.piece-index * 2 ^ 63;
  rest : l.row.items ++ pieces_in_window l.tab l.left l.cols l.at (drop l.piece-index l.pieces.pieces) ≡ l.fn.row.items ++ pieces_in_window l.tab l.left l.cols l.pieces.start l.pieces.pieces;
}
