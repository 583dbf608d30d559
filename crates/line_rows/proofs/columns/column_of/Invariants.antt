use Rattle.std.proofs.Common.{◌≡◌, ◌+◌, ◌*◌, ◌-◌, ◌^◌, ◌≤◌, drop}
use Rattle.line_rows.specs.Column.{column_of}
use Rattle.line_rows.proofs.columns.column_of.Given as goal

abbrev pub invariant-loop-piece : goal.invariant-loop-piece
invariant-loop-piece l = record {
  bound : l.column ≤ l.pieces.start + l.piece-index * (16 * (2 ^ 64 - 1));
  rest : column_of l.tab l.pos l.column (drop l.piece-index l.pieces.pieces) ≡ column_of l.tab l.pos l.pieces.start l.pieces.pieces;
}
