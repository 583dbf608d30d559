use Rattle.std.proofs.Common.{◌≡◌, ◌≤◌, length, take}
use Rattle.std.specs.List.{concat}
use Rattle.line_tree.specs.Breaks.{count_breaks}
use Rattle.line_tree.proofs.chunk.piece_at.Given as goal

abbrev pub invariant-loop-index : goal.invariant-loop-index
invariant-loop-index l = record {
  starts : l.from ≤ l.pos;
  from_is : l.from ≡ length (concat (take l.index l.pieces));
  breaks_is : l.breaks ≡ count_breaks (concat (take l.index l.pieces));
}
