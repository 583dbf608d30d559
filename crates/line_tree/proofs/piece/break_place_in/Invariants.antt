use Rattle.std.proofs.Common.{◌≡◌, ◌≤◌, take}
use Rattle.line_tree.specs.Breaks.{count_breaks}
use Rattle.line_tree.proofs.piece.break_place_in.Given as goal

abbrev pub invariant-loop-index : goal.invariant-loop-index
invariant-loop-index l = record {
  seen : l.seen ≡ count_breaks (take l.index l.characters);
  below : l.seen ≤ l.before;
}
