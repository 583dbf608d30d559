use Rattle.std.proofs.Common.{◌≡◌, ◌≤◌, take}
use Rattle.line_tree.specs.Breaks.{count_breaks}
use Rattle.line_tree.proofs.piece.breaks_in.Given as goal

abbrev pub invariant-loop-c : goal.invariant-loop-c
invariant-loop-c l = record {
  counted : l.breaks ≡ count_breaks (take l.c-index l.characters);
  few : l.breaks ≤ l.c-index;
}
