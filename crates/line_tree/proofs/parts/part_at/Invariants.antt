use Rattle.std.proofs.Common.{◌≡◌, ◌<◌, ◌≤◌, length, take}
use Rattle.line_tree.specs.Breaks.{count_breaks}
use Rattle.line_tree.specs.Places.{before_break}
use Rattle.line_tree.proofs.parts.part_at.Given as goal

abbrev pub invariant-loop-index : goal.invariant-loop-index
invariant-loop-index l = record {
  some : l.index < length l.parts;
  starts : l.from ≤ l.pos;
  from_is : l.from ≡ length (before_break (take l.index l.parts));
  breaks_is : l.breaks ≡ count_breaks (before_break (take l.index l.parts));
}
