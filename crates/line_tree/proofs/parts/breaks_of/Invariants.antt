use Rattle.std.proofs.Common.{◌≡◌, ◌*◌, ◌^◌, ◌≤◌, take}
use Rattle.line_tree.proofs.Joins.{breaks}
use Rattle.line_tree.proofs.parts.breaks_of.Given as goal

abbrev pub invariant-loop-part : goal.invariant-loop-part
invariant-loop-part l = record {
  value : l.breaks ≡ breaks (take l.part-index l.parts);
  tall : l.part-index * 2 ^ l.height ≤ l.breaks;
}
