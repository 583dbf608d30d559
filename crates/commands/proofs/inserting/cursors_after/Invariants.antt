use Rattle.std.proofs.Common.{◌≡◌, ◌*◌, ◌≤◌, ◌++◌, drop}
use Rattle.commands.specs.Inserting.{cursors_after}
use Rattle.commands.proofs.inserting.cursors_after.Given as goal

abbrev pub invariant-loop-range : goal.invariant-loop-range
invariant-loop-range l = record {
  put_small : l.put ≤ l.range-index * 4294967296;
  taken_small : l.taken ≤ l.range-index * 4294967296;
  rest : l.cursors.items ++ cursors_after l.len l.put l.taken (drop l.range-index l.ranges) ≡ cursors_after l.len 0 0 l.ranges;
}
