use Rattle.std.proofs.Common.{◌≡◌}
use Rattle.range_set.proofs.group_builder.near_len.Given as goal

abbrev pub invariant-loop-placed : goal.invariant-loop-placed
invariant-loop-placed g l = l.count ≡ l.placed-index
