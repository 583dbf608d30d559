use Rattle.std.proofs.Common.{◌≡◌}
use Rattle.range_set.proofs.chunk_builder.short_len.Given as goal

abbrev pub invariant-loop-range : goal.invariant-loop-range
invariant-loop-range g l = l.count ≡ l.range-index
