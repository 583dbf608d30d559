use Rattle.std.proofs.Common.{◌≡◌, take}
use Rattle.change_set.specs.Protected.{pairs}
use Rattle.change_set.proofs.protection.sorted.Given as goal

-- the ranges so far
abbrev pub invariant-loop-range : goal.invariant-loop-range
invariant-loop-range l = pairs l.ranges.items ≡ take l.range-index l.given
