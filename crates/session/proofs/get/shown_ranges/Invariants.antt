use Rattle.std.proofs.Common.{◌≡◌, ◌++◌}
use Rattle.session.specs.Values.{shown_ranges}
use Rattle.session.proofs.get.shown_ranges.Given as goal

abbrev pub invariant-loop-range : goal.invariant-loop-range
invariant-loop-range l = l.ranges.items ++ shown_ranges l.range-iterator ≡ shown_ranges l.fn.set
