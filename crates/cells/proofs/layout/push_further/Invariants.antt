use Rattle.std.proofs.Common.{◌≡◌, ◌++◌, ◌-◌}
use Rattle.cells.specs.Layout.{rests}
use Rattle.cells.proofs.layout.push_further.Given as goal

abbrev pub invariant-loop-before : goal.invariant-loop-before
invariant-loop-before l = l.cells.items ++ rests l.before (l.width - l.before) ≡ l.fn.cells.items ++ rests 1 (l.width - 1)
