use Rattle.std.proofs.Common.{◌-◌, length}
use Rattle.change_desc.specs.Walker.{IsPassed}
use Rattle.change_desc.proofs.passed.Passed.up_to.Given as goal

-- the passed sections stay ones that are passed, and each turn passes one more
abbrev pub invariant-walk : goal.invariant-walk
invariant-walk l = IsPassed l.sections l.passed l.pos

abbrev pub decreases-walk : goal.decreases-walk
decreases-walk l = length l.sections - l.passed.count
