use Rattle.std.proofs.Common.{◌-◌, length}
use Rattle.change_set.specs.Totals.{IsTotal}
use Rattle.change_set.proofs.change_set.ChangeSet.of.Given as goal

-- the total so far and the changes that are left decide
abbrev pub invariant-rest : goal.invariant-rest
invariant-rest l = IsTotal l.len l.max l.index l.total l.changes

abbrev pub decreases-rest : goal.decreases-rest
decreases-rest l = length l.changes - l.index
