use Rattle.std.proofs.Common.{◌-◌, length}
use Rattle.change_set.specs.Protected.{HasEnded}
use Rattle.change_set.proofs.protection.ended.Given as goal

-- so many have ended
abbrev pub invariant-ended : goal.invariant-ended
invariant-ended l = HasEnded l.ranges l.count l.pos

abbrev pub decreases-ended : goal.decreases-ended
decreases-ended l = length l.ranges - l.count
