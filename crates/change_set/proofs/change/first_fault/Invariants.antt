use Rattle.std.proofs.Common.{◌≡◌, drop}
use Rattle.change_set.specs.Refusals.{first_fault}
use Rattle.change_set.proofs.change.first_fault.Given as goal

-- the changes that are left decide
abbrev pub invariant-loop-index : goal.invariant-loop-index
invariant-loop-index l = first_fault l.len l.index (drop l.index l.changes) ≡ first_fault l.len 0 l.changes
