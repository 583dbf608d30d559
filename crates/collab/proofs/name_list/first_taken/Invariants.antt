use Rattle.std.proofs.Common.{◌≡◌, [], take, drop}
use Rattle.collab.specs.Worlds.{taken_name}
use Rattle.collab.proofs.name_list.first_taken.Given as goal

abbrev pub invariant-loop-index : goal.invariant-loop-index
invariant-loop-index l = taken_name (take l.index l.names) (drop l.index l.names) ≡ taken_name [] l.names
