use Rattle.std.proofs.Common.{◌≡◌, drop, map}
use Rattle.registry.specs.Refusals.{first_of, known}
use Rattle.registry.proofs.known.all_known.Given as goal

abbrev pub invariant-loop-id : goal.invariant-loop-id
invariant-loop-id l = first_of (map (known l.sort l.count) (drop l.id-index l.ids)) ≡ first_of (map (known l.sort l.count) l.ids)
