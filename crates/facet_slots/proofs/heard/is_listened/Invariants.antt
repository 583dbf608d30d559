use Rattle.std.proofs.Common.{◌≡◌, drop, eqb}
use Rattle.std.specs.List.{list_any}
use Rattle.facet_slots.proofs.heard.is_listened.Given as goal

abbrev pub invariant-loop-kind : goal.invariant-loop-kind
invariant-loop-kind l = list_any (eqb l.id) (drop l.kind-index l.listens) ≡ list_any (eqb l.id) l.listens
