use Rattle.std.proofs.Common.{◌≡◌, ◌++◌, drop}
use Rattle.facet_slots.specs.FacetValues.{joined}
use Rattle.facet_slots.proofs.outputs.joined.Given as goal

abbrev pub invariant-loop-list : goal.invariant-loop-list
invariant-loop-list l = l.values.items ++ joined (drop l.list-index l.lists) ≡ joined l.lists
