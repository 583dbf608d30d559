use Rattle.std.proofs.Common.{◌≡◌, ◌<◌, ◌++◌, ℕ, [], drop, length, get_or}
use Rattle.configuration.specs.Present.{inputs_of}
use Rattle.configuration.proofs.present.inputs_by_facet.Given as goal

abbrev pub invariant-loop-facet : goal.invariant-loop-facet
invariant-loop-facet l = record {
  as_many : length l.inputs.items ≡ l._facet;
  none : (f : ℕ) → get_or l.inputs.items f [] ≡ [];
}

abbrev pub invariant-loop-node : goal.invariant-loop-node
invariant-loop-node l = record {
  as_many : length l.inputs.items ≡ l.facets;
  placed : (f : ℕ) → f < l.facets → get_or l.inputs.items f [] ++ inputs_of l.nodes f (drop l.node-index l.order) ≡ inputs_of l.nodes f l.order;
}
