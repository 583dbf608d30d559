use Rattle.std.proofs.Common.{◌≡◌, ◌++◌, drop}
use Rattle.configuration.specs.Pairs.{facet_pairs_from}
use Rattle.configuration.proofs.pairs.push_facets.Given as goal

abbrev pub invariant-loop-facet : goal.invariant-loop-facet
invariant-loop-facet g l = l.edges.items ++ facet_pairs_from l.counts.facets l.counts.fields l.node_defs l.facet (drop l.facet l.inputs) ≡ l.initial.edges.items ++ facet_pairs_from l.counts.facets l.counts.fields l.node_defs 0 l.inputs
