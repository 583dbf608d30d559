use Rattle.std.proofs.Common.{◌≡◌, ◌++◌, drop}
use Rattle.configuration.specs.Pairs.{field_pairs_from}
use Rattle.configuration.proofs.pairs.push_fields.Given as goal

abbrev pub invariant-loop-field : goal.invariant-loop-field
invariant-loop-field l = l.edges.items ++ field_pairs_from l.counts.facets l.counts.fields l.defs l.field (drop l.field l.nodes) ≡ l.initial.edges.items ++ field_pairs_from l.counts.facets l.counts.fields l.defs 0 l.nodes
