use Rattle.std.proofs.Common.{◌≡◌, ◌++◌, drop, flat_map}
use Rattle.configuration.specs.Pairs.{read_pair}
use Rattle.configuration.proofs.pairs.push_reads.Given as goal

abbrev pub invariant-loop-read : goal.invariant-loop-read
invariant-loop-read l = l.edges.items ++ flat_map (read_pair l.counts.facets l.counts.fields l.vertex) (drop l.read-index l.reads) ≡ l.initial.edges.items ++ flat_map (read_pair l.counts.facets l.counts.fields l.vertex) l.reads
