use Rattle.std.proofs.Common.{◌≡◌, drop, map}
use Rattle.registry.specs.Refusals.{first_of, read_known}
use Rattle.registry.proofs.known.reads_known.Given as goal

abbrev pub invariant-loop-read : goal.invariant-loop-read
invariant-loop-read l = first_of (map (read_known l.facets l.fields) (drop l.read-index l.reads)) ≡ first_of (map (read_known l.facets l.fields) l.reads)
