use Rattle.std.proofs.Common.{◌≡◌, ◌++◌, map, drop}
use Rattle.facet_slots.specs.Scenes.{vertices_of}
use Rattle.facet_slots.specs.Keeping.{held}
use Rattle.facet_slots.proofs.deps.values_read.Given as goal

abbrev pub invariant-loop-read : goal.invariant-loop-read
invariant-loop-read l =
    l.values.items ++ map (held l.shelf.facets l.shelf.fields) (vertices_of (drop l.read-index l.reads))
    ≡ map (held l.shelf.facets l.shelf.fields) (vertices_of l.reads)
