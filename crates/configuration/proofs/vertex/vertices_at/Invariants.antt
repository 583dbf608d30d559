use Rattle.std.proofs.Common.{◌≡◌, map, take}
use Rattle.configuration.specs.Vertices.{vertex_at}
use Rattle.configuration.proofs.vertex.vertices_at.Given as goal

abbrev pub invariant-loop-number : goal.invariant-loop-number
invariant-loop-number l = l.vertices.items ≡ map (vertex_at l.facets) (take l.number-index l.numbers)
