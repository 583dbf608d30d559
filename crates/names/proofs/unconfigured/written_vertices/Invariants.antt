use Rattle.std.proofs.Common.{◌≡◌, map, take}
use Rattle.names.specs.ConfigRefusals.{written_vertex}
use Rattle.names.proofs.unconfigured.written_vertices.Given as goal

abbrev pub invariant-loop-vertex : goal.invariant-loop-vertex
invariant-loop-vertex l = l.texts.items ≡ map (written_vertex l.names) (take l.vertex-index l.vertices)
