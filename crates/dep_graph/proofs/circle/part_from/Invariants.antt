use Rattle.std.proofs.Common.{drop}
use Rattle.id_lists.specs.Members.{In}
use Rattle.dep_graph.proofs.circle.part_from.Given as goal

abbrev pub invariant-loop-place : goal.invariant-loop-place
invariant-loop-place l = In l.vertex (drop l.place l.path)
