use Rattle.std.proofs.Common.{◌≡◌, fold}
use Rattle.id_lists.specs.Least.{lesser}
use Rattle.compartments.specs.Contents.{content_nodes}
use Rattle.ext_tree.specs.Unknown.{unknown_ids}
use Rattle.ext_tree.proofs.unknown.least_unknown_of_call.Given as goal

abbrev pub invariant-loop-node : goal.invariant-loop-node
invariant-loop-node l = fold lesser l.least (unknown_ids l.count l.node-iterator) ≡ fold lesser l.initial.least (unknown_ids l.count (content_nodes l.contents))
