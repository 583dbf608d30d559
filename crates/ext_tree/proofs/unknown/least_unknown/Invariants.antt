use Rattle.std.proofs.Common.{◌≡◌, drop, fold}
use Rattle.id_lists.specs.Least.{lesser}
use Rattle.ext_tree.specs.Unknown.{unknown_ids, least_unknown}
use Rattle.ext_tree.proofs.unknown.least_unknown.Given as goal

abbrev pub invariant-loop-id : goal.invariant-loop-id
invariant-loop-id l = fold lesser l.least (unknown_ids l.count (drop l.id-index l.ids)) ≡ least_unknown l.count l.ids
