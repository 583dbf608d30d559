use Rattle.std.proofs.Common.{◌≡◌, map, take}
use Rattle.names.specs.ConfigRefusals.{written}
use Rattle.registry.specs.declared.id_sort.IdSort.TheVariants.{Node}
use Rattle.names.proofs.unconfigured.written_nodes.Given as goal

abbrev pub invariant-loop-id : goal.invariant-loop-id
invariant-loop-id l = l.texts.items ≡ map (written l.names Node) (take l.id-index l.ids)
