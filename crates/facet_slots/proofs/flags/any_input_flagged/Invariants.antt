use Rattle.std.proofs.Common.{◌≡◌, drop, map}
use Rattle.std.specs.List.{list_any}
use Rattle.facet_slots.specs.Setups.{input_node}
use Rattle.facet_slots.specs.Lent.{flags_in}
use Rattle.facet_slots.specs.Nexts.{input_flagged}
use Rattle.facet_slots.proofs.flags.any_input_flagged.Given as goal

abbrev pub invariant-loop-node : goal.invariant-loop-node
invariant-loop-node l =
    list_any (input_flagged l.draft.moved (flags_in l.draft.kept)) (map (input_node l.node_defs) (drop l.node-index l.nodes))
    ≡ list_any (input_flagged l.draft.moved (flags_in l.draft.kept)) (map (input_node l.node_defs) l.nodes)
