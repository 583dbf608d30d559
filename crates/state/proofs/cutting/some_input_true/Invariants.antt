use Rattle.std.proofs.Common.{◌≡◌, drop}
use Rattle.state.specs.Cutting.{some_input_true}
use Rattle.state.proofs.cutting.some_input_true.Given as goal

abbrev pub invariant-loop-node : goal.invariant-loop-node
invariant-loop-node l = some_input_true l.defs.node_defs (drop l.node-index l.nodes) ≡ some_input_true l.defs.node_defs l.nodes
