use Rattle.std.proofs.Common.{◌≡◌, ◌<◌, ℕ, None, drop, length, get_or}
use Rattle.std.specs.Option.{option_or}
use Rattle.configuration.specs.Present.{node_of_field}
use Rattle.configuration.proofs.present.nodes_by_field.Given as goal

abbrev pub invariant-loop-node : goal.invariant-loop-node
invariant-loop-node l = record {
  as_many : length l.found.items ≡ l.fields;
  noted : (f : ℕ) → f < l.fields → option_or (get_or l.found.items f None) (node_of_field l.nodes f (drop l.node-index l.order)) ≡ node_of_field l.nodes f l.order;
}
