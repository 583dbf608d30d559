use Rattle.std.proofs.Common.{◌∙◌, map, ap}
use Rattle.configuration.specs.Vertices.{vertex_at}
use Rattle.configuration.proofs.ordering.ordered.Goals as goal

pub returns-in_ok-order-in-Ok-clause-order : goal.returns-in_ok-order-in-Ok-clause-order
returns-in_ok-order-in-Ok-clause-order c = record {
  numbers = c.in-Ok.numbers.items;
  vertices_are = c.in_ok-order-in-Ok.ensures ∙ ap (map (vertex_at c.args.facets)) c.deref.ensures.value;
  is_order = c.in-Ok.ensures.order;
}

pub returns-in_ok-vertices_at-in-Err-Cycle-clause-cycle : goal.returns-in_ok-vertices_at-in-Err-Cycle-clause-cycle
returns-in_ok-vertices_at-in-Err-Cycle-clause-cycle c = record {
  numbers = c.in-Err-Cycle.members.items;
  vertices_are = c.new-members.ensures ∙ c.in_ok-vertices_at-in-Err-Cycle.ensures ∙ ap (map (vertex_at c.args.facets)) c.deref-in-Err-Cycle.ensures.value;
  is_circle = rw c.in-Err-Cycle.field-0-is at c.in-Err-Cycle.ensures.cycle;
}
