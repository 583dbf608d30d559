use Rattle.std.proofs.Common.{arith, length, ap, List}
use Rattle.configuration.specs.declared.vertex.Vertex.{Vertex}
use Rattle.facet_slots.specs.Setups.{new_facets}
use Rattle.facet_slots.specs.Lent.{setup_of}
use Rattle.facet_slots.proofs.Places.{length-since}
use Rattle.facet_slots.proofs.order.order_len.Goals as goal

pub returns : goal.returns
returns c =
    let setup = setup_of c.args.setup.now in
    let all = length-since setup.config.order (length setup.config.inputs) (new_facets setup) in
    let order = ap (λ (vs : List Vertex). length vs) c.order.ensures in
    omega (arith, all, order, c.facet_count.ensures, c.facet_count-2.ensures)
