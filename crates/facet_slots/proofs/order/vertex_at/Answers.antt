use Rattle.std.proofs.Common.{arith, ◌≡◌, ◌≤◌, ◌+◌, ◌∙◌, length, map, slice_get, Some, ap, sym, refl, ◌-◌, List}
use Rattle.std.specs.List.{range_with_len}
use Rattle.std.proofs.lemmas.Option.{slice_get_read}
use Rattle.configuration.specs.declared.vertex.Vertex.{Vertex}
use Rattle.configuration.specs.declared.vertex.Vertex.TheVariants.{Facet}
use Rattle.facet_slots.specs.Setups.{new_facets}
use Rattle.facet_slots.specs.Lent.{setup_of}
use Rattle.facet_slots.proofs.Places.{got-first, length-since, place-since}
use Rattle.facet_slots.proofs.order.vertex_at.Goals as goal

pub overflow_add-result : goal.overflow_add-result
overflow_add-result c =
    let setup = setup_of c.args.setup.now in
    let all = length-since setup.config.order (length setup.config.inputs) (new_facets setup) in
    let order = ap (λ (vs : List Vertex). length vs) c.order-in-None.ensures in
    let few = c.args.setup.now.defs.now.fits in
    omega (arith, all, order, few, c.facet_count.ensures, c.requires.inside, c.requires.placed)

pub overflow_cast-result : goal.overflow_cast-result
overflow_cast-result c =
    let setup = setup_of c.args.setup.now in
    let all = length-since setup.config.order (length setup.config.inputs) (new_facets setup) in
    let order = ap (λ (vs : List Vertex). length vs) c.order-in-None.ensures in
    let few = c.args.setup.now.defs.now.fits in
    omega (arith, all, order, few, c.facet_count.ensures, c.requires.inside, c.requires.placed)

pub returns-in-Some : goal.returns-in-Some
returns-in-Some c =
    let setup = setup_of c.args.setup.now in
    let at : slice_get c.order.result.now c.args.place ≡ Some c.in-Some.vertex.now = slice_get_read c.order.result.now (length c.order.result.now) c.args.place c.in-Some.vertex.now refl c.in-Some.ensures.lookup.3.0 c.in-Some.ensures.lookup.1 in
    got-first setup.config.order (map Facet (range_with_len (length setup.config.inputs) (new_facets setup))) c.args.place c.in-Some.vertex.now
    (ap (λ (vs : List Vertex). slice_get vs c.args.place) (sym c.order.ensures) ∙ at)

pub returns-in-None : goal.returns-in-None
returns-in-None c =
    let setup = setup_of c.args.setup.now in
    let all = length-since setup.config.order (length setup.config.inputs) (new_facets setup) in
    let order = ap (λ (vs : List Vertex). length vs) c.order.ensures in
    let again = ap (λ (vs : List Vertex). length vs) c.order-in-None.ensures in
    let after : length setup.config.order ≤ c.args.place = omega (arith, order, c.in-None.ensures.lookup.3) in
    let same : length setup.config.inputs + (c.args.place - length setup.config.order) ≡ c.facet_count.result + (c.args.place - length c.order-in-None.result.now) = omega (arith, again, c.facet_count.ensures) in
    place-since setup.config.order (length setup.config.inputs) (new_facets setup) c.args.place after (omega (arith, all, c.requires.inside))
    ∙ ap (λ f. Some (Facet f)) same
