use Rattle.std.proofs.Common.{ℕ, List, length}
use Rattle.std.proofs.lemmas.Result.{err_from_is_err_and}
use Rattle.ext_tree.specs.Tree.{Tree, tree_of}
use Rattle.ext_tree.specs.Unfolding.{unfolding_of}
use Rattle.ext_tree.specs.Refusal.{slots_met}
use Rattle.configuration.specs.Present.{inputs_of, node_of_field}
use Rattle.ext_tree.specs.Flat.{flat_order}
use Rattle.configuration.proofs.Resolving.{as-many, inputs-are, fields-are, edges-are, order-is, cause-is, edges-within, contents-are}
use Rattle.configuration.proofs.config.Config.resolve.Goals as goal

pub dependency_pairs-requires-clause-inputs : goal.dependency_pairs-requires-clause-inputs
dependency_pairs-requires-clause-inputs g c =
    as-many (λ (facet : ℕ). inputs_of c.nodes-nodes.result.now facet c.deref.result.now) c.deref-3.result.now c.in_ok-inputs.inputs.items c.facet_count.result (length c.args.defs.now.facets) c.deref-3.ensures.value c.in_ok-inputs.ensures c.facet_count.ensures

pub dependency_pairs-requires-clause-nodes : goal.dependency_pairs-requires-clause-nodes
dependency_pairs-requires-clause-nodes g c =
    as-many (λ (field : ℕ). node_of_field c.nodes-nodes.result.now field c.deref-2.result.now) c.deref-4.result.now c.in_ok-fields.fields.items c.field_count.result (length c.args.defs.now.fields) c.deref-4.ensures.value c.in_ok-fields.ensures c.field_count.ensures

pub ordered-requires : goal.ordered-requires
ordered-requires g c =
    edges-within (tree_of c.args.arena.now c.args.contents.now c.args.defs.now.links) c.args.defs.now.facets c.args.defs.now.fields c.args.defs.now.node_defs c.args.base.now
    c.vertex_count.result c.in_ok-edges.edges.items c.deref-3.result.now c.deref-4.result.now c.vertex_count.ensures
    (as-many (λ (facet : ℕ). inputs_of c.nodes-nodes.result.now facet c.deref.result.now) c.deref-3.result.now c.in_ok-inputs.inputs.items c.facet_count.result (length c.args.defs.now.facets) c.deref-3.ensures.value c.in_ok-inputs.ensures c.facet_count.ensures)
    (as-many (λ (field : ℕ). node_of_field c.nodes-nodes.result.now field c.deref-2.result.now) c.deref-4.result.now c.in_ok-fields.fields.items c.field_count.result (length c.args.defs.now.fields) c.deref-4.ensures.value c.in_ok-fields.ensures c.field_count.ensures)
    c.in_ok-edges.ensures

pub returns-in_err-order-clause-refuses : goal.returns-in_err-order-clause-refuses
returns-in_err-order-clause-refuses g c =
    let p = err_from_is_err_and c.from_residual-in_err-order.result c.from_residual-in_err-order.ensures.1 in
    let t : Tree = tree_of c.args.arena.now c.args.contents.now c.args.defs.now.links in
    let whole : List ℕ = flat_order t c.args.base.now in
    rw (p.1, p.2)
    (cause-is t c.args.defs.now.facets c.args.defs.now.fields c.args.defs.now.node_defs c.args.base.now c.facet_count-2.result c.vertex_count.result c.in_ok-edges.edges.items c.in_err-order.field-0.0 c.facet_count-2.ensures c.vertex_count.ensures
    (edges-are t c.args.defs.now.facets c.args.defs.now.fields c.args.defs.now.node_defs c.args.base.now c.in_ok-edges.edges.items c.deref-3.result.now c.in_ok-inputs.inputs.items c.deref-4.result.now c.in_ok-fields.fields.items c.deref-3.ensures.value c.deref-4.ensures.value
    (inputs-are c.args.arena.now c.nodes-nodes.result.now c.facet_count.result (length c.args.defs.now.facets) c.deref.result.now c.in_ok-flat.field-0.order.items whole c.in_ok-inputs.inputs.items c.nodes-nodes.ensures.nodes c.facet_count.ensures c.deref.ensures.value c.in_ok-flat.ensures.order c.in_ok-inputs.ensures)
    (fields-are c.args.arena.now c.nodes-nodes.result.now c.field_count.result (length c.args.defs.now.fields) c.deref-2.result.now c.in_ok-flat.field-0.order.items whole c.in_ok-fields.fields.items c.nodes-nodes.ensures.nodes c.field_count.ensures c.deref-2.ensures.value c.in_ok-flat.ensures.order c.in_ok-fields.ensures)
    c.in_ok-edges.ensures)
    c.in_ok-flat.ensures.passes c.in_err-order.ensures.cycle)

pub returns-clause-config : goal.returns-clause-config
returns-clause-config g c =
    let t : Tree = tree_of c.args.arena.now c.args.contents.now c.args.defs.now.links in
    let whole : List ℕ = flat_order t c.args.base.now in
    let inputs = inputs-are c.args.arena.now c.nodes-nodes.result.now c.facet_count.result (length c.args.defs.now.facets) c.deref.result.now c.in_ok-flat.field-0.order.items whole c.in_ok-inputs.inputs.items c.nodes-nodes.ensures.nodes c.facet_count.ensures c.deref.ensures.value c.in_ok-flat.ensures.order c.in_ok-inputs.ensures in
    let fields = fields-are c.args.arena.now c.nodes-nodes.result.now c.field_count.result (length c.args.defs.now.fields) c.deref-2.result.now c.in_ok-flat.field-0.order.items whole c.in_ok-fields.fields.items c.nodes-nodes.ensures.nodes c.field_count.ensures c.deref-2.ensures.value c.in_ok-flat.ensures.order c.in_ok-fields.ensures in
    record {
      passes = c.in_ok-flat.ensures.passes;
      base_is = c.in_ok-copied.ensures;
      flat_is = c.in_ok-flat.ensures.order;
      inputs_are = inputs;
      fields_are = fields;
      order_is = order-is t c.args.defs.now.facets c.args.defs.now.fields c.args.defs.now.node_defs c.args.base.now c.facet_count-2.result c.vertex_count.result c.in_ok-edges.edges.items c.in_ok-order.order.items c.facet_count-2.ensures c.vertex_count.ensures
          (edges-are t c.args.defs.now.facets c.args.defs.now.fields c.args.defs.now.node_defs c.args.base.now c.in_ok-edges.edges.items c.deref-3.result.now c.in_ok-inputs.inputs.items c.deref-4.result.now c.in_ok-fields.fields.items c.deref-3.ensures.value c.deref-4.ensures.value inputs fields c.in_ok-edges.ensures)
          c.in_ok-order.ensures.order;
      contents_are = contents-are c.args.arena.now c.nodes-nodes.result.now c.args.contents.now c.in_ok-keep_only.field-0 c.deref-6.result.now c.in_ok-compartments.compartments.items c.deref-5.result.now c.in_ok-flat.field-0.slots.items (slots_met t (unfolding_of t c.args.base.now))
          c.nodes-nodes.ensures.nodes c.deref-6.ensures.value c.in_ok-compartments.ensures c.deref-5.ensures.value c.in_ok-flat.ensures.slots c.in_ok-keep_only.ensures;
    }
