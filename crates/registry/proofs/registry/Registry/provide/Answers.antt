use Rattle.std.proofs.Common.{◌≡◌, ℕ, ◌-◌, IfOk, length, ◌∙◌, ap, subst}
use Rattle.std.specs.List.{range_with_len}
use Rattle.values.specs.Declarations.{Declarations}
use Rattle.registry.specs.WholeFields.{next_nodes}
use Rattle.registry.proofs.Providing.{grows-trans, inputs-length, made-nodes, provided-made, provided-passes, provided-refused}
use Rattle.registry.proofs.registry.Registry.provide.Goals as goal

pub returns-clause-id : goal.returns-clause-id
returns-clause-id g c =
    subst (λ (n : ℕ). IfOk c.field_place.result (λ id. id ≡ n)) (ap (λ (d : Declarations). length d.nodes) c.in_ok-inputs_from.ensures.made ∙ inputs-length c.args.self.now c.args.field c.args.provides.now) c.field_place.ensures.id

pub returns-clause-made : goal.returns-clause-made
returns-clause-made g c =
    let ids : c.in_ok-inputs.inputs ≡ next_nodes c.args.self.now c.args.provides.now =
    made-nodes c.args.self.now c.inputs_from.new.self c.args.field c.node_count-first.result c.args.provides.now c.in_ok-inputs.inputs c.in_ok-inputs_from.ensures.made (c.node_count-first.ensures ∙ ap (λ (d : Declarations). length d.nodes) c.self.view_is) (c.in_ok-inputs.ensures ∙ ap (λ (d : Declarations). range_with_len c.node_count-first.result (length d.nodes - c.node_count-first.result)) c.self-2.view_is) in
    provided-made g.M.Meanings.rules c.args.self.now c.inputs_from.new.self c.field_place.new.self c.args.field c.args.provides.now c.in_ok-inputs.inputs c.in_ok-inputs_from.ensures.made ids c.field_place.result c.field_place.ensures.placed

pub returns-clause-passes : goal.returns-clause-passes
returns-clause-passes g c =
    let ids : c.in_ok-inputs.inputs ≡ next_nodes c.args.self.now c.args.provides.now =
    made-nodes c.args.self.now c.inputs_from.new.self c.args.field c.node_count-first.result c.args.provides.now c.in_ok-inputs.inputs c.in_ok-inputs_from.ensures.made (c.node_count-first.ensures ∙ ap (λ (d : Declarations). length d.nodes) c.self.view_is) (c.in_ok-inputs.ensures ∙ ap (λ (d : Declarations). range_with_len c.node_count-first.result (length d.nodes - c.node_count-first.result)) c.self-2.view_is) in
    provided-passes g.M.Meanings.rules c.args.self.now c.inputs_from.new.self c.field_place.new.self c.args.field c.args.provides.now c.in_ok-inputs.inputs c.in_ok-inputs_from.ensures.made ids c.field_place.result c.in_ok-inputs_from.ensures.passes c.field_place.ensures.passes

pub returns-clause-refused : goal.returns-clause-refused
returns-clause-refused g c =
    let ids : c.in_ok-inputs.inputs ≡ next_nodes c.args.self.now c.args.provides.now =
    made-nodes c.args.self.now c.inputs_from.new.self c.args.field c.node_count-first.result c.args.provides.now c.in_ok-inputs.inputs c.in_ok-inputs_from.ensures.made (c.node_count-first.ensures ∙ ap (λ (d : Declarations). length d.nodes) c.self.view_is) (c.in_ok-inputs.ensures ∙ ap (λ (d : Declarations). range_with_len c.node_count-first.result (length d.nodes - c.node_count-first.result)) c.self-2.view_is) in
    provided-refused g.M.Meanings.rules c.args.self.now c.inputs_from.new.self c.field_place.new.self c.args.field c.args.provides.now c.in_ok-inputs.inputs c.in_ok-inputs_from.ensures.made ids c.field_place.result c.in_ok-inputs_from.ensures.passes c.field_place.ensures.refused

pub returns-clause-grows : goal.returns-clause-grows
returns-clause-grows g c = grows-trans c.args.self.now c.inputs_from.new.self c.field_place.new.self c.in_ok-inputs_from.ensures.grows c.field_place.ensures.grows
