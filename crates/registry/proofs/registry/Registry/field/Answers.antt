use Rattle.std.proofs.Common.{◌≡◌, sym, ◌∙◌, subst}
use Rattle.values.specs.Growth.{IsGrowth}
use Rattle.registry.specs.PrivateRegistered.{IsRegistered}
use Rattle.registry.proofs.Growing.{grows-same}
use Rattle.registry.proofs.Providing.{grows-trans, undone}
use Rattle.registry.proofs.registry.Registry.field.Goals as goal

pub invariant_of-self : goal.invariant_of-self
invariant_of-self g c =
    let e : c.shorten.new.self ≡ c.self.inside.parts =
    undone c.self.inside.parts c.args.self.now c.field_declare.new.self c.provide.new.self c.self-2.inside.parts c.shorten.new.self c.args.def c.in_ok-field.field c.field_count-fields.result c.node_count-nodes.result
    c.self.invariant.lawful.aligned c.self.view_is c.in_ok-field.ensures.declared c.in-Err.ensures.begun c.self-2.view_is c.field_count-fields.ensures c.node_count-nodes.ensures c.shorten.ensures in
    subst (IsRegistered g.M.Meanings.rules) (sym e) c.self.invariant

pub returns-in-Ok-clause-grows : goal.returns-in-Ok-clause-grows
returns-in-Ok-clause-grows g c = grows-trans c.args.self.now c.field_declare.new.self c.provide.new.self c.in_ok-field.ensures.grows c.in-Ok.ensures.grows

pub returns-in-Err-clause-same : goal.returns-in-Err-clause-same
returns-in-Err-clause-same g c =
    undone c.self.inside.parts c.args.self.now c.field_declare.new.self c.provide.new.self c.self-2.inside.parts c.shorten.new.self c.args.def c.in_ok-field.field c.field_count-fields.result c.node_count-nodes.result
    c.self.invariant.lawful.aligned c.self.view_is c.in_ok-field.ensures.declared c.in-Err.ensures.begun c.self-2.view_is c.field_count-fields.ensures c.node_count-nodes.ensures c.shorten.ensures
    ∙ c.self.view_is

pub returns-in-Err-clause-grows : goal.returns-in-Err-clause-grows
returns-in-Err-clause-grows g c = subst (IsGrowth c.args.self.now) (sym (returns-in-Err-clause-same g c)) (grows-same c.args.self.now)
