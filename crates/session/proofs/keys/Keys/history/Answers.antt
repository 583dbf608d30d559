use Rattle.std.proofs.Common.{◌≡◌, ℕ, IfOk, ap, subst, option_map}
use Rattle.configuration.specs.declared.vertex.Vertex.TheVariants.{Field}
use Rattle.facet_slots.specs.Slotted.{plain}
use Rattle.typed_keys.specs.Keys.{FieldKeyView}
use Rattle.typed_keys.specs.Read.{history_in}
use Rattle.session.proofs.Knowing.{knows-history}
use Rattle.session.proofs.keys.Keys.history.Goals as goal

pub get-requires : goal.get-requires
get-requires g c =
    record { known = knows-history g.M.Meanings.rules c.args.state.now.setup.defs c.known.ensures.predeclared c.self.inside.history c.self.invariant.history }

pub returns : goal.returns
returns g c =
    subst (λ (id : ℕ). IfOk c.get.result (λ found. found ≡ option_map history_in ((plain c.args.state.now).values (Field id)))) (ap (λ (k : FieldKeyView). k.id) c.self.invariant.history) c.get.ensures
