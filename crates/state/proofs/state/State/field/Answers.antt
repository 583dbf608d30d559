use Rattle.std.proofs.Common.{◌≡◌, subst}
use Rattle.std.specs.Prelude.{is_some}
use Rattle.facet_slots.specs.Setups.{field_at}
use Rattle.facet_slots.specs.Slotted.{Slotted, plain}
use Rattle.state.proofs.Presence.{present-is}
use Rattle.state.proofs.state.State.field.Goals as goal

pub returns-clause-presence : goal.returns-clause-presence
returns-clause-presence g c =
    subst (λ (v : Slotted). is_some c.field.result ≡ is_some (field_at v.setup c.args.id)) c.self.view_is
    (present-is g.M.Meanings.rules c.self.inside.slots.setup (plain c.self.inside.slots).values c.known.ensures.fields c.known.ensures.absent c.args.id c.field.result c.field.ensures)
