use Rattle.std.proofs.Common.{◌≡◌, [], IfOk, Option, sym, subst}
use Rattle.std.specs.Prelude.{option_map, string_bytes, unwrap_or}
use Rattle.facet_slots.specs.Slotted.{Slotted}
use Rattle.session.specs.Frames.{frame_in, frame_of}
use Rattle.session.specs.State.{Held, plain_session, plain_state}
use Rattle.session.specs.Views.{view_of}
use Rattle.session.proofs.session.Session.frame.Goals as goal

pub returns-in-Some : goal.returns-in-Some
returns-in-Some g c =
    subst (λ (held : Held). IfOk c.state_frame.result (λ text. string_bytes text ≡ frame_of (plain_session held))) c.self.view_is
    (subst (λ (state : Option Slotted). IfOk c.state_frame.result (λ text. string_bytes text ≡ unwrap_or (option_map (λ s. frame_in (view_of s c.self.inside.window)) (option_map plain_state state)) [])) (sym c.in-Some.is) c.state_frame.ensures)
