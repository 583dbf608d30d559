use Rattle.std.proofs.Common.{◌∙◌, ap, subst}
use Rattle.std.specs.Prelude.{Result, Ok}
use Rattle.facet_slots.specs.Slotted.{Slotted}
use Rattle.script.specs.Reading.{Gives}
use Rattle.script.specs.declared.refusal.LineError.{LineError}
use Rattle.session.specs.declared.outcome.Outcome.{Outcome}
use Rattle.session.specs.declared.outcome.Outcome.TheVariants.{Changed}
use Rattle.session.specs.Outcomes.{done_by}
use Rattle.session.specs.State.{plain_session}
use Rattle.session.proofs.Settling.{settled}
use Rattle.session.proofs.session.Session.settle.Goals as goal

pub returns-in-Ok-Changed : goal.returns-in-Ok-Changed
returns-in-Ok-Changed g c out gives =
    let s = plain_session c.args.self.now in
    let did = subst (λ (o : Result (Outcome Slotted) LineError). Gives (done_by s) o out) c.in-Ok-Changed.is gives in
    settled out (done_by s (Changed c.in-Ok-Changed.answer c.in-Ok-Changed.next)) c.args.self.now c.change.new.self c.change.result
    (did ∙ ap (λ (o : Outcome Slotted). Ok (done_by s o)) c.in-Ok-Changed.field-0-is) c.change.ensures
