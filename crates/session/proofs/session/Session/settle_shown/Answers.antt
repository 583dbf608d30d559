use Rattle.std.proofs.Common.{◌≡◌, rules}
use Rattle.std.specs.Prelude.{Ok}
use Rattle.session.specs.State.{plain_session}
use Rattle.session.specs.declared.outcome.Outcome.TheVariants.{Changed}
use Rattle.session.proofs.Pressed.{changed_shown}
use Rattle.session.proofs.session.Session.settle_shown.Goals as goal

pub returns-in-Ok-Changed : goal.returns-in-Ok-Changed
returns-in-Ok-Changed g c out gives =
    let is : c.args.outcome ≡ Ok (Changed c.in-Ok-Changed.field-0-0 c.in-Ok-Changed.next) = search (rules, c.in-Ok-Changed.is, c.in-Ok-Changed.field-0-is) in
    changed_shown (plain_session c.args.self.now) c.args.self.now c.change_shown.new.self c.args.outcome out c.in-Ok-Changed.field-0-0 c.in-Ok-Changed.next c.change_shown.result is gives c.change_shown.ensures
