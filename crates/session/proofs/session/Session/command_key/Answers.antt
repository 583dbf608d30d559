use Rattle.session.specs.Doing.{do_command}
use Rattle.session.specs.State.{plain_session}
use Rattle.session.proofs.session.Session.command_key.Goals as goal

pub returns-in-Some : goal.returns-in-Some
returns-in-Some g c =
    rw (c.in-Some.is) (c.settle_shown.ensures (do_command g.M.Meanings.rules (plain_session c.args.self.now) c.in-Some.command) c.do_command-outcome.ensures.done)
