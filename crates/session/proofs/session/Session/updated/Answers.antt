use Rattle.session.specs.State.{plain_session}
use Rattle.session.specs.Update.{update}
use Rattle.session.proofs.session.Session.updated.Goals as goal

pub returns : goal.returns
returns g c = c.settle.ensures (update g.M.Meanings.rules (plain_session c.args.self.now) c.args.specs) c.update-outcome.ensures.done
