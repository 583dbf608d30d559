use Rattle.std.proofs.Common.{◌∷◌, []}
use Rattle.session.specs.State.{plain_session}
use Rattle.session.specs.Update.{update}
use Rattle.session.proofs.session.Session.updated_one_spec.Goals as goal

pub returns : goal.returns
returns g c = c.settle.ensures (update g.M.Meanings.rules (plain_session c.args.self.now) (c.args.spec ∷ [])) c.update_one_spec-outcome.ensures.done
