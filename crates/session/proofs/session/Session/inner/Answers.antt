use Rattle.std.proofs.Common.{subst, sym}
use Rattle.requests.specs.declared.request.Request.{Request}
use Rattle.session.specs.PrivateSession.{DoneWith}
use Rattle.session.specs.Session.{act}
use Rattle.session.specs.State.{plain_session}
use Rattle.session.proofs.session.Session.inner.Goals as goal

pub returns-in-Update : goal.returns-in-Update
returns-in-Update g c files =
    subst (λ (r : Request). DoneWith (act g.M.Meanings.rules r (plain_session c.args.self.now) files) c.args.self.now c.updated.new.self c.updated.result) (sym c.in-Update.is) c.updated.ensures

pub returns-in_default : goal.returns-in_default
returns-in_default g c files =
    c.settle.ensures (act g.M.Meanings.rules c.args.request (plain_session c.args.self.now) files) (c.outcome_of-outcome.ensures.done files)
