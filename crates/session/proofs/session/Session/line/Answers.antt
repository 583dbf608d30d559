use Rattle.session.specs.State.{plain_session}
use Rattle.session.proofs.Carrying.{carried_answered, error_answered}
use Rattle.session.proofs.session.Session.line.Goals as goal

pub returns-in-Err-clause-answered : goal.returns-in-Err-clause-answered
returns-in-Err-clause-answered g c =
    error_answered g.M.Meanings.rules c.args.line.now c.in-Err.error (plain_session c.args.self.now) (g.D.Store.files c.args.store.now) c.refusal_text.result c.told.result
    c.in-Err.ensures c.refusal_text.ensures c.told.ensures

pub returns-in-Ok-clause-answered : goal.returns-in-Ok-clause-answered
returns-in-Ok-clause-answered g c =
    carried_answered g.M.Meanings.rules c.args.line.now c.in-Ok.request c.args.self.now c.request.new.self (g.D.Store.files c.args.store.now) (g.D.Store.files c.request.new.store) c.request.result
    c.in-Ok.ensures c.request.ensures.carried
