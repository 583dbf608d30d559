use Rattle.session.specs.State.{plain_session}
use Rattle.session.proofs.Carrying.{long_answered}
use Rattle.session.proofs.session.SessionAnswersKit.answer_long.Goals as goal

pub returns-clause-reply : goal.returns-clause-reply
returns-clause-reply g c =
    long_answered g.M.Meanings.rules (plain_session c.args.self.now) (g.D.Store.files c.args.store.now) c.long_line.result c.long_line.ensures.reply
