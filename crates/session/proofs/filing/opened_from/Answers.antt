use Rattle.state.specs.Plainly.{created_from}
use Rattle.session.specs.Filing.{at_start}
use Rattle.session.specs.State.{plain_session}
use Rattle.session.proofs.InPlace.{found-by}
use Rattle.session.proofs.Openings.{opens}
use Rattle.session.proofs.filing.opened_from.Goals as goal

pub returns-in-Ok-clause-done : goal.returns-in-Ok-clause-done
returns-in-Ok-clause-done g c =
    let out = created_from g.M.Meanings.rules c.args.session.now.world.declared c.args.base.now (record { document = c.in-Ok.text.characters; selection = at_start }) in
    opens g.M.Meanings.rules (plain_session c.args.session.now) c.args.name.now c.args.base.now c.args.bytes.now c.in-Ok.text.characters c.started_as.result c.in-Ok.ensures
    (c.started_as.ensures.done out (found-by out c.created_over.result c.created_over.ensures.state c.created_over.ensures.refused))
