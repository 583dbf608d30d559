use Rattle.std.proofs.Common.{◌∙◌, sym}
use Rattle.state.specs.Plainly.{updated_from}
use Rattle.session.specs.State.{plain_session, plain_state}
use Rattle.session.proofs.InPlace.{done-one, found-by}
use Rattle.session.proofs.doing.do_command.Goals as goal

pub returns-in_ok-one-in-Some-clause-done : goal.returns-in_ok-one-in-Some-clause-done
returns-in_ok-one-in-Some-clause-done g c =
    let out = updated_from g.M.Meanings.rules c.args.session.now.world.declared (plain_state c.in_ok-old.old.now) c.in_ok-one-in-Some.field-0.items in
    rw (c.in_ok-old.ensures.state, sym c.in_ok-sent_over.ensures ∙ c.in-Some.is)
    (done-one g.M.Meanings.rules (plain_session c.args.session.now) (plain_state c.in_ok-old.old.now) c.in-Some.spec c.in_ok-one-in-Some.field-0.items c.done_to.result c.in_ok-one-in-Some.ensures
    (c.done_to.ensures.done out (found-by out c.step.result c.step.ensures.state c.step.ensures.refused)))
