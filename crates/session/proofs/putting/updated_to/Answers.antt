use Rattle.std.proofs.Common.{◌∙◌, ap, length}
use Rattle.std.proofs.lemmas.Result.{err_from_is_err_and}
use Rattle.replies.specs.declared.answer.Answer.TheVariants.{Length}
use Rattle.session.specs.Outcomes.{counted, shown_in}
use Rattle.session.specs.State.{Held, plain_session, plain_state}
use Rattle.session.proofs.InPlace.{put-done, put-refused}
use Rattle.session.proofs.putting.updated_to.Goals as goal

pub returns-in_err-next-clause-done : goal.returns-in_err-next-clause-done
returns-in_err-next-clause-done g c out finds =
    let p = err_from_is_err_and c.from_residual.result c.from_residual.ensures.1 in
    rw (p.1, p.2) (put-refused Length (plain_session c.args.session.now) (counted c.args.session.now.count) c.args.session.now.window out c.args.state c.in_err-next.field-0.0 finds c.in_err-next.ensures.refused c.in_err-next.ensures.made)

pub returns-clause-done : goal.returns-clause-done
returns-clause-done g c out finds =
    let next = c.in_ok-next.next in
    put-done Length (plain_session c.args.session.now) (counted c.args.session.now.count) c.args.session.now.window out next.state c.args.state c.len.result next.count next.window finds
    c.in_ok-next.ensures.state (c.len.ensures ∙ ap length c.doc.ensures) (c.in_ok-next.ensures.count ∙ c.counted.ensures ∙ ap (λ (h : Held). counted h.count) c.session.view_is)
    (c.in_ok-next.ensures.window ∙ ap (λ (h : Held). shown_in (plain_state next.state) h.window) c.session.view_is)
