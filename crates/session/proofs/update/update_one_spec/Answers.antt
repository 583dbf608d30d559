use Rattle.std.proofs.Common.{◌∷◌, [], ◌∙◌, ap, sym}
use Rattle.std.proofs.lemmas.Result.{err_from_is_err_and}
use Rattle.names.specs.Transacting.{specs_of}
use Rattle.script.proofs.Bind.{fails_through}
use Rattle.state.specs.Plainly.{updated_from}
use Rattle.session.specs.State.{Held, plain_state}
use Rattle.session.proofs.InPlace.{found-by}
use Rattle.session.proofs.update.update_one_spec.Goals as goal

pub returns-in_err-specs-clause-done : goal.returns-in_err-specs-clause-done
returns-in_err-specs-clause-done g c =
    let p = err_from_is_err_and c.from_residual.result c.from_residual.ensures.1 in
    rw (p.1, p.2, sym c.session.view_is) (fails_through c.in_err-specs.field-0.0 _ _ c.in_err-specs.ensures)

pub returns-clause-done : goal.returns-clause-done
returns-clause-done g c =
    let out = updated_from g.M.Meanings.rules c.args.session.now.world.declared (plain_state c.in_ok-old.old.now) c.in_ok-specs.specs.items in
    let specs = ap (λ (h : Held). specs_of h.world.names (c.args.request ∷ [])) (sym c.session.view_is) ∙ c.in_ok-specs.ensures in
    rw (specs, c.in_ok-old.ensures.state) (c.updated_to.ensures.done out (found-by out c.step.result c.step.ensures.state c.step.ensures.refused))
