use Rattle.std.proofs.Common.{◌∙◌, ap, sym}
use Rattle.names.specs.Transacting.{specs_of}
use Rattle.state.specs.Plainly.{updated_from}
use Rattle.session.specs.State.{Held, plain_state}
use Rattle.session.proofs.InPlace.{found-by}
use Rattle.session.proofs.update.update.Goals as goal

pub returns-clause-done : goal.returns-clause-done
returns-clause-done g c =
    let out = updated_from g.M.Meanings.rules c.args.session.now.world.declared (plain_state c.in_ok-old.old.now) c.in_ok-specs.specs.items in
    let specs = ap (λ (h : Held). specs_of h.world.names c.args.requests) (sym c.session.view_is) ∙ c.in_ok-specs.ensures in
    rw (specs, c.in_ok-old.ensures.state) (c.updated_to.ensures.done out (found-by out c.step.result c.step.ensures.state c.step.ensures.refused))
