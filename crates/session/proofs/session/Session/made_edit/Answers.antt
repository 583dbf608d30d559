use Rattle.std.proofs.Common.{◌∷◌, [], refl}
use Rattle.requests.specs.declared.request.Request.TheVariants.{Update}
use Rattle.session.specs.State.{plain_session}
use Rattle.session.proofs.Carrying.{carried_alone, carried_answered, never_failed, nothing_answered}
use Rattle.workload.specs.MadeLines.{edit_line}
use Rattle.session.proofs.session.Session.made_edit.Goals as goal

pub returns-in-Err-clause-answered : goal.returns-in-Err-clause-answered
returns-in-Err-clause-answered g c = λ files.
    nothing_answered g.M.Meanings.rules (edit_line c.args.time c.args.edit) (plain_session c.args.self.now) files

pub returns-in-Ok-clause-answered : goal.returns-in-Ok-clause-answered
returns-in-Ok-clause-answered g c = λ files.
    carried_answered g.M.Meanings.rules (edit_line c.args.time c.args.edit) (Update (c.in-Ok.spec ∷ [])) c.args.self.now c.updated_one_spec.new.self files files c.told.result c.in-Ok.ensures
    (carried_alone g.M.Meanings.rules (Update (c.in-Ok.spec ∷ [])) c.args.self.now c.updated_one_spec.new.self files c.updated_one_spec.result c.told.result refl (λ files. c.updated_one_spec.ensures) c.told.ensures)

pub returns-in-Ok-clause-unfailed : goal.returns-in-Ok-clause-unfailed
returns-in-Ok-clause-unfailed g c = never_failed c.updated_one_spec.result c.told.result c.told.ensures
