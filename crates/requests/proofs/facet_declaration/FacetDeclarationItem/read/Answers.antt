use Rattle.std.proofs.Common.{refl}
use Rattle.std.proofs.lemmas.Result.{err_from_is_err_and}
use Rattle.requests.specs.Declarations.{facet_of}
use Rattle.script.proofs.Bind.{fails_through}
use Rattle.requests.proofs.facet_declaration.FacetDeclarationItem.read.Goals as goal

pub returns-in_err-only_fields : goal.returns-in_err-only_fields
unfolding facet_of
returns-in_err-only_fields c =
    let p = err_from_is_err_and c.from_residual-in_err-only_fields.result c.from_residual-in_err-only_fields.ensures.1 in
    rw (p.1, p.2, c.in_ok-members.ensures, c.in_ok-name.ensures, c.in_ok-def.ensures, c.in_ok-enables.ensures) (fails_through c.in_err-only_fields.field-0.0 _ _ c.in_err-only_fields.ensures)

pub returns : goal.returns
unfolding facet_of
returns c = rw (c.in_ok-members.ensures, c.in_ok-name.ensures, c.in_ok-def.ensures, c.in_ok-enables.ensures, c.in_ok-only_fields.ensures) refl
