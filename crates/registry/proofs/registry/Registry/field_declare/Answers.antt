use Rattle.std.proofs.lemmas.Result.{err_from_is_err_and}
use Rattle.registry.proofs.Declaring.{declare-field}
use Rattle.registry.proofs.Growing.{grows-field}
use Rattle.registry.proofs.Registering.{still-registered}
use Rattle.registry.proofs.registry.Registry.field_declare.Goals as goal

pub returns-in_err-field_refusal-clause-refused : goal.returns-in_err-field_refusal-clause-refused
returns-in_err-field_refusal-clause-refused g c =
    let p = err_from_is_err_and c.from_residual.result c.from_residual.ensures.1 in
    rw (p.1, p.2, ← c.self.view_is) c.in_err-field_refusal.ensures.refused

pub invariant_of-self-2 : goal.invariant_of-self-2
invariant_of-self-2 g c = rw c.in_ok-add_field.ensures.added (still-registered g.M.Meanings.rules c.self.inside.parts _ c.self.invariant (declare-field g.M.Meanings.rules c.self.inside.parts c.self.invariant.lawful c.args.def c.in_ok-field_refusal.ensures.passes) (grows-field c.self.inside.parts c.args.def))

pub returns-clause-grows : goal.returns-clause-grows
returns-clause-grows g c = rw (c.in_ok-add_field.ensures.added, ← c.self.view_is) (grows-field c.self.inside.parts c.args.def)
