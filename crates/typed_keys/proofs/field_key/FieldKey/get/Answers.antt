use Rattle.std.proofs.Common.{sym, subst}
use Rattle.typed_keys.specs.Keys.{FieldKeyView, KnowsField}
use Rattle.typed_keys.proofs.Known.{field-of}
use Rattle.typed_keys.proofs.field_key.FieldKey.get.Goals as goal

pub from_val-requires : goal.from_val-requires
from_val-requires g c =
    let known = subst (λ (k : FieldKeyView). KnowsField g.L.Lookup.rules (g.L.Lookup.field_def c.args.lookup.now k.id) k) (sym c.self.view_is) c.requires.known in
    field-of g.L.Lookup.rules _ _ g.T.Carried.form c.in-Some.value.now known c.self.invariant c.in-Some.ensures.fits
