-- A lookup knows a facet or field by its key where it has the definition that the key was made of, and goes by the same rules.
use Rattle.std.proofs.Common.{◌≡◌, ℕ, true, Option, Some, refl, sym, ap, ◌∙◌, subst}
use Rattle.std.specs.Prelude.{IfSome}
use Rattle.cm_plain.specs.Form.{Form, fits}
use Rattle.configuration.specs.declared.facet_def.FacetDef.{FacetDef}
use Rattle.configuration.specs.declared.field_def.FieldDef.{FieldDef}
use Rattle.values.specs.Rules.{Rules}
use Rattle.values.specs.Vals.{IsOf, is_of}
use Rattle.values.specs.declared.val.Val.{Val}
use Rattle.typed_keys.specs.Fitting.{is_of-fits}
use Rattle.typed_keys.specs.Keys.{FacetKeyView, FieldKeyView, KnowsFacet, KnowsField, facet_key, field_key}

pub facet-known : (rules : Rules) (id : ℕ) (def : FacetDef) (key : FacetKeyView) (found : Option FacetDef) → key ≡ facet_key rules id def → found ≡ Some def → KnowsFacet rules found key
facet-known rules id def key found made is =
    subst (λ (k : FacetKeyView). KnowsFacet rules found k) (sym made) (record { def = def; is = is; combine = refl; output = refl })

pub field-known : (rules : Rules) (id : ℕ) (def : FieldDef) (key : FieldKeyView) (found : Option FieldDef) → key ≡ field_key rules id def → found ≡ Some def → KnowsField rules found key
field-known rules id def key found made is =
    subst (λ (k : FieldKeyView). KnowsField rules found k) (sym made) (record { def = def; is = is; update = refl; shape = refl })

-- what a facet or field that is known has is of each shape that its key's shape fits
pub facet-of : (rules : Rules) (found : Option FacetDef) (key : FacetKeyView) (form : Form) (value : Val) → KnowsFacet rules found key → fits key.output form ≡ true
    → IfSome found (λ def. IsOf (rules.combine_output def.combine) value) → is_of form value ≡ true
facet-of rules found key form value knows fit each =
    let known = rw knows.is at each in
    let output : rules.combine_output knows.def.combine ≡ key.output = ap rules.combine_output knows.combine ∙ knows.output in
    is_of-fits key.output form value fit (rw output at known.shape)

pub field-of : (rules : Rules) (found : Option FieldDef) (key : FieldKeyView) (form : Form) (value : Val) → KnowsField rules found key → fits key.shape form ≡ true
    → IfSome found (λ def. IsOf (rules.update_shape def.update) value) → is_of form value ≡ true
field-of rules found key form value knows fit each =
    let known = rw knows.is at each in
    let shape : rules.update_shape knows.def.update ≡ key.shape = ap rules.update_shape knows.update ∙ knows.shape in
    is_of-fits key.shape form value fit (rw shape at known.shape)
