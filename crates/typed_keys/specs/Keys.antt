-- What keys of facets and fields say, when they fit, and which lookups know them (manual: Facet, StateField, EditorState.facet, EditorState.field).
use Rattle.std.specs.Prelude.{◌≡◌, ℕ, Bool, ◌&&◌, Option, Some}
use Rattle.cm_plain.specs.Form.{Form, fits}
use Rattle.configuration.specs.declared.facet_def.FacetDef.{FacetDef}
use Rattle.configuration.specs.declared.field_def.FieldDef.{FieldDef}
use Rattle.values.specs.Rules.{Rules}

-- what a key of a facet says: the facet's id, the number of its combiner, and the shape of what that gives
pub record FacetKeyView : Type 0 where
  pub id : ℕ
  pub combine : ℕ
  pub output : Form

-- the key of a facet by its definition
abbrev pub facet_key : Rules → (id : ℕ) → FacetDef → FacetKeyView
facet_key rules id def = record { id = id; combine = def.combine; output = rules.combine_output def.combine }

-- Fit of a facet: inputs of a shape fit what its combiner takes, and what that gives fits a shape.
abbrev pub facet_fits : Rules → (input output : Form) → FacetDef → Bool
facet_fits rules input output def = fits input (rules.combine_input def.combine) && fits (rules.combine_output def.combine) output

-- the facet is known by the combiner that it had when its key was made, and that gives what it gave then
pub record KnowsFacet (rules : Rules) (found : Option FacetDef) (key : FacetKeyView) : Type 0 where
  pub def : FacetDef
  pub is : found ≡ Some def
  pub combine : def.combine ≡ key.combine
  pub output : rules.combine_output key.combine ≡ key.output

-- what a key of a field says: the field's id, the number of its updater, and the shape of what that takes and gives
pub record FieldKeyView : Type 0 where
  pub id : ℕ
  pub update : ℕ
  pub shape : Form

abbrev pub field_key : Rules → (id : ℕ) → FieldDef → FieldKeyView
field_key rules id def = record { id = id; update = def.update; shape = rules.update_shape def.update }

-- Fit of a field: what its updater takes and gives fits a shape.
abbrev pub field_fits : Rules → Form → FieldDef → Bool
field_fits rules shape def = fits (rules.update_shape def.update) shape

-- the field is known by the updater that it had when its key was made, and that takes and gives what it did then
pub record KnowsField (rules : Rules) (found : Option FieldDef) (key : FieldKeyView) : Type 0 where
  pub def : FieldDef
  pub is : found ≡ Some def
  pub update : def.update ≡ key.update
  pub shape : rules.update_shape key.update ≡ key.shape
