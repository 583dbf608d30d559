-- The shapes of the values of a state.
use Rattle.std.proofs.Common.{◌≡◌, ◌∙◌, ℕ, Option, Some, None, IfSome, ap, option_map, refl, slice_get, subst, sym}
use Rattle.std.specs.Borrow.{Bor}
use Rattle.std.specs.Option.{IsSomeAnd, option_and_then}
use Rattle.std.specs.Prelude.{option_copied}
use Rattle.configuration.specs.declared.facet_def.FacetDef.{FacetDef}
use Rattle.configuration.specs.declared.field_def.FieldDef.{FieldDef}
use Rattle.configuration.specs.declared.vertex.Vertex.TheVariants.{Facet, Field}
use Rattle.values.specs.declared.val.Val.{Val}
use Rattle.values.specs.Rules.{Rules}
use Rattle.values.specs.Vals.{IsOf}
use Rattle.facet_slots.specs.Lawful.{FacetsFit, FieldsFit}
use Rattle.facet_slots.specs.Scenes.{Values}
use Rattle.facet_slots.specs.Setups.{Setup, PresentField, field_at, field_with, init_of, inputs_at, node_at}

-- a facet by its definition, if it is declared
facet-known : (rules : Rules) (setup : Setup) (values : Values) → FacetsFit rules setup values → (f : ℕ) (o : Option FacetDef) → slice_get setup.defs.facets f ≡ o
    → IfSome o (λ def. IsSomeAnd (values (Facet f)) (IsOf (rules.combine_output def.combine)))
facet-known rules setup values h f None e = tt
facet-known rules setup values h f (Some def) e = h f (record { def = def; inputs = inputs_at setup f }) (ap (option_map (λ (d : FacetDef). record { def = d; inputs = inputs_at setup f })) e)

-- the value of a facet is of the output shape of its combiner
pub facet-shape : (rules : Rules) (setup : Setup) (values : Values) → FacetsFit rules setup values → (f : ℕ) (v : Val) → values (Facet f) ≡ Some v
    → IfSome (slice_get setup.defs.facets f) (λ def. IsOf (rules.combine_output def.combine) v)
facet-shape rules setup values h f v e =
    subst (λ (o : Option Val). IfSome (slice_get setup.defs.facets f) (λ def. IsSomeAnd o (IsOf (rules.combine_output def.combine)))) e (facet-known rules setup values h f (slice_get setup.defs.facets f) refl)

-- a field that is present, by its definition
field-known : (rules : Rules) (setup : Setup) (values : Values) → FieldsFit rules setup values → (f : ℕ) (v : Val) → values (Field f) ≡ Some v → (o : Option ℕ) → node_at setup f ≡ o → ((field_at setup f ≡ None) → values (Field f) ≡ None)
    → (d : Option FieldDef) → slice_get setup.defs.fields f ≡ d → IfSome d (λ def. IsOf (rules.update_shape def.update) v)
field-known rules setup values h f v e o n absent None k = tt
field-known rules setup values h f v e None n absent (Some def) k =
    let gone : Some v ≡ None = sym e ∙ absent (ap (option_and_then (field_with setup f)) n) in cc
field-known rules setup values h f v e (Some node) n absent (Some def) k =
    let field : PresentField = record { def = def; init = init_of (slice_get setup.defs.node_defs node) } in
    let at : field_at setup f ≡ Some field = ap (option_and_then (field_with setup f)) n ∙ ap (option_map (λ (d : FieldDef). record { def = d; init = init_of (slice_get setup.defs.node_defs node) })) k in
    subst (λ (w : Option Val). IsSomeAnd w (IsOf (rules.update_shape def.update))) e (h f field at)

-- the value of a field is of the shape of its updater
pub field-shape : (rules : Rules) (setup : Setup) (values : Values) → FieldsFit rules setup values → (f : ℕ) (v : Val) → values (Field f) ≡ Some v → ((field_at setup f ≡ None) → values (Field f) ≡ None)
    → IfSome (slice_get setup.defs.fields f) (λ def. IsOf (rules.update_shape def.update) v)
field-shape rules setup values h f v e absent = field-known rules setup values h f v e (node_at setup f) refl absent (slice_get setup.defs.fields f) refl

-- and so is what is found of a field
pub field-found : (rules : Rules) (setup : Setup) (values : Values) → FieldsFit rules setup values → (f : ℕ) → ((field_at setup f ≡ None) → values (Field f) ≡ None) → (r : Option (Bor Val)) → option_copied r ≡ values (Field f)
    → IfSome r (λ v. IfSome (slice_get setup.defs.fields f) (λ def. IsOf (rules.update_shape def.update) v.now))
field-found rules setup values h f absent None e = tt
field-found rules setup values h f absent (Some b) e = field-shape rules setup values h f b.now (sym e) absent
