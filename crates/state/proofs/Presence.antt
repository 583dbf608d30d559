-- A field has a value exactly where it is present.
use Rattle.std.proofs.Common.{◌≡◌, ◌∙◌, ℕ, true, Option, None, Some, Bor, IsSomeAnd, refl, ap}
use Rattle.std.specs.Prelude.{is_some, option_copied}
use Rattle.configuration.specs.declared.vertex.Vertex.TheVariants.{Field}
use Rattle.values.specs.declared.val.Val.{Val}
use Rattle.values.specs.Rules.{Rules}
use Rattle.facet_slots.specs.Lawful.{FieldsFit}
use Rattle.facet_slots.specs.Scenes.{Values}
use Rattle.facet_slots.specs.Setups.{PresentField, Setup, field_at}

copied-some : (r : Option (Bor Val)) → is_some r ≡ is_some (option_copied r)
copied-some None = refl
copied-some (Some r) = refl

some-and : (o : Option Val) (P : Val → Type 0) → IsSomeAnd o P → is_some o ≡ true
some-and None P h = absurd h
some-and (Some v) P h = refl

module _ (rules : Rules) (setup : Setup) (values : Values) (fits : FieldsFit rules setup values) (absent : (f : ℕ) → field_at setup f ≡ None → values (Field f) ≡ None) (f : ℕ) where
  present-at : (o : Option PresentField) → field_at setup f ≡ o → is_some (values (Field f)) ≡ is_some o
  present-at None e = ap (λ (v : Option Val). is_some v) (absent f e)
  present-at (Some field) e = some-and (values (Field f)) _ (fits f field e)

  pub present-is : (r : Option (Bor Val)) → option_copied r ≡ values (Field f) → is_some r ≡ is_some (field_at setup f)
  present-is r e = copied-some r ∙ ap (λ (v : Option Val). is_some v) e ∙ present-at (field_at setup f) refl
