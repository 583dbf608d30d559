-- A state, whose definitions have grown from those declared from the start, knows the session's keys.
use Rattle.std.proofs.Common.{◌≡◌, ℕ, Some, refl, sym, subst, slice_get}
use Rattle.configuration.specs.declared.facet_def.FacetDef.{FacetDef}
use Rattle.facet_slots.specs.Agreement.{IsGrown}
use Rattle.facet_slots.specs.Lent.{definitions}
use Rattle.facet_slots.specs.Setups.{Definitions}
use Rattle.facet_slots.proofs.Growing.{stays-got}
use Rattle.registry.specs.Predeclared.{history_def, predeclared, predeclared_facets}
use Rattle.registry.specs.declared.predeclared.TheConstants.{HISTORY}
use Rattle.typed_keys.specs.Keys.{FacetKeyView, FieldKeyView, KnowsFacet, KnowsField, facet_key, field_key}
use Rattle.values.specs.Rules.{Rules}

pub knows-facet : (rules : Rules) (defs : Definitions) → IsGrown (definitions predeclared) defs → (id : ℕ) (def : FacetDef) → slice_get predeclared_facets id ≡ Some def
    → (key : FacetKeyView) → key ≡ facet_key rules id def → KnowsFacet rules (slice_get defs.facets key.id) key
knows-facet rules defs grown id def there key made =
    subst (λ (k : FacetKeyView). KnowsFacet rules (slice_get defs.facets k.id) k) (sym made)
    (record { def = def; is = stays-got predeclared_facets defs.facets grown.facets id def there; combine = refl; output = refl })

pub knows-history : (rules : Rules) (defs : Definitions) → IsGrown (definitions predeclared) defs → (key : FieldKeyView) → key ≡ field_key rules HISTORY history_def
    → KnowsField rules (slice_get defs.fields key.id) key
knows-history rules defs grown key made =
    subst (λ (k : FieldKeyView). KnowsField rules (slice_get defs.fields k.id) k) (sym made)
    (record { def = history_def; is = stays-got (definitions predeclared).fields defs.fields grown.fields HISTORY history_def refl; update = refl; shape = refl })
