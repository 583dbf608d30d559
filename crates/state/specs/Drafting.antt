-- The draft of the specs of an update, in the state that it starts in (Reference Manual, EditorState.update).
use Rattle.std.specs.Prelude.{ℕ, List, length, None}
use Rattle.std.specs.Option.{unwrap_or}
use Rattle.line_tree.specs.Text.{max_len}
use Rattle.transaction.specs.declared.draft.Draft.{Draft}
use Rattle.transaction.specs.declared.effect_kinds.EffectKinds.{EffectKinds}
use Rattle.transaction.specs.declared.spec.Spec.{Spec}
use Rattle.transaction.specs.Merging.{merged}
use Rattle.transaction.specs.Refusals.{specs_refusal}
use Rattle.configuration.specs.declared.vertex.Vertex.TheVariants.{Facet}
use Rattle.registry.specs.declared.predeclared.TheConstants.{CHANGE_FILTER, FILTER_DATA, TRANSACTION_EXTENDER, TRANSACTION_FILTER}
use Rattle.values.specs.declared.val.Val.{Val}
use Rattle.values.specs.Declarations.{Declarations}
use Rattle.values.specs.Reading.{nothing}
use Rattle.values.specs.Rules.{Rules}
use Rattle.filters.specs.Extended.{extended}
use Rattle.filters.specs.Facets.{FacetsView}
use Rattle.filters.specs.Filtered.{filtered}
use Rattle.filters.specs.Outcomes.{Outcome, and_then, unless}
use Rattle.filters.specs.Starts.{StartView}
use Rattle.facet_slots.specs.Stepping.{State}
use Rattle.state.specs.Cutting.{allows_several}

-- what is declared and can be named by effects
abbrev pub kinds_of : Declarations → EffectKinds
kinds_of d = record { maps = d.maps; compartments = d.compartments }

-- Start: what filters go by of the state that an update starts in.
abbrev pub start_in : Declarations → State → StartView
start_in d old =
    record { document = old.scene.document; selection = old.scene.selection; allows_multiple = allows_several old; kinds = kinds_of d; max = max_len }

-- the value of a facet in a state
abbrev pub value_in : State → ℕ → Val
value_in old facet = unwrap_or (old.values (Facet facet)) nothing

-- the values there of the facets that filters go by
abbrev pub facets_in : State → FacetsView
facets_in old =
    record {
      change_filter = value_in old CHANGE_FILTER;
      transaction_filter = value_in old TRANSACTION_FILTER;
      transaction_extender = value_in old TRANSACTION_EXTENDER;
      filter_data = value_in old FILTER_DATA;
    }

-- Merged: the specs as one draft over the document of the start, or their first refusal.
abbrev pub merged_in : Rules → StartView → List (Spec Val) → Outcome
merged_in rules start specs =
    unless (specs_refusal (length start.document) start.max start.kinds None specs) (merged start.kinds rules.map_effect (length start.document) specs)

-- Rewritten: what change filters and transaction filters make of a draft, and then what extenders add to it.
abbrev pub rewritten_in : Rules → FacetsView → StartView → Draft Val → Outcome
rewritten_in rules facets start draft = and_then (filtered rules facets start draft) (extended rules facets start)

-- the specs merged, and then rewritten
abbrev pub drafted_in : Rules → FacetsView → StartView → List (Spec Val) → Outcome
drafted_in rules facets start specs = and_then (merged_in rules start specs) (rewritten_in rules facets start)

-- Draft: what comes of the specs of an update in a state: the draft, or the first refusal, of the specs, of what filters
-- answered, or of what extenders answered.
abbrev pub draft_of : Rules → Declarations → State → List (Spec Val) → Outcome
draft_of rules d old specs = drafted_in rules (facets_in old) (start_in d old) specs
