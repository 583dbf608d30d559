-- Which selections have several ranges (Reference Manual, EditorState.allowMultipleSelections).
use Rattle.std.specs.Prelude.{ℕ, List, Bool, false, Option, Some, slice_get, get_or, []}
use Rattle.std.specs.Option.{unwrap_or}
use Rattle.std.specs.List.{list_any}
use Rattle.configuration.specs.Config.{ConfigView}
use Rattle.configuration.specs.declared.node_def.NodeDef.{NodeDef}
use Rattle.configuration.specs.declared.node_def.NodeDef.TheVariants.{Of}
use Rattle.configuration.specs.declared.vertex.Vertex.TheVariants.{Facet}
use Rattle.registry.specs.declared.predeclared.TheConstants.{ALLOW_MULTIPLE_SELECTIONS}
use Rattle.values.specs.declared.val.Val.{Val}
use Rattle.values.specs.Combining.{is_true}
use Rattle.values.specs.Reading.{nothing}
use Rattle.facet_slots.specs.Stepping.{State}

-- Several: whether selections may have several ranges in a state, which is the value of a facet.
abbrev pub allows_several : State → Bool
allows_several s = is_true (unwrap_or (s.values (Facet ALLOW_MULTIPLE_SELECTIONS)) nothing)

-- an input that is true
abbrev pub is_true_input : Option (NodeDef Val) → Bool
is_true_input (Some (Of v)) = is_true v
is_true_input _ = false

-- Whether an input of that facet is true in a configuration. It is static, so this is its value there, whatever the document
-- is, and the value of a state need not be known to tell it.
abbrev pub some_input_true : List (NodeDef Val) → List ℕ → Bool
some_input_true node_defs nodes = list_any (λ (n : ℕ). is_true_input (slice_get node_defs n)) nodes

abbrev pub config_allows_several : List (NodeDef Val) → ConfigView → Bool
config_allows_several node_defs config = some_input_true node_defs (get_or config.inputs ALLOW_MULTIPLE_SELECTIONS [])
