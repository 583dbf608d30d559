-- The calls that are due: of creators, updaters, computers and combiners.
use Rattle.std.specs.Prelude.{ℕ, ◌+◌, List, [], ◌∷◌, Bool, ◌||◌, cond, Option, None, Some, is_none, sum_by}
use Rattle.std.specs.Option.{option_map, unwrap_or}
use Rattle.configuration.specs.declared.node_def.NodeDef.{NodeDef}
use Rattle.configuration.specs.declared.node_def.NodeDef.TheVariants.{Compute, ComputeN, From}
use Rattle.configuration.specs.declared.vertex.Vertex.{Vertex}
use Rattle.configuration.specs.declared.vertex.Vertex.TheVariants.{Facet, Field}
use Rattle.configuration.specs.Pairs.{reads_of}
use Rattle.values.specs.declared.val.Val.{Val}
use Rattle.values.specs.Rules.{Rules}
use Rattle.facet_slots.specs.Setups.{Setup, InputNode, PresentFacet, PresentField, facet_at, field_at, order_of}
use Rattle.facet_slots.specs.Stepping.{State, Transition, Enter, Update, kept_value}
use Rattle.facet_slots.specs.declared.scene_flags.SceneFlags.{SceneFlags}
use Rattle.facet_slots.specs.Flags.{Flags, Change, any_flagged, find_node, facet_due, flags_of, change_of}

-- one call for a computed input
abbrev pub call_of : Option (NodeDef Val) → ℕ
call_of (Some (Compute rule reads)) = 1
call_of (Some (ComputeN rule reads)) = 1
call_of (Some (From field rule)) = 1
call_of _ = 0

-- and one for each computed input among some
abbrev pub calls_of : List InputNode → ℕ
calls_of [] = 0
calls_of (i ∷ is) = call_of i.input + calls_of is

-- Input due: it is new to its facet, or a declared dependency is flagged.
abbrev pub input_due : SceneFlags → Flags → List InputNode → InputNode → Bool
input_due moved flags was node = is_none (find_node node.node was) || any_flagged moved flags (reads_of node.input)

-- the calls that the inputs of a facet are due
abbrev pub inputs_due : SceneFlags → Flags → List InputNode → List InputNode → ℕ
inputs_due moved flags was [] = 0
inputs_due moved flags was (i ∷ is) = cond (input_due moved flags was i) (call_of i.input) 0 + inputs_due moved flags was is

-- the inputs that a facet had, none where it was not declared
abbrev pub inputs_before : Option PresentFacet → List InputNode
inputs_before None = []
inputs_before (Some was) = was.inputs

-- the calls that a facet is due: those of its inputs, and one where it is due
abbrev pub facet_calls : Rules → Change → Flags → Option PresentFacet → PresentFacet → ℕ
facet_calls rules c flags was facet = inputs_due c.moved flags (inputs_before was) facet.inputs + cond (facet_due rules c flags was facet) 1 0

-- the calls that a field takes: on entering one where it is created by its creator, and one on an update
abbrev pub field_calls : Transition → State → ℕ → PresentField → ℕ
field_calls Enter old f field = cond (is_none (kept_value old f field)) (cond (is_none field.init) 1 0) 0
field_calls (Update t) old f field = 1

abbrev pub calls_due : Rules → Transition → Change → Flags → Vertex → ℕ
calls_due rules transition c flags (Facet f) = unwrap_or (option_map (facet_calls rules c flags (facet_at c.old.setup f)) (facet_at c.new.setup f)) 0
calls_due rules transition c flags (Field f) = unwrap_or (option_map (field_calls transition c.old f) (field_at c.new.setup f)) 0

-- Calls: the bound of a transition.
abbrev pub transition_calls : Rules → Transition → State → Setup → ℕ
transition_calls rules transition old setup =
    sum_by (calls_due rules transition (change_of rules transition old setup) (flags_of rules (change_of rules transition old setup))) (order_of setup)
