-- At creation each field, computed input and facet is due once at most.
use Rattle.std.proofs.Common.{◌≡◌, ◌≤◌, ◌+◌, ℕ, List, [], ◌∷◌, Option, None, Some, refl, ap, arith}
use Rattle.std.specs.Option.{option_map, unwrap_or}
use Rattle.configuration.specs.declared.vertex.Vertex.{Vertex}
use Rattle.configuration.specs.declared.vertex.Vertex.TheVariants.{Facet, Field}
use Rattle.values.specs.Rules.{Rules}
use Rattle.facet_slots.specs.Setups.{Setup, InputNode, PresentFacet, PresentField, facet_at, field_at}
use Rattle.facet_slots.specs.Scenes.{SceneView}
use Rattle.facet_slots.specs.Stepping.{State, Enter, empty_state}
use Rattle.facet_slots.specs.declared.scene_flags.SceneFlags.{SceneFlags}
use Rattle.facet_slots.specs.Flags.{Flags, Change, change_of}
use Rattle.facet_slots.specs.Due.{call_of, calls_of, inputs_due, facet_calls, field_calls, calls_due}
use Rattle.facet_slots.proofs.Nexting.{one-at-most}

-- one for each computed input, and one for the facet
abbrev pub facet_cost : PresentFacet → ℕ
facet_cost facet = calls_of facet.inputs + 1

abbrev pub cost : Setup → Vertex → ℕ
cost setup (Facet f) = unwrap_or (option_map facet_cost (facet_at setup f)) 0
cost setup (Field f) = unwrap_or (option_map (λ (field : PresentField). 1) (field_at setup f)) 0

-- where a facet had no inputs, each computed input is due
all-due : (moved : SceneFlags) (flags : Flags) (is : List InputNode) → inputs_due moved flags [] is ≡ calls_of is
all-due moved flags [] = refl
all-due moved flags (i ∷ is) = ap (λ (n : ℕ). call_of i.input + n) (all-due moved flags is)

facet-once : (rules : Rules) (c : Change) (flags : Flags) (o : Option PresentFacet) → unwrap_or (option_map (facet_calls rules c flags None) o) 0 ≤ unwrap_or (option_map facet_cost o) 0
facet-once rules c flags None = omega arith
facet-once rules c flags (Some facet) = let all = all-due c.moved flags facet.inputs in omega (arith, all)

field-once : (old : State) (f : ℕ) (o : Option PresentField) → unwrap_or (option_map (field_calls Enter old f) o) 0 ≤ unwrap_or (option_map (λ (field : PresentField). 1) o) 0
field-once old f None = omega arith
field-once old f (Some field) = one-at-most Enter old f field

pub creation-once : (rules : Rules) (setup : Setup) (scene : SceneView) (flags : Flags) (v : Vertex) → calls_due rules Enter (change_of rules Enter (empty_state scene) setup) flags v ≤ cost setup v
creation-once rules setup scene flags (Facet f) = facet-once rules (change_of rules Enter (empty_state scene) setup) flags (facet_at setup f)
creation-once rules setup scene flags (Field f) = field-once (empty_state scene) f (field_at setup f)
