-- The value of a facet: its present inputs, combined from scratch (Reference Manual, Facet.define, combine).
use Rattle.std.specs.Prelude.{List, [], ◌∷◌, map, Option, Some}
use Rattle.std.specs.List.{flat_map}
use Rattle.configuration.specs.declared.dependency.Dependency.TheVariants as dependency
use Rattle.configuration.specs.declared.node_def.NodeDef.{NodeDef}
use Rattle.configuration.specs.declared.node_def.NodeDef.TheVariants.{Of, Compute, ComputeN, From}
use Rattle.values.specs.declared.val.Val.{Val}
use Rattle.values.specs.Rules.{Rules}
use Rattle.facet_slots.specs.Setups.{InputNode, PresentFacet}
use Rattle.facet_slots.specs.Scenes.{SceneView, Values, shown}

-- Outputs: the inputs that a node gives its facet. A rule is handed what it declares, and nothing else.
abbrev pub outputs : Rules → SceneView → Values → Option (NodeDef Val) → List Val
outputs rules scene values (Some (Of v)) = v ∷ []
outputs rules scene values (Some (Compute rule reads)) = rules.compute rule (shown scene values reads) ∷ []
outputs rules scene values (Some (ComputeN rule reads)) = rules.compute_list rule (shown scene values reads)
outputs rules scene values (Some (From field rule)) = rules.compute rule (shown scene values (dependency.Field field ∷ [])) ∷ []
outputs rules scene values _ = []

abbrev pub node_outputs : Rules → SceneView → Values → InputNode → List Val
node_outputs rules scene values node = outputs rules scene values node.input

-- lists joined in order
abbrev pub joined : List (List Val) → List Val
joined = flat_map (λ xs. xs)

-- Facet value: what all of its inputs give, in flat order, combined.
abbrev pub facet_value : Rules → SceneView → Values → PresentFacet → Val
facet_value rules scene values facet = rules.combine facet.def.combine (joined (map (node_outputs rules scene values) facet.inputs))
