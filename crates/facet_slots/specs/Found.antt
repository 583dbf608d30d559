-- What is found of a facet, from its definition and its input nodes.
use Rattle.std.specs.Prelude.{ℕ, List, map}
use Rattle.configuration.specs.declared.facet_def.FacetDef.{FacetDef}
use Rattle.configuration.specs.declared.node_def.NodeDef.{NodeDef}
use Rattle.values.specs.declared.scene.Scene.{Scene}
use Rattle.values.specs.declared.val.Val.{Val}
use Rattle.facet_slots.specs.Setups.{PresentFacet, input_node}
use Rattle.facet_slots.specs.Scenes.{SceneView}

-- the document, as its characters, with its selection
abbrev pub scene_of : Scene → SceneView
scene_of scene = record { document = scene.document.characters; selection = scene.selection }

-- a facet with these input nodes
abbrev pub facet_of : FacetDef → List (NodeDef Val) → List ℕ → PresentFacet
facet_of def node_defs nodes = record { def = def; inputs = map (input_node node_defs) nodes }
