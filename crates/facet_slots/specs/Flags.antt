-- What changes in a transition, along the dependencies.
use Rattle.std.specs.Prelude.{◌≡◌, ℕ, List, [], ◌∷◌, Bool, true, false, not, ◌&&◌, ◌||◌, cond, eqb, length, Option, None, Some, is_none}
use Rattle.std.specs.List.{list_any}
use Rattle.change_desc.specs.Ranges.{changes_nothing}
use Rattle.configuration.specs.declared.dependency.Dependency.{Dependency}
use Rattle.configuration.specs.declared.dependency.Dependency.TheVariants as dependency
use Rattle.configuration.specs.declared.vertex.Vertex.{Vertex}
use Rattle.configuration.specs.declared.vertex.Vertex.TheVariants.{Facet, Field}
use Rattle.configuration.specs.Pairs.{reads_of}
use Rattle.values.specs.declared.val.Val.{Val}
use Rattle.values.specs.Rules.{Rules}
use Rattle.facet_slots.specs.declared.scene_flags.SceneFlags.{SceneFlags}
use Rattle.facet_slots.specs.Setups.{Setup, InputNode, PresentFacet, PresentField, facet_at, field_at}
use Rattle.facet_slots.specs.Scenes.{SceneView}
use Rattle.facet_slots.specs.FacetValues.{node_outputs}
use Rattle.facet_slots.specs.Settling.{settled}
use Rattle.facet_slots.specs.Stepping.{State, Transition, Enter, Update, equal_init, after}

-- Moved: a transaction moves the document where it changes something, and the selection where it changes something, gives one,
-- or takes a range away; entering a configuration moves neither.
abbrev pub moved_by : Transition → SceneFlags
moved_by Enter = record { document = false; selection = false }
moved_by (Update t) =
    let changes = not (changes_nothing t.changes) in
    record { document = changes; selection = changes || t.given || not (eqb (length t.selection.ranges) (length t.start_selection.ranges)) }

-- what is not flagged of a document and a selection is as it was
pub record SceneKept (moved : SceneFlags) (old new : SceneView) : Type 0 where
  pub document : moved.document ≡ false → old.document ≡ new.document
  pub selection : moved.selection ≡ false → old.selection ≡ new.selection

-- a flag for each facet and field
abbrev pub Flags : Type 0
Flags = Vertex → Bool

-- whether a declared dependency is flagged
abbrev pub any_flagged : SceneFlags → Flags → List Dependency → Bool
any_flagged moved flags [] = false
any_flagged moved flags (dependency.Doc ∷ reads) = moved.document || any_flagged moved flags reads
any_flagged moved flags (dependency.Selection ∷ reads) = moved.selection || any_flagged moved flags reads
any_flagged moved flags (dependency.Facet f ∷ reads) = flags (Facet f) || any_flagged moved flags reads
any_flagged moved flags (dependency.Field f ∷ reads) = flags (Field f) || any_flagged moved flags reads

-- the input node of an id, where it stands in the list
abbrev pub find_node : ℕ → List InputNode → Option InputNode
find_node n [] = None
find_node n (i ∷ is) = cond (eqb i.node n) (Some i) (find_node n is)

-- Change: the states before and after, and whether the document and the selection changed.
pub record Change : Type 0 where
  pub old : State
  pub new : State
  pub moved : SceneFlags

-- whether a comparer says 'same' of each pair of outputs, and there are as many
abbrev pub same_outputs : Rules → ℕ → List Val → List Val → Bool
same_outputs rules n [] [] = true
same_outputs rules n (a ∷ xs) (b ∷ ys) = rules.compare n a b && same_outputs rules n xs ys
same_outputs rules n _ _ = false

-- and of two values, or there are none
abbrev pub same_value : Rules → ℕ → Option Val → Option Val → Bool
same_value rules n None None = true
same_value rules n (Some a) (Some b) = rules.compare n a b
same_value rules n _ _ = false

-- whether two lists of inputs have the same nodes
abbrev pub same_nodes : List InputNode → List InputNode → Bool
same_nodes [] [] = true
same_nodes (a ∷ xs) (b ∷ ys) = eqb a.node b.node && same_nodes xs ys
same_nodes _ _ = false

-- Input changed: it is new to its facet; or a dependency is flagged, and what it gives is not known to be the same.
abbrev pub input_changed : Rules → Change → Flags → PresentFacet → List InputNode → InputNode → Bool
input_changed rules c flags facet was node =
    is_none (find_node node.node was)
    || (any_flagged c.moved flags (reads_of node.input)
    && not (same_outputs rules facet.def.compare_input (node_outputs rules c.old.scene c.old.values node) (node_outputs rules c.new.scene c.new.values node)))

-- Facet due: an input of it changed, its list of nodes differs, or it was declared since.
abbrev pub facet_due : Rules → Change → Flags → Option PresentFacet → PresentFacet → Bool
facet_due rules c flags None facet = true
facet_due rules c flags (Some was) facet = list_any (input_changed rules c flags facet was.inputs) facet.inputs || not (same_nodes was.inputs facet.inputs)

-- Facet flag: it was due, and its value is not known to be the same.
abbrev pub facet_flag : Rules → Change → Flags → ℕ → Option PresentFacet → Option PresentFacet → Bool
facet_flag rules c flags f was None = false
facet_flag rules c flags f was (Some facet) = facet_due rules c flags was facet && not (same_value rules facet.def.compare (c.old.values (Facet f)) (c.new.values (Facet f)))

-- Field flag: it came, left or was made anew, or its value is not known to be the same.
abbrev pub field_flag : Rules → Option PresentField → Option PresentField → Option Val → Option Val → Bool
field_flag rules None None old new = false
field_flag rules None (Some field) old new = true
field_flag rules (Some was) None old new = true
field_flag rules (Some was) (Some field) old new = not (equal_init was.init field.init && same_value rules field.def.compare old new)

-- all flags found once from the flags
abbrev pub flag_round : Rules → Change → Flags → Flags
flag_round rules c flags (Facet f) = facet_flag rules c flags f (facet_at c.old.setup f) (facet_at c.new.setup f)
flag_round rules c flags (Field f) = field_flag rules (field_at c.old.setup f) (field_at c.new.setup f) (c.old.values (Field f)) (c.new.values (Field f))

-- Flags: of all facets and fields, settled in dependency order.
abbrev pub flags_of : Rules → Change → Flags
flags_of rules c = settled c.new.setup (flag_round rules c) false

-- the change that a transition makes
abbrev pub change_of : Rules → Transition → State → Setup → Change
change_of rules transition old setup = record { old = old; new = after rules transition old setup; moved = moved_by transition }
