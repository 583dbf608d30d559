use Rattle.std.specs.Prelude.{◌≡◌, ◌<◌, ℕ, List, [], ◌∷◌, ◌++◌, Bool, true, false, Option, Some, length, get_or, slice_get}
use Rattle.std.specs.List.{AllByRecursion}
use Rattle.compartments.specs.Contents.{content_of}
use Rattle.ext_tree.specs.Links.{LinkLists}
use Rattle.ext_tree.specs.declared.node.Node.{Node}
use Rattle.ext_tree.specs.declared.node.Node.TheVariants.{Group, Prec, Slot, Input, Field, Init}

-- tree: the nodes of an arena, the set contents of compartments, and what leaves are followed by
pub record Tree : Type 0 where
  pub nodes : List Node
  pub contents : List (ℕ × ℕ)
  pub links : LinkLists

-- tree of an arena, set contents and links
abbrev pub tree_of : List Node → List (ℕ × ℕ) → LinkLists → Tree
tree_of nodes contents links = record { nodes = nodes; contents = contents; links = links }

-- listed: the list at a place, empty where there is none
abbrev pub listed : List (List ℕ) → ℕ → List ℕ
listed lists i = get_or lists i []

-- leaf: an input, a field or the init of one
abbrev pub is_leaf_in : Option Node → Bool
is_leaf_in (Some (Input facet)) = true
is_leaf_in (Some (Field field)) = true
is_leaf_in (Some (Init field)) = true
is_leaf_in _ = false

-- linked: what links say that a leaf is followed by, an input by what its facet enables (Reference Manual,
-- Facet.define, enables), a field by what it provides (StateField.define, provide)
abbrev pub linked : LinkLists → Option Node → List ℕ
linked links (Some (Input facet)) = listed links.enabled facet
linked links (Some (Field field)) = listed links.provided field
linked links (Some (Init field)) = listed links.provided field
linked links _ = []

-- named: what a node itself names, a group its members, a wrapper its node, a slot its own content
abbrev pub named : Option Node → List ℕ
named (Some (Group nodes)) = nodes
named (Some (Prec p node)) = node ∷ []
named (Some (Slot compartment content)) = content ∷ []
named _ = []

-- older: made before
abbrev pub IsOlder : ℕ → ℕ → Type 0
IsOlder n m = m < n

-- arena: what each node names is older than it
abbrev pub IsArena : List Node → Type 0
IsArena nodes = (n : ℕ) → n < length nodes → AllByRecursion (IsOlder n) (named (slice_get nodes n))

-- made: a node stands at the end of an arena, its id is its place, and each older node keeps its own
pub record IsMade (old new : List Node) (id : ℕ) (node : Node) : Type 0 where
  pub id_is : id ≡ length old
  pub nodes_are : new ≡ old ++ node ∷ []
  pub grows : (n : ℕ) (older : Node) → slice_get old n ≡ Some older → slice_get new n ≡ Some older

-- older links: what each leaf is followed by is older than it
abbrev pub AreLinksOlder : List Node → LinkLists → Type 0
AreLinksOlder nodes links = (n : ℕ) → n < length nodes → AllByRecursion (IsOlder n) (linked links (slice_get nodes n))

-- whole tree: nodes and links name older nodes alone, and set contents name nodes of the arena
pub record IsTree (t : Tree) : Type 0 where
  pub nodes : IsArena t.nodes
  pub links : AreLinksOlder t.nodes t.links
  pub contents : (c n : ℕ) → content_of t.contents c ≡ Some n → n < length t.nodes
