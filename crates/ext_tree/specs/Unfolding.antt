use Rattle.std.specs.Prelude.{◌≡◌, ◌<◌, ℕ, zero, suc, ◌+◌, ◌*◌, List, [], ◌∷◌, ◌++◌, Bool, false, cond, eqb, Option, Some, None, is_some, length, slice_get, map, flat_map}
use Rattle.std.specs.Option.{option_map, unwrap_or}
use Rattle.std.specs.List.{list_any}
use Rattle.compartments.specs.Contents.{content_of}
use Rattle.ext_tree.specs.declared.precedence.Precedence.{Precedence}
use Rattle.ext_tree.specs.declared.precedence.Precedence.TheVariants as precedence
use Rattle.ext_tree.specs.declared.node.Node.{Node}
use Rattle.ext_tree.specs.declared.node.Node.TheVariants.{Prec, Slot, Input}
use Rattle.ext_tree.specs.Tree.{Tree, is_leaf_in, linked, named}

-- occurrence: a node as the walk meets it, with the slot nodes above it, outermost first, and its precedence
pub record Occurrence : Type 0 where
  pub node : ℕ
  pub path : List ℕ
  pub precedence : Precedence

-- compartment of a slot (Reference Manual, Compartment.of)
abbrev pub compartment_in : Option Node → Option ℕ
compartment_in (Some (Slot compartment content)) = Some compartment
compartment_in _ = None

-- compartment of a node of a tree, none where it is no slot
abbrev pub compartment_of : Tree → ℕ → Option ℕ
compartment_of t n = compartment_in (slice_get t.nodes n)

-- slot of a compartment: whether a node is one
abbrev pub is_slot_of : Tree → ℕ → ℕ → Bool
is_slot_of t c n = unwrap_or (option_map (eqb c) (compartment_of t n)) false

-- stands on: whether a node's compartment stands on a path
abbrev pub stands_on : Tree → List ℕ → Option ℕ → Bool
stands_on t path None = false
stands_on t path (Some c) = list_any (is_slot_of t c) path

-- blocked: whether a node is a slot whose compartment stands on its path
abbrev pub is_blocked : Tree → ℕ → List ℕ → Bool
is_blocked t n path = stands_on t path (compartment_of t n)

-- following: the nodes that a node is followed by, a slot by the set content of its compartment or else by its own, a
-- leaf by what is linked, another by what it names
abbrev pub following_in : Tree → Option Node → List ℕ
following_in t (Some (Slot compartment content)) = unwrap_or (content_of t.contents compartment) content ∷ []
following_in t node = cond (is_leaf_in node) (linked t.links node) (named node)

-- following: the nodes that a node of a tree is followed by
abbrev pub following : Tree → ℕ → List ℕ
following t n = following_in t (slice_get t.nodes n)

-- precedence below: that of what a node is followed by, a wrapper's own (Reference Manual, Prec), default below an
-- input, else that of the node
abbrev pub precedence_in : Precedence → Option Node → Precedence
precedence_in p (Some (Prec q node)) = q
precedence_in p (Some (Input facet)) = precedence.Default
precedence_in p _ = p

-- precedence below a node of a tree
abbrev pub precedence_below : Tree → ℕ → Precedence → Precedence
precedence_below t n p = precedence_in p (slice_get t.nodes n)

-- path below: that of what a node is followed by, with the node at its end where it is a slot
abbrev pub path_below : Tree → ℕ → List ℕ → List ℕ
path_below t n path = cond (is_some (compartment_of t n)) (path ++ n ∷ []) path

-- below: a node that an occurrence is followed by, with its path and precedence
abbrev pub below : Tree → Occurrence → ℕ → Occurrence
below t o n = record { node = n; path = path_below t o.node o.path; precedence = precedence_below t o.node o.precedence }

-- followed by: the occurrences that an occurrence is followed by, none at a slot whose compartment stands on its path
abbrev pub followed_by : Tree → Occurrence → List Occurrence
followed_by t o = cond (is_blocked t o.node o.path) [] (map (below t o) (following t o.node))

-- unfolded: an occurrence and all below it, depth first, to a depth
abbrev pub unfolded : Tree → ℕ → Occurrence → List Occurrence
unfolded t zero o = []
unfolded t (suc depth) o = o ∷ flat_map (unfolded t depth) (followed_by t o)

-- depth: no branch is deeper, since it has each compartment once and between two slots each node is older than the one
-- above
abbrev pub depth_of : Tree → ℕ
depth_of t = (length t.nodes + 1) * (length t.nodes + 1)

-- unfolding at an occurrence: the occurrence and all below it
abbrev pub unfold_at : Tree → Occurrence → List Occurrence
unfold_at t = unfolded t (depth_of t)

-- root occurrence: with nothing above it and default precedence
abbrev pub root_at : ℕ → Occurrence
root_at n = record { node = n; path = []; precedence = precedence.Default }

-- unfolding: the walk of the roots in turn lists all occurrences, depth first (System Guide, Configuration)
abbrev pub unfolding_of : Tree → List ℕ → List Occurrence
unfolding_of t roots = flat_map (unfold_at t) (map root_at roots)

-- the law: the unfolding at an occurrence is the occurrence, and then the unfolding at each that it is followed by
abbrev pub UnfoldsOnce : Tree → Type 0
UnfoldsOnce t = (o : Occurrence) → o.node < length t.nodes → unfold_at t o ≡ o ∷ flat_map (unfold_at t) (followed_by t o)
