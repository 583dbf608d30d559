-- The flat order: which leaves stand in it, and in which order.
use Rattle.std.specs.Prelude.{ℕ, List, [], ◌∷◌, ◌++◌, Bool, cond, eqb, nat_lt, ◌&&◌, ◌||◌, map, filter, flat_map, slice_get}
use Rattle.std.specs.List.{list_any}
use Rattle.ext_tree.specs.declared.precedence.Precedence.{Precedence}
use Rattle.ext_tree.specs.declared.precedence.TheConstants.{PRECEDENCES}
use Rattle.ext_tree.specs.declared.precedence.Precedence.TheVariants as precedence
use Rattle.ext_tree.specs.declared.visit.Visit.{Visit}
use Rattle.ext_tree.specs.Tree.{Tree, is_leaf_in}
use Rattle.ext_tree.specs.Unfolding.{Occurrence, unfolding_of}

-- level: the place of a precedence among all, highest first (Reference Manual, Prec)
abbrev pub level : Precedence → ℕ
level precedence.Highest = 0
level precedence.High = 1
level precedence.Default = 2
level precedence.Low = 3
level precedence.Lowest = 4

-- how many precedences there are
abbrev pub precedences : ℕ
precedences = PRECEDENCES

-- levels: those of all precedences, highest first
abbrev pub levels : List ℕ
levels = 0 ∷ 1 ∷ 2 ∷ 3 ∷ 4 ∷ []

-- whether a node of a tree is a leaf: an input, a field or the init of one
abbrev pub is_leaf : Tree → ℕ → Bool
is_leaf t n = is_leaf_in (slice_get t.nodes n)

-- a visit alone, where its node is a leaf
abbrev pub leaf : Tree → Visit → List Visit
leaf t v = cond (is_leaf t v.node) (v ∷ []) []

-- visit: an occurrence without its path
abbrev pub visit_of : Occurrence → Visit
visit_of o = record { node = o.node; precedence = o.precedence }

-- leaves: the visits of leaves among some occurrences, in order
abbrev pub leaves : Tree → List Occurrence → List Visit
leaves t os = flat_map (λ (o : Occurrence). leaf t (visit_of o)) os

-- whether a visit has the precedence of a level
abbrev pub has_level : ℕ → Visit → Bool
has_level i v = eqb (level v.precedence) i

-- node of a visit
abbrev pub node_of : Visit → ℕ
node_of v = v.node

-- at a level: the nodes of the visits that have it, in order
abbrev pub at_level : ℕ → List Visit → List ℕ
at_level i vs = map node_of (filter (has_level i) vs)

-- higher: the leaf of a visit has that node, at a precedence above a level
abbrev pub is_higher : ℕ → ℕ → Visit → Bool
is_higher n i w = eqb n w.node && nat_lt (level w.precedence) i

-- same: the leaf of a visit has that node, at that level
abbrev pub is_same : ℕ → ℕ → Visit → Bool
is_same n i w = eqb n w.node && has_level i w

-- passed over: a leaf is met somewhere at a higher precedence, or earlier at the same one
abbrev pub is_passed_over : List Visit → List Visit → Visit → Bool
is_passed_over all before v = list_any (is_higher v.node (level v.precedence)) all || list_any (is_same v.node (level v.precedence)) before

-- chosen: of each leaf its first occurrence of highest precedence
abbrev pub chosen_from : List Visit → List Visit → List Visit → List Visit
chosen_from all before [] = []
chosen_from all before (v ∷ vs) = cond (is_passed_over all before v) (chosen_from all (before ++ v ∷ []) vs) (v ∷ chosen_from all (before ++ v ∷ []) vs)

-- chosen of all leaves of a walk
abbrev pub chosen : List Visit → List Visit
chosen vs = chosen_from vs [] vs

-- by precedence: sorted stably, from the highest precedence to the lowest and each of them in order
abbrev pub by_precedence : List Visit → List ℕ
by_precedence vs = flat_map (λ (i : ℕ). at_level i vs) levels

-- sorted order of leaves: of each its first occurrence of highest precedence, sorted stably by precedence
abbrev pub sorted_order : List Visit → List ℕ
sorted_order vs = by_precedence (chosen vs)

-- flat order of some roots: that of their leaves (System Guide, Configuration)
abbrev pub flat_order : Tree → List ℕ → List ℕ
flat_order t roots = sorted_order (leaves t (unfolding_of t roots))
