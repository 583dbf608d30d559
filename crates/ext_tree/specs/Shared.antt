use Rattle.std.specs.Prelude.{ℕ, List, [], Bool, false, cond, Option, Some, None, slice_get}
use Rattle.ext_tree.specs.declared.precedence.Precedence.{Precedence}
use Rattle.ext_tree.specs.declared.precedence.Precedence.TheVariants as precedence
use Rattle.ext_tree.specs.declared.node.Node.{Node}
use Rattle.ext_tree.specs.declared.node.Node.TheVariants.{Input, Field, Init}
use Rattle.ext_tree.specs.declared.visit.Visit.{Visit}
use Rattle.ext_tree.specs.declared.shared_list.SharedList.{SharedList}
use Rattle.ext_tree.specs.declared.shared_list.SharedList.TheVariants.{Enabled, Provided}
use Rattle.ext_tree.specs.Tree.{Tree}
use Rattle.ext_tree.specs.Unfolding.{following}
use Rattle.ext_tree.specs.Memo.{is_walked}

-- shared list: what a leaf at a precedence is followed by
abbrev pub list_in : Precedence → Option Node → Option SharedList
list_in p (Some (Input facet)) = Some (Enabled facet)
list_in p (Some (Field field)) = Some (Provided field p)
list_in p (Some (Init field)) = Some (Provided field p)
list_in p _ = None

-- shared list after a visit, none where its node is no leaf
abbrev pub list_after : Tree → Visit → Option SharedList
list_after t v = list_in v.precedence (slice_get t.nodes v.node)

-- walked: whether a shared list is marked, by facet and by field and precedence
abbrev pub is_list_walked : List Bool → List Bool → SharedList → Bool
is_list_walked facets fields (Enabled facet) = is_walked facets (record { node = facet; precedence = precedence.Default })
is_list_walked facets fields (Provided field p) = is_walked fields (record { node = field; precedence = p })

-- walked after: whether what a visit is followed by is a shared list that was walked
abbrev pub is_walked_after : (SharedList → Bool) → Option SharedList → Bool
is_walked_after walked None = false
is_walked_after walked (Some x) = walked x

-- to walk: the nodes that a visit is followed by, none where they are a shared list that was walked
abbrev pub to_walk : (SharedList → Bool) → Tree → Visit → List ℕ
to_walk walked t v = cond (is_walked_after walked (list_after t v)) [] (following t v.node)
