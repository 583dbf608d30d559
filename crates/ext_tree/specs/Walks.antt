use Rattle.std.specs.Prelude.{◌≡◌, ◌<◌, ℕ, List, Some, reverse}
use Rattle.ext_tree.specs.declared.precedence.Precedence.{Precedence}
use Rattle.ext_tree.specs.Tree.{Tree}
use Rattle.ext_tree.specs.declared.task.Task.{Task}
use Rattle.ext_tree.specs.declared.task.Task.TheVariants.{Enter}
use Rattle.ext_tree.specs.declared.walk.Walk.{Walk}
use Rattle.ext_tree.specs.Unfolding.{Occurrence}
use Rattle.ext_tree.specs.Refusal.{Refusal, refusal}
use Rattle.ext_tree.specs.Memo.{is_walked}
use Rattle.ext_tree.specs.Shared.{is_list_walked}
use Rattle.ext_tree.specs.Marks.{AreOpen, AreFirsts}
use Rattle.ext_tree.specs.Walking.{visit, IsUnderWay, to_do}

-- enter at: a node is to be entered at a precedence
abbrev pub enter_at : Precedence → ℕ → Task
enter_at p n = Enter (visit n p)

-- a walk is under way, with these tasks before it
abbrev pub IsWalk : Tree → List Occurrence → List Task → Walk → Type 0
IsWalk t os tasks w = IsUnderWay t os tasks w.slots.path.items w.met.nodes.items w.leaves.items (is_walked w.memo.walked.items) (is_list_walked w.lists.facets.walked.items w.lists.fields.walked.items)

-- to do: the measure of a walk
abbrev pub walk_to_do : Tree → List Task → Walk → ℕ
walk_to_do t tasks w = to_do t w.slots.path.items tasks

-- from these tasks the walk goes on to the ones that are now before it, with less to do
pub record GoesOn (t : Tree) (os : List Occurrence) (tasks : List Task) (old new : Walk) : Type 0 where
  pub is_walk : IsWalk t os (reverse new.tasks.items) new
  pub less : walk_to_do t (reverse new.tasks.items) new < walk_to_do t tasks old

-- continues: so it is for every walk that is under way
abbrev pub Continues : Tree → List Task → Walk → Walk → Type 0
Continues t tasks old new = (os : List Occurrence) → IsWalk t os tasks old → GoesOn t os tasks old new

-- the walk of these tasks is refused
abbrev pub IsRefused : Tree → List Task → Walk → Refusal → Type 0
IsRefused t tasks w r = (os : List Occurrence) → IsWalk t os tasks w → refusal t os ≡ Some r

-- marked: the marks of a walk say what its lists have
pub record IsMarked (t : Tree) (w : Walk) : Type 0 where
  pub slots : AreOpen t w.slots.path.items w.slots.counts.entries
  pub met : AreFirsts t w.met.nodes.items w.met.firsts.entries
