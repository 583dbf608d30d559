use Rattle.std.specs.Prelude.{◌≡◌, ◌<◌, ℕ, zero, suc, ◌+◌, ◌*◌, ◌-◌, List, [], ◌∷◌, ◌++◌, Bool, true, cond, Some, is_some, length, map, take, ⊤}
use Rattle.std.specs.List.{AllByRecursion}
use Rattle.id_lists.specs.Members.{In}
use Rattle.ext_tree.specs.declared.precedence.Precedence.{Precedence}
use Rattle.ext_tree.specs.declared.visit.Visit.{Visit}
use Rattle.ext_tree.specs.Tree.{Tree}
use Rattle.ext_tree.specs.declared.task.Task.{Task}
use Rattle.ext_tree.specs.declared.task.Task.TheVariants.{Enter, Leave}
use Rattle.ext_tree.specs.Unfolding.{Occurrence, compartment_of, following, precedence_below, unfold_at}
use Rattle.ext_tree.specs.declared.shared_list.SharedList.{SharedList}
use Rattle.ext_tree.specs.Shared.{list_after}
use Rattle.ext_tree.specs.Refusal.{refusal, refusal_after, first_met, met_after, slots_met}
use Rattle.ext_tree.specs.Flat.{is_leaf, leaves}
use Rattle.ext_tree.specs.Taking.{flat}

-- visit of a node at a precedence
abbrev pub visit : ℕ → Precedence → Visit
visit n p = record { node = n; precedence = p }

-- visit below: a node that another is followed by, at its precedence
abbrev pub visit_below : Tree → Visit → ℕ → Visit
visit_below t v m = visit m (precedence_below t v.node v.precedence)

-- n is reached from m in k steps
abbrev pub ReachesIn : Tree → ℕ → ℕ → ℕ → Type 0
ReachesIn t zero m n = m ≡ n
ReachesIn t (suc k) m n = (j : ℕ) × In j (following t m) × ReachesIn t k j n

-- reaches: in one step or more
abbrev pub Reaches : Tree → ℕ → ℕ → Type 0
Reaches t m n = (k : ℕ) × ReachesIn t (suc k) m n

-- a slot was met, as the first of its compartment
abbrev pub IsFirst : Tree → List ℕ → ℕ → Type 0
IsFirst t met s = (c : ℕ) → compartment_of t s ≡ Some c → first_met t c met ≡ Some s

-- the slots of a path were met, and lead to a node
abbrev pub LeadsTo : Tree → List ℕ → ℕ → ℕ → Type 0
LeadsTo t met n s = IsFirst t met s × Reaches t s n

-- path: all its slots were met, and lead to a node
abbrev pub IsPath : Tree → List ℕ → List ℕ → ℕ → Type 0
IsPath t met path n = AllByRecursion (LeadsTo t met n) path

-- what a walk has to know of a node is known
pub record IsCounted (t : Tree) (met : List ℕ) (vs : List Visit) (v : Visit) : Type 0 where
  pub slot : IsFirst t met v.node
  pub leaf : is_leaf t v.node ≡ true → In v vs

-- what a node is followed by was walked
abbrev pub AreBelowDone : Tree → List Visit → Visit → Type 0
AreBelowDone t done v = AllByRecursion (λ m. In (visit_below t v m) done) (following t v.node)

-- walked to the end, the latest first: what a node is followed by was walked before it
abbrev pub IsClosed : Tree → List Visit → Type 0
IsClosed t [] = ⊤
IsClosed t (v ∷ done) = AreBelowDone t done v × IsClosed t done

-- the path when a node is left
abbrev pub path_after : Tree → ℕ → List ℕ → List ℕ
path_after t n path = cond (is_some (compartment_of t n)) (take (length path - 1) path) path

-- what is still to do can be done
abbrev pub CanGoOn : Tree → List ℕ → List Visit → List Visit → List ℕ → List Task → Type 0
CanGoOn t met vs done path [] = ⊤
CanGoOn t met vs done path (Enter v ∷ ts) = (v.node < length t.nodes) × IsPath t met path v.node × CanGoOn t met vs (v ∷ done) path ts
CanGoOn t met vs done path (Leave v ∷ ts) = IsCounted t met vs v × AreBelowDone t done v × CanGoOn t met vs (v ∷ done) (path_after t v.node path) ts

-- the occurrence of a visit on a path
abbrev pub occurrence : Visit → List ℕ → Occurrence
occurrence v path = record { node = v.node; path = path; precedence = v.precedence }

-- ahead: the occurrences that these tasks have still to meet
abbrev pub ahead : Tree → List ℕ → List Task → List Occurrence
ahead t path [] = []
ahead t path (Enter v ∷ ts) = unfold_at t (occurrence v path) ++ ahead t path ts
ahead t path (Leave v ∷ ts) = ahead t (path_after t v.node path) ts

-- a walk that is under way: what it has met, and what it has still to meet, give what the whole unfolding gives
pub record IsUnderWay (t : Tree) (os : List Occurrence) (tasks : List Task) (path met : List ℕ) (vs : List Visit) (memo : Visit → Bool) (lists : SharedList → Bool) : Type 0 where
  pub done : List Visit
  pub closed : IsClosed t done
  pub counted : AllByRecursion (IsCounted t met vs) done
  pub walked : (v : Visit) → memo v ≡ true → In v done
  pub lists_walked : (v : Visit) (x : SharedList) → list_after t v ≡ Some x → lists x ≡ true → AreBelowDone t done v
  pub can_go_on : CanGoOn t met vs done path tasks
  pub refusal_same : refusal_after t met (ahead t path tasks) ≡ refusal t os
  pub met_same : met_after t met (ahead t path tasks) ≡ slots_met t os
  pub flat_same : flat (vs ++ leaves t (ahead t path tasks)) ≡ flat (leaves t os)

-- how many nodes these tasks have still to leave
abbrev pub to_leave : List Task → ℕ
to_leave [] = 0
to_leave (Enter v ∷ ts) = to_leave ts
to_leave (Leave v ∷ ts) = to_leave ts + 1

-- to do: a measure that falls with each task
abbrev pub to_do : Tree → List ℕ → List Task → ℕ
to_do t path ts = 2 * length (ahead t path ts) + to_leave ts

-- what a node is followed by is to be entered
abbrev pub enter_below : Tree → Visit → ℕ → Task
enter_below t v m = Enter (visit_below t v m)

-- entered: the tasks after a node was entered, with these nodes to walk
abbrev pub entered : Tree → Visit → List ℕ → List Task → List Task
entered t v ms ts = map (enter_below t v) ms ++ Leave v ∷ ts
