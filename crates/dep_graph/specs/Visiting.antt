use Rattle.std.specs.Prelude.{◌≡◌, ◌<◌, ℕ, ◌⊎◌, fold, List, [], ◌∷◌, ◌++◌, Bool, cond, not, ◌&&◌, eqb, length, get_or, false, Option, None}
use Rattle.id_lists.specs.Least.{lesser}
use Rattle.dep_graph.specs.declared.edge.Edge.{Edge}
use Rattle.dep_graph.specs.Order.{IsChain, AreDistinct}
use Rattle.dep_graph.specs.Counting.{has}

-- better: the lesser, where an edge leads from a vertex to one that waits
abbrev pub better : List ℕ → ℕ → Option ℕ → Edge → Option ℕ
better counts v least e = cond (eqb e.vertex v && not (eqb (get_or counts e.dependency 0) 0)) (lesser least e.dependency) least

-- least waiting: the least of the dependencies of a vertex that wait, with one found before
abbrev pub least_waiting : List ℕ → ℕ → Option ℕ → List Edge → Option ℕ
least_waiting counts v least es = fold (better counts v) least es

-- nexts: the least waiting dependency of each vertex
pub record AreNexts (count : ℕ) (counts : List ℕ) (es : List Edge) (nexts : List (Option ℕ)) : Type 0 where
  pub as_many : length nexts ≡ count
  pub least : (v : ℕ) → v < count → least_waiting counts v None es ≡ get_or nexts v None

-- visiting: a walk over the vertices that wait; the marked ones stand on its path, each is the next of the one before,
-- and the vertex is that of the last
pub record IsVisiting (count : ℕ) (es : List Edge) (counts : List ℕ) (first : ℕ) (marks : List Bool) (path : List ℕ) (v : ℕ) : Type 0 where
  pub as_many : length marks ≡ count
  pub within : v < count
  pub waits : get_or counts v 0 ≡ 0 → ⊥
  pub marked : (u : ℕ) → u < count → get_or marks u false ≡ has path u
  pub chain : IsChain es path v
  pub distinct : AreDistinct path
  pub start : ((path ≡ []) × (v ≡ first)) ⊎ ((others : List ℕ) × (path ≡ first ∷ others))

-- unmarked: 1 for a vertex without a mark, else 0
abbrev pub unmarked : Bool → ℕ
unmarked b = cond b 0 1

-- part: what of a path stands from a vertex on
pub record IsPartFrom (path : List ℕ) (v : ℕ) (part : List ℕ) : Type 0 where
  pub before : List ℕ
  pub after : List ℕ
  pub part_is : part ≡ v ∷ after
  pub path_is : path ≡ before ++ part
