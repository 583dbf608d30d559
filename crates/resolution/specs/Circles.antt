-- The circle of a dependency graph, as a function of its edges.
use Rattle.std.specs.Prelude.{ℕ, zero, suc, List, [], ◌∷◌, ◌++◌, Bool, false, cond, not, eqb, map, filter, find, Option, Some, None}
use Rattle.std.specs.List.{list_all, range_with_len}
use Rattle.id_lists.specs.Least.{least}
use Rattle.dep_graph.specs.declared.edge.Edge.{Edge}
use Rattle.dep_graph.specs.Counting.{has}

-- dependencies of a vertex, in the order of the edges
abbrev pub dependencies_of : List Edge → ℕ → List ℕ
dependencies_of es v = map (λ (e : Edge). e.dependency) (filter (λ (e : Edge). eqb e.vertex v) es)

-- can be ordered within some rounds: each dependency can be within one round less
abbrev pub can_order : List Edge → ℕ → ℕ → Bool
can_order es zero v = false
can_order es (suc rounds) v = list_all (can_order es rounds) (dependencies_of es v)

-- stuck: a vertex that can't be ordered within as many rounds as there are vertices
abbrev pub is_stuck : ℕ → List Edge → ℕ → Bool
is_stuck count es v = not (can_order es count v)

-- first stuck: of the vertices less than a count the least that can't be ordered
abbrev pub first_stuck : ℕ → List Edge → Option ℕ
first_stuck count es = find (is_stuck count es) (range_with_len 0 count)

-- next stuck: of the dependencies of a vertex the least that can't be ordered
abbrev pub next_stuck : ℕ → List Edge → ℕ → Option ℕ
next_stuck count es v = least (filter (is_stuck count es) (dependencies_of es v))

-- from a visit: what of a path stands from the first visit of a vertex on
abbrev pub from_visit : ℕ → List ℕ → List ℕ
from_visit v [] = []
from_visit v (u ∷ path) = cond (eqb v u) (u ∷ path) (from_visit v path)

-- walk: after a path, from a vertex on to the next and the next, until one comes again; within some steps
abbrev pub circle_after : ℕ → List Edge → ℕ → List ℕ → Option ℕ → Option (List ℕ)
circle_after count es zero path next = None
circle_after count es (suc steps) path None = None
circle_after count es (suc steps) path (Some v) = cond (has path v) (Some (from_visit v path)) (circle_after count es steps (path ++ v ∷ []) (next_stuck count es v))

-- circle: from the least vertex that can't be ordered on to the least such dependency, until a vertex comes again; the
-- members run from its first visit; none where each vertex can be ordered
unfoldable pub circle_of : ℕ → List Edge → Option (List ℕ)
circle_of count es = circle_after count es (suc count) [] (first_stuck count es)
