use Rattle.std.specs.Prelude.{◌≡◌, ◌<◌, ℕ, zero, suc, ◌+◌, ◌-◌, List, [], ◌∷◌, ◌++◌, Bool, true, cond, not, ◌&&◌, eqb, length, get_or, slice_get, set, reverse, sum_by, All, Option, Some, None}
use Rattle.id_lists.specs.Members.{In}
use Rattle.dep_graph.specs.Order.{IsEdge, IsOrdered}
use Rattle.dep_graph.specs.declared.graph.Graph.{Graph}
use Rattle.std.specs.List.{list_any, AllByRecursion}
use Rattle.dep_graph.specs.declared.edge.Edge.{Edge}
use Rattle.dep_graph.specs.declared.dependents.Dependents.{Dependents}

-- has: whether a number is one of a list
abbrev pub has : List ℕ → ℕ → Bool
has ns n = list_any (eqb n) ns

-- is left: whether an edge is one of a vertex to what is not done
abbrev pub is_left : List ℕ → ℕ → Edge → Bool
is_left done v e = eqb e.vertex v && not (has done e.dependency)

-- left: how many dependencies of a vertex are not done
abbrev pub left : List ℕ → ℕ → List Edge → ℕ
left done v [] = 0
left done v (e ∷ es) = cond (is_left done v e) 1 0 + left done v es

-- dependents: the vertices that depend on one, once for each edge
abbrev pub dependents_of : ℕ → List Edge → List ℕ
dependents_of d [] = []
dependents_of d (e ∷ es) = cond (eqb e.dependency d) (e.vertex ∷ dependents_of d es) (dependents_of d es)

-- times: how often a vertex stands in a list
abbrev pub times : ℕ → List ℕ → ℕ
times v [] = 0
times v (n ∷ ns) = cond (eqb n v) 1 0 + times v ns

-- counts: the number of dependencies of each vertex that are not done
pub record AreCounts (count : ℕ) (done : List ℕ) (es : List Edge) (counts : List ℕ) : Type 0 where
  pub as_many : length counts ≡ count
  pub counted : (v : ℕ) → v < count → get_or counts v 0 ≡ left done v es

-- vertices listed, none where nothing is listed
abbrev pub vertices_in : Option Dependents → List ℕ
vertices_in None = []
vertices_in (Some ds) = ds.vertices.items

-- all dependents: those of each vertex are listed
pub record AreDependents (count : ℕ) (es : List Edge) (all : List Dependents) : Type 0 where
  pub as_many : length all ≡ count
  pub listed : (d : ℕ) → d < count → vertices_in (slice_get all d) ≡ dependents_of d es

-- waits: 1 for a vertex of which dependencies are left, else 0
abbrev pub waits : ℕ → ℕ
waits n = cond (eqb n 0) 0 1

-- progress: how far the order has come; done are those whose dependents were told, pending the dependents that are still to be told of one more
pub record IsProgress (count : ℕ) (es : List Edge) (done pending counts order : List ℕ) : Type 0 where
  pub as_many : length counts ≡ count
  pub counted : (v : ℕ) → v < count → get_or counts v 0 ≡ left done v es + times v pending
  pub ready_in : (v : ℕ) → v < count → get_or counts v 0 ≡ 0 → In v order
  pub in_ready : (v : ℕ) → In v order → (v < count) × (get_or counts v 0 ≡ 0)
  pub pending_within : AllByRecursion (λ v. v < count) pending
  pub done_in : (v : ℕ) → has done v ≡ true → In v order
  pub ordered : IsOrdered es (reverse order)
  pub room : length order + sum_by waits counts ≡ count

-- told: one dependent has one dependency less left, and is next in the order where none is left
pub record IsTold (v : ℕ) (counts order counts' order' : List ℕ) : Type 0 where
  pub counts_are : counts' ≡ set counts v (get_or counts v 0 - 1)
  pub order_is : order' ≡ cond (eqb (get_or counts v 0) 1) (order ++ v ∷ []) order

-- graph: edges between vertices, with the dependents of each
pub record IsGraph (g : Graph) : Type 0 where
  pub edges : All (IsEdge g.count) g.edges.items
  pub dependents : AreDependents g.count g.edges.items g.dependents.items

-- ready: the vertices less than a number of which no dependency is left
abbrev pub ready_below : List ℕ → ℕ → List ℕ
ready_below counts zero = []
ready_below counts (suc k) = cond (eqb (get_or counts k 0) 0) (ready_below counts k ++ k ∷ []) (ready_below counts k)

-- first waiting: the least vertex of which dependencies are left
pub record IsFirstWaiting (counts : List ℕ) (v : ℕ) : Type 0 where
  pub within : v < length counts
  pub waiting : get_or counts v 0 ≡ 0 → ⊥
  pub first : (u : ℕ) → u < v → get_or counts u 0 ≡ 0

-- none waits: of no vertex a dependency is left
abbrev pub NoneWaits : List ℕ → Type 0
NoneWaits counts = (u : ℕ) → u < length counts → get_or counts u 0 ≡ 0
