use Rattle.std.specs.Prelude.{◌≡◌, ◌<◌, ◌≤◌, ℕ, List, [], ◌∷◌, ◌++◌, reverse, ⊤}
use Rattle.id_lists.specs.Members.{In}
use Rattle.dep_graph.specs.declared.edge.Edge.{Edge}

-- edge between vertices: both ends are less than the count
pub record IsEdge (count : ℕ) (e : Edge) : Type 0 where
  pub vertex : e.vertex < count
  pub dependency : e.dependency < count

-- edge: v depends on d
abbrev pub edge : ℕ → ℕ → Edge
edge v d = record { vertex = v; dependency = d }

-- depends on: an edge says that v depends on d
abbrev pub DependsOn : List Edge → ℕ → ℕ → Type 0
DependsOn es v d = In (edge v d) es

-- ordered list, read from its end: each vertex stands once, and after what it depends on
abbrev pub IsOrdered : List Edge → List ℕ → Type 0
IsOrdered es [] = ⊤
IsOrdered es (v ∷ vs) = ((d : ℕ) → DependsOn es v d → In d vs) × (In v vs → ⊥) × IsOrdered es vs

-- order: each vertex less than the count stands once, and after what it depends on
pub record IsOrder (count : ℕ) (es : List Edge) (order : List ℕ) : Type 0 where
  pub ordered : IsOrdered es (reverse order)
  pub within : (v : ℕ) → In v order → v < count
  pub complete : (v : ℕ) → v < count → In v order

-- can't be ordered: the vertex stands in no ordered list
abbrev pub IsStuck : List Edge → ℕ → Type 0
IsStuck es v = (vs : List ℕ) → IsOrdered es vs → In v vs → ⊥

-- the least vertex that can't be ordered
pub record IsFirstStuck (count : ℕ) (es : List Edge) (v : ℕ) : Type 0 where
  pub is_stuck : IsStuck es v
  pub within : v < count
  pub least : (u : ℕ) → IsStuck es u → u < count → v ≤ u

-- next: of the dependencies of v that can't be ordered, d is the least
pub record IsNext (es : List Edge) (v d : ℕ) : Type 0 where
  pub depends : DependsOn es v d
  pub is_stuck : IsStuck es d
  pub least : (u : ℕ) → IsStuck es u → DependsOn es v u → d ≤ u

-- chain: each is the next of the one before, and the given one that of the last
abbrev pub IsChain : List Edge → List ℕ → ℕ → Type 0
IsChain es [] last = ⊤
IsChain es (v ∷ []) last = IsNext es v last
IsChain es (v ∷ w ∷ vs) last = IsNext es v w × IsChain es (w ∷ vs) last

-- distinct: no vertex stands twice
abbrev pub AreDistinct : List ℕ → Type 0
AreDistinct [] = ⊤
AreDistinct (v ∷ vs) = (In v vs → ⊥) × AreDistinct vs

-- circle: from the least vertex that can't be ordered on, from next to next, until a vertex comes again; the members
-- run from its first visit
pub record IsCircle (count : ℕ) (es : List Edge) (members : List ℕ) : Type 0 where
  pub before : List ℕ
  pub first : ℕ
  pub others : List ℕ
  pub first_member : ℕ
  pub other_members : List ℕ
  pub members_are : members ≡ first_member ∷ other_members
  pub walk_is : before ++ members ≡ first ∷ others
  pub starts : IsFirstStuck count es first
  pub chain : IsChain es (before ++ members) first_member
  pub distinct : AreDistinct (before ++ members)
