use Rattle.std.specs.Prelude.{ℕ, List, [], ◌∷◌, ⊤}
use Rattle.dep_graph.specs.declared.edge.Edge.{Edge}
use Rattle.dep_graph.specs.Order.{DependsOn, IsOrder}

-- members in a ring: each depends on the next, and the last of them on the given one
abbrev pub EachDepends : List Edge → List ℕ → ℕ → Type 0
EachDepends es [] last = ⊤
EachDepends es (v ∷ []) last = DependsOn es v last
EachDepends es (v ∷ w ∷ vs) last = DependsOn es v w × EachDepends es (w ∷ vs) last

-- a ring: there is a first member, each member depends on the next, and the last on the first
abbrev pub IsRing : List Edge → List ℕ → Type 0
IsRing es [] = ⊥
IsRing es (v ∷ vs) = EachDepends es (v ∷ vs) v

-- no order: no list is an order of the graph
abbrev pub HasNoOrder : ℕ → List Edge → Type 0
HasNoOrder count es = (order : List ℕ) → IsOrder count es order → ⊥
