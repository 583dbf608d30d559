use Rattle.std.specs.Prelude.{◌≡◌, ℕ, ◌-◌, List, cond, map, nat_lt}
use Rattle.dep_graph.specs.declared.edge.Edge.{Edge}
use Rattle.dep_graph.specs.Order.{IsOrder, IsCircle}
use Rattle.configuration.specs.declared.vertex.Vertex.{Vertex}
use Rattle.configuration.specs.declared.vertex.Vertex.TheVariants.{Facet, Field}

-- vertex of a number: facets first, then fields, each by id
abbrev pub vertex_at : ℕ → ℕ → Vertex
vertex_at facets n = cond (nat_lt n facets) (Facet n) (Field (n - facets))

-- ordered vertices: those of an order of numbers
pub record AreOrdered (facets count : ℕ) (es : List Edge) (vertices : List Vertex) : Type 0 where
  pub numbers : List ℕ
  pub vertices_are : vertices ≡ map (vertex_at facets) numbers
  pub is_order : IsOrder count es numbers

-- vertices in a circle: those of a circle of numbers
pub record AreCircle (facets count : ℕ) (es : List Edge) (vertices : List Vertex) : Type 0 where
  pub numbers : List ℕ
  pub vertices_are : vertices ≡ map (vertex_at facets) numbers
  pub is_circle : IsCircle count es numbers
