use Rattle.std.specs.Prelude.{ℕ, List, Option}
use Rattle.configuration.specs.declared.vertex.Vertex.{Vertex}

-- configuration: the base, the flat order, each facet's inputs, each field's node, an order of facets and fields, and the
-- set contents (System Guide, Configuration)
pub record ConfigView : Type 0 where
  pub base : List ℕ
  pub flat : List ℕ
  pub inputs : List (List ℕ)
  pub fields : List (Option ℕ)
  pub order : List Vertex
  pub contents : List (ℕ × ℕ)
