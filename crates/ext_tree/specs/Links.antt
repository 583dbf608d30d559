use Rattle.std.specs.Prelude.{ℕ, List}

-- link lists: for each facet the nodes that it enables, for each field the nodes that it provides
pub record LinkLists : Type 0 where
  pub enabled : List (List ℕ)
  pub provided : List (List ℕ)
