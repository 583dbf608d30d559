-- The stable sort of a list by an order: lesser elements stand first, and elements that rank alike keep their order.
use Rattle.std.specs.Prelude.{Bool, List, [], ◌∷◌, if◌then◌else◌}

module _ {X : Type 0} (lt : X → X → Bool) where
  -- the list with x put before its first element that isn't less than x
  abbrev pub insert_by : X → List X → List X
  insert_by x [] = x ∷ []
  insert_by x (y ∷ ys) = if lt y x then y ∷ insert_by x ys else x ∷ y ∷ ys

  abbrev pub stable_sort : List X → List X
  stable_sort [] = []
  stable_sort (x ∷ xs) = insert_by x (stable_sort xs)
