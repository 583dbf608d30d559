-- Worked examples of circles.
use Rattle.std.proofs.Common.{◌≡◌, [], ◌∷◌, Some, None, refl}
use Rattle.dep_graph.specs.Order.{edge}
use Rattle.resolution.specs.Circles.{circle_of}

-- 0 depends on 1, 1 on 2 and 2 on 1: the walk begins at 0, and the circle at 1
two : circle_of 3 (edge 0 1 ∷ edge 1 2 ∷ edge 2 1 ∷ []) ≡ Some (1 ∷ 2 ∷ [])
unfolding circle_of
two = refl

-- a vertex that depends on itself
self : circle_of 1 (edge 0 0 ∷ []) ≡ Some (0 ∷ [])
unfolding circle_of
self = refl

-- of two circles that of the least vertex, and of two dependencies that can't be ordered the least
least : circle_of 4 (edge 3 3 ∷ edge 2 3 ∷ edge 2 1 ∷ edge 1 0 ∷ edge 1 2 ∷ []) ≡ Some (1 ∷ 2 ∷ [])
unfolding circle_of
least = refl

-- no circle
none : circle_of 3 (edge 0 1 ∷ edge 0 2 ∷ edge 1 2 ∷ []) ≡ None
unfolding circle_of
none = refl
