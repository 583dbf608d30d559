-- The place at which a test passes is one of the list.
use Rattle.std.proofs.Common.{◌≡◌, ℕ, ◌+◌, ◌<◌, Bool, true, false, cond, List, [], ◌∷◌, length, Option, Some, None, IfSome, subst, arith}
use Rattle.std.specs.List.{position_from}

found : {X : Type 0} (t : X → Bool) (i : ℕ) (xs : List X) → IfSome (position_from t i xs) (λ place. place < i + length xs)
found t i [] = tt
found t i (x ∷ xs) = at (t x) (found t (i + 1) xs) where
  later : (o : Option ℕ) → IfSome o (λ place. place < (i + 1) + length xs) → IfSome o (λ place. place < i + length (x ∷ xs))
  later None h = tt
  later (Some place) h = omega arith

  at : (b : Bool) → IfSome (position_from t (i + 1) xs) (λ place. place < (i + 1) + length xs) → IfSome (cond b (Some i) (position_from t (i + 1) xs)) (λ place. place < i + length (x ∷ xs))
  at true h = omega arith
  at false h = later (position_from t (i + 1) xs) h

pub place_within : {X : Type 0} (t : X → Bool) (xs : List X) → IfSome (position_from t 0 xs) (λ place. place < length xs)
place_within t xs =
    let same : 0 + length xs ≡ length xs = omega arith in
    subst (λ n. IfSome (position_from t 0 xs) (λ place. place < n)) same (found t 0 xs)
