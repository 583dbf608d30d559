-- How many rows a screen lays out anew: worked cases of three rows.
use Rattle.std.proofs.Common.{◌≡◌, ℕ, zero, suc, ◌+◌, ◌≤◌, Bool, true, false, List, [], ◌∷◌, length, Option, Some, None, refl, ap, arith, if◌then◌else◌}
use Rattle.std.proofs.lemmas.Bool.{and_from, eq-eqb}
use Rattle.pieces.specs.SamePieces.{same_pieces}
use Rattle.pieces.proofs.SameText.{pieces_same}
use Rattle.screen.specs.Screen.{RowKey, ViewView, changed, cost, rows_from, same_key}

same_key-own : (a : RowKey) → same_key a a ≡ true
same_key-own a =
    and_from _ _ (and_from _ _ (and_from _ _ (eq-eqb a.tab a.tab refl) (eq-eqb a.cols a.cols refl)) (eq-eqb a.left a.left refl))
    ((pieces_same a.pieces a.pieces (same_pieces a.pieces a.pieces) refl).1 refl)

cost_own : (a : RowKey) → cost (Some a) a ≡ 0
cost_own a = rw (same_key-own a) refl

cost_most : (old : Option RowKey) (new : RowKey) → cost old new ≤ 1
cost_most None new = omega arith
cost_most (Some old) new = by (same_key old new) where
  by : (b : Bool) → (if b then 0 else 1) ≤ 1
  by true = omega arith
  by false = omega arith

-- at most all rows
changed_most : (olds news : List RowKey) → changed olds news ≤ length news
unfolding changed
changed_most [] [] = omega arith
changed_most (o ∷ olds) [] = omega arith
changed_most [] (n ∷ news) = omega (arith, cost_most None n, changed_most [] news)
changed_most (o ∷ olds) (n ∷ news) = omega (arith, cost_most (Some o) n, changed_most olds news)

length-rows : (v : ViewView) (number n : ℕ) → length (rows_from v number n) ≡ n
unfolding rows_from
length-rows v number zero = refl
length-rows v number (suc n) = ap suc (length-rows v (number + 1) n)

-- a draw lays out at most the rows of the window
pub changed_rows : (olds : List RowKey) (v : ViewView) (number n : ℕ) → changed olds (rows_from v number n) ≤ n
changed_rows olds v number n = omega (arith, changed_most olds (rows_from v number n), length-rows v number n)

-- the first draw of three rows
first_draw : (a b c : RowKey) → changed [] (a ∷ b ∷ c ∷ []) ≡ 3
unfolding changed
first_draw a b c = refl

-- the same rows again, as after a cursor that moved
nothing_changed : (a b c : RowKey) → changed (a ∷ b ∷ c ∷ []) (a ∷ b ∷ c ∷ []) ≡ 0
unfolding changed
nothing_changed a b c = omega (arith, cost_own a, cost_own b, cost_own c)

-- another second row, as after a change of its line
second_changed : (a b c other : RowKey) → changed (a ∷ b ∷ c ∷ []) (a ∷ other ∷ c ∷ []) ≤ 1
unfolding changed
second_changed a b c other = omega (arith, cost_own a, cost_most (Some b) other, cost_own c)

-- another third row, as after a mark on its character
third_changed : (a b c other : RowKey) → changed (a ∷ b ∷ c ∷ []) (a ∷ b ∷ other ∷ []) ≤ 1
unfolding changed
third_changed a b c other = omega (arith, cost_own a, cost_own b, cost_most (Some c) other)
