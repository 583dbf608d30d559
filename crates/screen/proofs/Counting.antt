-- How many rows show a block, by their numbers.
use Rattle.std.proofs.Common.{◌≡◌, ℕ, zero, suc, ◌+◌, ◌-◌, max, min, List, [], ◌∷◌, length, if◌then◌else◌, arith}
use Rattle.std.specs.Prelude.{is_some, slice_get}
use Rattle.blocks.specs.Hiding.{blocks_of}
use Rattle.screen.specs.Screen.{ViewView, block_at, shown_from}

one_shown : {X : Type 0} (xs : List X) (i : ℕ) → (if is_some (slice_get xs i) then 1 else 0) ≡ min 1 (length xs - i)
one_shown [] i = omega arith
one_shown (x ∷ xs) zero = omega arith
one_shown (x ∷ xs) (suc i) = omega (arith, one_shown xs i)

-- the row of one number
block_shown : (v : ViewView) (number : ℕ) → (if is_some (block_at v number) then 1 else 0) ≡ min (number + 1) (length (blocks_of v.text v.layers) + 1) - max number 1
block_shown v zero = omega arith
block_shown v (suc n) = omega (arith, one_shown (blocks_of v.text v.layers) n)

-- rows from a number on: those whose number is that of a block
pub count_shown : (v : ViewView) (number n : ℕ) → shown_from v number n ≡ min (number + n) (length (blocks_of v.text v.layers) + 1) - max number 1
unfolding shown_from
count_shown v number zero = omega arith
count_shown v number (suc n) = omega (arith, block_shown v number, count_shown v (number + 1) n)
