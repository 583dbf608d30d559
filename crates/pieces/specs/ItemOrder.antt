-- The order of items is a strict weak order, as a stable sort asks.
use Rattle.std.proofs.Common.{◌≡◌, ℕ, Bool, true, false, ◌&&◌, ◌||◌, ℤ, arith}
use Rattle.std.specs.Prelude.{nat_lt, ◌==◌, int_lt}
use Rattle.std.proofs.lemmas.Bool.Decides.{nat_tests}
use Rattle.std.proofs.lemmas.Int.{ints}
use Rattle.std.specs.Cmp.{IsStrictWeakOrder}
use Rattle.pieces.specs.Items.{item_before, rank}

abbrev first : ℕ → ℤ → ℕ → ℤ → Bool
first a s b t = nat_lt a b || (a == b && int_lt s t)

one_way : (a b : ℕ) (s t : ℤ) → first a s b t ≡ true → first b t a s ≡ false
one_way a b s t h = grind (arith, ints, nat_tests)

chain : (a b c : ℕ) (s t u : ℤ) → first a s b t ≡ false → first b t c u ≡ false → first a s c u ≡ false
chain a b c s t u h k = grind (arith, ints, nat_tests)

pub item_before-order : IsStrictWeakOrder item_before
item_before-order = record {
  one_way = λ x y e. one_way x.place y.place (rank x.side) (rank y.side) e;
  chain = λ x y z e h. chain x.place y.place z.place (rank x.side) (rank y.side) (rank z.side) e h;
}
