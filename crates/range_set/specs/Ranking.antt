-- The order of ranges is a strict weak order, as a stable sort asks.
use Rattle.std.proofs.Common.{◌≡◌, ℕ, Bool, true, false, ◌&&◌, ◌||◌, ℤ, arith}
use Rattle.std.specs.Prelude.{nat_lt, ◌==◌, int_lt}
use Rattle.std.proofs.lemmas.Bool.Decides.{nat_tests}
use Rattle.std.proofs.lemmas.Int.{ints}
use Rattle.std.specs.Cmp.{IsStrictWeakOrder}
use Rattle.range_set.specs.Rules.{RangeRules}
use Rattle.range_set.specs.Order.{before}

abbrev less : ℕ → ℤ → ℕ → ℤ → Bool
less a s b t = nat_lt a b || (a == b && int_lt s t)

before-one_way : (a b : ℕ) (s t : ℤ) → less a s b t ≡ true → less b t a s ≡ false
before-one_way a b s t h = grind (arith, ints, nat_tests)

before-chain : (a b c : ℕ) (s t u : ℤ) → less a s b t ≡ false → less b t c u ≡ false → less a s c u ≡ false
before-chain a b c s t u h k = grind (arith, ints, nat_tests)

pub before-order : {T : Type 0} (rules : RangeRules T) → IsStrictWeakOrder (before rules)
before-order rules = record {
  one_way = λ x y e. before-one_way x.from y.from (rules.start_side x.value) (rules.start_side y.value) e;
  chain = λ x y z e h. before-chain x.from y.from z.from (rules.start_side x.value) (rules.start_side y.value) (rules.start_side z.value) e h;
}
