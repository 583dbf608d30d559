-- The order of ranges by where they begin.
use Rattle.std.proofs.Common.{◌≡◌, ℕ, true, false, ltb, arith}
use Rattle.std.proofs.lemmas.Bool.Decides.{nat_tests}
use Rattle.std.specs.Cmp.{IsStrictWeakOrder}
use Rattle.selection.specs.Ranges.{low}
use Rattle.selection.specs.Selections.{begins_before}

one_way : (a b : ℕ) → ltb a b ≡ true → ltb b a ≡ false
one_way a b h = grind (arith, nat_tests)

chain : (a b c : ℕ) → ltb a b ≡ false → ltb b c ≡ false → ltb a c ≡ false
chain a b c h k = grind (arith, nat_tests)

pub begins_before-order : IsStrictWeakOrder begins_before
begins_before-order = record {
  one_way = λ x y e. one_way (low x.range) (low y.range) e;
  chain = λ x y z e h. chain (low x.range) (low y.range) (low z.range) e h;
}
