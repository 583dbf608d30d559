use Rattle.std.proofs.Common.{sym, arith, rules}
use Rattle.values.proofs.numbered.find.Goals as goal

pub returns-then-has_number : goal.returns-then-has_number
returns-then-has_number g c = record {
  inside = omega arith;
  found = c.index-list-place.result;
  at_place = sym c.index-list-place.is;
  number = search rules;
}
