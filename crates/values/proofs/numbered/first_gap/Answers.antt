use Rattle.std.proofs.Common.{◌≡◌, ◌+◌, arith, ⊎_elim}
use Rattle.std.proofs.lemmas.Bool.{cases_lt}
use Rattle.values.proofs.numbered.first_gap.Goals as goal

pub loop-below-preserved : goal.loop-below-preserved
loop-below-preserved g c = λ m low high. ⊎_elim (λ lt. let e : m ≡ c.loop-below.below + 1 = omega arith in (c.in-Some._place, rw e c.in-Some.ensures)) (λ le. c.loop-below.invariant m low le) (cases_lt c.loop-below.below m)

pub returns-in-None : goal.returns-in-None
returns-in-None g c = record {
  number = record { low = omega arith; high = omega arith };
  missing = c.in-None.ensures;
  least = λ m is lt. c.loop-below.invariant m is.low (omega arith);
}

pub returns : goal.returns
returns g c = record { each = λ n is. c.loop-below.invariant n is.low (omega arith) }
