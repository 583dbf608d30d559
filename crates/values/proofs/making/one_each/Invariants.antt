use Rattle.std.proofs.Common.{◌≡◌, ℕ, All, Ok, length}
use Rattle.transaction.specs.Numbers.{IsNumber}
use Rattle.values.proofs.making.one_each.Given as goal

abbrev pub invariant-loop-below : goal.invariant-loop-below
invariant-loop-below g l = (length l.rules.items ≡ l.below) × All (λ rule. (n : ℕ) × (IsNumber l.count n × g.F.Fn.post l.make (n, tt) (Ok rule))) l.rules.items
