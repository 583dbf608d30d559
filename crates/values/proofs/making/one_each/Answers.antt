use Rattle.std.proofs.Common.{ℕ, ◌+◌, [], ◌∷◌, Ok, subst, arith, length-append}
use Rattle.std.proofs.lemmas.List.Elements.{All-push}
use Rattle.transaction.specs.Numbers.{IsNumber}
use Rattle.values.proofs.making.one_each.Goals as goal

pub loop-below-preserved : goal.loop-below-preserved
loop-below-preserved g c =
    let number : ℕ = c.loop-below.below + 1 in
    rw c.in_ok-push.ensures.items (
      omega (arith, c.loop-below.invariant.0, length-append c.loop-below.rules.items (c.in_ok-rule.rule ∷ [])),
      All-push (λ rule. (n : ℕ) × (IsNumber c.args.count n × g.F.Fn.post c.args.make (n, tt) (Ok rule))) c.loop-below.rules.items c.in_ok-rule.rule c.loop-below.invariant.1
          (number, (record { low = omega arith; high = omega arith }, subst (λ r. g.F.Fn.post c.args.make (number, tt) r) c.in_ok-rule.was c.make.ensures)),
    )
