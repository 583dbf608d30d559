use Rattle.std.proofs.Common.{arith, inl, inr}
use Rattle.std.proofs.lemmas.Bool.Decides.{nat_tests}
use Rattle.change_desc.proofs.Moves.{stops_keep, on_keep, stops_left, stops_start, stops_right, on_replace}
use Rattle.change_desc.proofs.positions.Section+u32.stop.Goals as goal
use Rattle.change_desc.proofs.positions.Section+u32.stop.Goals.{then-negative, else-negative}

pub returns-then-pos-count : goal.returns-then-pos-count
returns-then-pos-count c = stops_keep _ _ _ _ c.in-Keep.is c.if-pos-count.true

pub returns-else-pos-count : goal.returns-else-pos-count
returns-else-pos-count c = on_keep _ _ _ _ c.in-Keep.is c.if-pos-count.false

pub returns-then-count-gt0 : goal.returns-then-count-gt0
returns-then-count-gt0 c =
    elim c.if-negative.branch [
      | then-negative w ↦ stops_left _ _ _ _ _ c.in-Replace.is w.if-negative.true (inr c.if-pos-eq0.true)
      | else-negative w ↦ stops_start _ _ _ _ _ c.in-Replace.is c.if-pos-eq0.true (grind (arith, nat_tests))
    ]

pub returns-else-count-gt0 : goal.returns-else-count-gt0
returns-else-count-gt0 c =
    elim c.if-negative.branch [
      | then-negative w ↦ absurd (cc)
      | else-negative w ↦ on_replace _ _ _ _ _ c.in-Replace.is (grind (arith, nat_tests)) (λ e. absurd (cc))
    ]

pub returns-then-negative-2 : goal.returns-then-negative-2
returns-then-negative-2 c = stops_left _ _ _ _ _ c.in-Replace.is c.if-negative-2.true (inl c.if-pos-count-2.true)

pub returns-else-negative-2 : goal.returns-else-negative-2
returns-else-negative-2 c = stops_right _ _ _ _ _ c.in-Replace.is c.if-negative-2.false (omega arith) c.if-pos-count-2.true

pub returns-else-pos-count-2 : goal.returns-else-pos-count-2
returns-else-pos-count-2 c = on_replace _ _ _ _ _ c.in-Replace.is c.if-pos-count-2.false (λ e. omega arith)
