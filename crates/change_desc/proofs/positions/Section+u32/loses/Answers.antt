use Rattle.std.proofs.Common.{arith, inl, inr, sym}
use Rattle.change_desc.proofs.Moves.{keeps_kept, leaves_keep, loses_in, leaves_replace, loss_at_end}
use Rattle.change_desc.proofs.positions.Section+u32.loses.Goals as goal
use Rattle.change_desc.proofs.positions.Section+u32.loses.Goals.{else-pos-count-3-via-then-pos-count-3+else-pos-gt0, else-pos-count-3-via-else-pos-count-3}

pub returns-then-pos-count : goal.returns-then-pos-count
returns-then-pos-count c = keeps_kept _ _ _ _ c.in-Keep.is c.if-pos-count.true

pub returns-else-pos-count : goal.returns-else-pos-count
returns-else-pos-count c = leaves_keep _ _ _ _ c.in-Keep.is c.if-pos-count.false

pub returns-then-pos-count-2 : goal.returns-then-pos-count-2
returns-then-pos-count-2 c = loses_in _ _ _ _ _ _ c.in-Replace.is c.if-pos-count-2.true (sym c.loses_inside.ensures)

pub returns-then-pos-gt0 : goal.returns-then-pos-gt0
returns-then-pos-gt0 c = loss_at_end _ _ _ _ _ _ c.loses_at_end.ensures c.in-Replace.is c.if-pos-count-3.true c.if-pos-gt0.true

pub returns-else-pos-count-3 : goal.returns-else-pos-count-3
returns-else-pos-count-3 c =
    leaves_replace _ _ _ _ _ c.in-Replace.is c.if-pos-count-2.false
    (λ e. elim c.else-pos-count-3.branch [
      | else-pos-count-3-via-then-pos-count-3+else-pos-gt0 w ↦ inr (omega arith)
      | else-pos-count-3-via-else-pos-count-3 w ↦ inl (omega arith)
    ])
