use Rattle.std.proofs.Common.{refl, arith}
use Rattle.blocks.proofs.Merging.{grow_last, last_is, push_last}
use Rattle.blocks.proofs.joins.push_range.Goals as goal

pub overflow_add-next : goal.overflow_add-next
overflow_add-next c =
    let low = (last_is c.args.lines 0 0 c.args.joins.now.items c.args.last.now c.requires.order (omega arith)).0 in
    omega (arith, low, c.if-range-last.false)

pub returns-then-range-last-clause-order : goal.returns-then-range-last-clause-order
returns-then-range-last-clause-order c =
    let within = (last_is c.args.lines 0 0 c.args.joins.now.items c.args.last.now c.requires.order (omega arith)).1 in
    grow_last c.args.lines 0 0 c.args.joins.now.items c.args.last.now _ c.requires.order refl refl (omega (arith, c.max-last.ensures)) (omega (arith, c.max-last.ensures, within, c.requires.within))

pub returns-in_ok-push-clause-order : goal.returns-in_ok-push-clause-order
returns-in_ok-push-clause-order c =
    let pushed =
    push_last c.args.lines 0 0 c.args.joins.now.items c.args.last.now _ c.requires.order
    (record { later = omega (arith, c.if-range-last.false); numbered = omega (arith, c.if-range-last.false); some = c.requires.some; within = c.requires.within }) in
    rw c.in_ok-push.ensures.items pushed
