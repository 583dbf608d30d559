use Rattle.std.proofs.Common.{List, length, subst, ap, ◌∙◌}
use Rattle.std.specs.Prelude.{◌==◌}
use Rattle.history.specs.declared.item.Item.{Item}
use Rattle.history.specs.PrivateMoved.{PutsMoved}
use Rattle.history.proofs.Moved.{stays-none, stays-some}
use Rattle.history.proofs.moving.items_over.Goals as goal

pub returns-in-None-clause-stays : goal.returns-in-None-clause-stays
returns-in-None-clause-stays c =
    stays-none c.args.over.now c.in_ok-try_copy.field-0 c.item.result.now c.in-Some.newest.now c.args.items.now c.in-Some.others c.in_ok-all.all.items c.push_moved.new.items.items
    c.in_ok-try_copy.ensures.ok c.item.ensures c.in-Some.ensures c.in_ok-all.ensures.items
    (subst (PutsMoved c.in_ok-try_copy.field-0 c.item.result.now c.in_ok-all.all.items c.push_moved.new.items.items) c.in-None.is c.in_ok-push_moved.ensures)

pub returns-in_ok-with_all-in-Some-2-clause-stays : goal.returns-in_ok-with_all-in-Some-2-clause-stays
returns-in_ok-with_all-in-Some-2-clause-stays c =
    stays-some c.args.over.now c.in_ok-try_copy.field-0 c.item.result.now c.in-Some.newest.now c.args.items.now c.in-Some.others c.in_ok-all.all.items c.push_moved.new.items.items
    c.in_ok-try_copy.ensures.ok c.item.ensures c.in-Some.ensures c.in_ok-all.ensures.items c.in-Some-2.after c.is_empty-newest_stays.result
    (subst (PutsMoved c.in_ok-try_copy.field-0 c.item.result.now c.in_ok-all.all.items c.push_moved.new.items.items) c.in-Some-2.is c.in_ok-push_moved.ensures)
    (c.is_empty-newest_stays.ensures ∙ ap (λ (xs : List Item). length xs == 0) c.as_slice.ensures.value)
