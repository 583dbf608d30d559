use Rattle.std.proofs.Common.{◌≡◌, ◌||◌, false, Bool, true, refl, arith}
use Rattle.std.specs.List.{list_any}
use Rattle.std.proofs.lemmas.List.{drop_all, drop_more}
use Rattle.blocks.specs.Joins.{covers}
use Rattle.blocks.proofs.Merging.{any_end, any_step, lower, next_range}
use Rattle.blocks.proofs.joins.joined_from.Goals as goal

or_false : (a b : Bool) → ((a || false) || b) ≡ (a || b)
or_false true b = refl
or_false false b = refl

pub loop-range-init : goal.loop-range-init
loop-range-init c = record {
  order = rw c.new-joins.ensures.items (record { later = c.requires.first; numbered = omega arith; some = c.requires.some; within = c.requires.within }, tt);
  rest = c.requires.rest;
  same = λ n. rw c.new-joins.ensures.items (or_false (covers n c.args.start) (list_any (covers n) c.args.rest.now));
}

pub push_range-requires-clause-order : goal.push_range-requires-clause-order
push_range-requires-clause-order c = c.loop-range.invariant.order

pub push_range-requires-clause-first : goal.push_range-requires-clause-first
push_range-requires-clause-first c =
    (next_range c.args.lines c.loop-range.last.first _ _ _ (drop_more c.args.rest.now c.loop-range.range-index (record { first = 0; last = 0 }) c.loop-range-test.true) c.loop-range.invariant.rest).0

pub push_range-requires-clause-some : goal.push_range-requires-clause-some
push_range-requires-clause-some c =
    (next_range c.args.lines c.loop-range.last.first _ _ _ (drop_more c.args.rest.now c.loop-range.range-index (record { first = 0; last = 0 }) c.loop-range-test.true) c.loop-range.invariant.rest).1

pub push_range-requires-clause-within : goal.push_range-requires-clause-within
push_range-requires-clause-within c =
    (next_range c.args.lines c.loop-range.last.first _ _ _ (drop_more c.args.rest.now c.loop-range.range-index (record { first = 0; last = 0 }) c.loop-range-test.true) c.loop-range.invariant.rest).2

pub loop-range-preserved : goal.loop-range-preserved
loop-range-preserved c =
    let taken = drop_more c.args.rest.now c.loop-range.range-index (record { first = 0; last = 0 }) c.loop-range-test.true in
    let next = next_range c.args.lines c.loop-range.last.first _ _ _ taken c.loop-range.invariant.rest in
    record {
      order = c.in_ok-push_range.ensures.order;
      rest = lower c.args.lines _ _ _ c.in_ok-push_range.ensures.first next.3;
      same = λ n. any_step (covers n) _ _ _ _ _ _ taken (c.in_ok-push_range.ensures.same n) (c.loop-range.invariant.same n);
    }

pub returns-clause-order : goal.returns-clause-order
returns-clause-order c = rw c.in_ok-push.ensures.items c.loop-range.invariant.order

pub returns-clause-same : goal.returns-clause-same
returns-clause-same c = λ n.
    rw c.in_ok-push.ensures.items (any_end (covers n) _ _ _ (drop_all c.loop-range.range-index c.args.rest.now (omega arith)) (c.loop-range.invariant.same n))
