use Rattle.std.proofs.Common.{filter, ap, subst, sym, refl, ◌∙◌}
use Rattle.range_set.specs.PrivateChunks.{Ascend}
use Rattle.range_set.specs.Seen.{seen}
use Rattle.range_set.specs.Updating.{overlaps}
use Rattle.range_set.proofs.Passing.{ascend_after, drop_before, none_from}
use Rattle.range_set.proofs.between.BetweenIterator.next.Goals as goal

pub returns-then-self-range-clause-steps : goal.returns-then-self-range-clause-steps
returns-then-self-range-clause-steps g c =
    let from = c.loop-range.self-inside.from in
    let to = c.loop-range.self-inside.to in
    let order = subst (Ascend 0) c.in_ok-range.ensures.steps (c.pass_chunks.ensures.order 0 c.loop-range.invariant.order) in
    let none = none_from from to (seen c.in_ok-range.range) c.next.new.self c.if-self-range.true order in
    let same = c.loop-range.invariant.same in
    (sym c.self.view_is ∙ (sym same ∙ (sym (c.pass_chunks.ensures.kept to) ∙ (ap (filter (overlaps from to)) c.in_ok-range.ensures.steps ∙ none))), rw c.over-self-inside.ensures (rw c.over.ensures refl))

pub invariant_of-self-then-self-range-2 : goal.invariant_of-self-then-self-range-2
invariant_of-self-then-self-range-2 g c =
    ascend_after (seen c.in_ok-range.range) c.next.new.self (subst (Ascend 0) c.in_ok-range.ensures.steps (c.pass_chunks.ensures.order 0 c.loop-range.invariant.order))

pub loop-range-preserved : goal.loop-range-preserved
loop-range-preserved g c =
    let from = c.loop-range.self-inside.from in
    let to = c.loop-range.self-inside.to in
    record {
      same = sym (drop_before from to (seen c.in_ok-range.range) c.next.new.self c.if-self-range-2.false)
          ∙ (ap (filter (overlaps from to)) (sym c.in_ok-range.ensures.steps) ∙ (c.pass_chunks.ensures.kept to ∙ c.loop-range.invariant.same));
      order = ascend_after (seen c.in_ok-range.range) c.next.new.self (subst (Ascend 0) c.in_ok-range.ensures.steps (c.pass_chunks.ensures.order 0 c.loop-range.invariant.order));
    }
