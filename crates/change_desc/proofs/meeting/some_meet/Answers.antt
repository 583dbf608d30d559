use Rattle.std.proofs.Common.{◌+◌, ◌∷◌, get_or, drop, subst, sym, ap, ◌∙◌, arith}
use Rattle.std.proofs.lemmas.List.{drop_more}
use Rattle.change_desc.specs.declared.changed_range.ChangedRange.{ChangedRange}
use Rattle.change_desc.specs.Meeting.{BeginAfter, some_meet}
use Rattle.change_desc.proofs.RangesMet.{begin_less, pass_one}
use Rattle.change_desc.proofs.meeting.some_meet.Goals as goal

pub loop-range-preserved : goal.loop-range-preserved
loop-range-preserved c =
    let s = c.args.ranges.now in
    let i = c.loop-range.range-index in
    let d : ChangedRange = record { from_a = 0; to_a = 0; from_b = 0; to_b = 0 } in
    let q = get_or s i d in
    let qs = drop (i + 1) s in
    let e = drop_more s i d c.loop-range-test.true in
    let h = subst (BeginAfter 0) e c.loop-range.invariant.order in
    record {
      goes = pass_one q qs c.ranges_from-rest.result.now c.loop-range.rest.now h c.ranges_from-rest.ensures.same (sym c.first_meets.ensures ∙ c.if-first_meets.false)
          ∙ (ap (λ x. some_meet x c.loop-range.rest.now) (sym e) ∙ c.loop-range.invariant.goes);
      order = begin_less 0 q.from_a qs (omega arith) h.1;
      left = c.ranges_from-rest.ensures.order;
    }
