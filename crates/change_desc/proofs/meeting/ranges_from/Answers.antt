use Rattle.std.proofs.Common.{ap, subst, sym, ◌∙◌, arith}
use Rattle.std.specs.List.{list_any}
use Rattle.change_desc.specs.Meeting.{BeginAfter}
use Rattle.change_desc.specs.Ranges.{meets}
use Rattle.change_desc.proofs.RangesMet.{begin_less, skip_one}
use Rattle.change_desc.proofs.meeting.ranges_from.Goals as goal

pub loop-first-preserved : goal.loop-first-preserved
loop-first-preserved c =
    let first = c.in-Some.first.now in
    let others = c.in-Some.others.now in
    record {
      same = λ a b l. skip_one c.args.place a b first others c.if-place-first.false l ∙ (ap (list_any (meets a b)) (sym c.in-Some.ensures.cases.0) ∙ c.loop-first.invariant.same a b l);
      order = begin_less 0 first.from_a others (omega arith) (subst (BeginAfter 0) c.in-Some.ensures.cases.0 c.loop-first.invariant.order).1;
    }
