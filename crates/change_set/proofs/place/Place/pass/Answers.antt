use Rattle.std.proofs.Common.{◌∙◌, arith}
use Rattle.change_set.proofs.Places.{StepOn, step_on}
use Rattle.change_set.proofs.place.Place.pass.Goals as goal

pub walk-preserved : goal.walk-preserved
walk-preserved c =
    let i = c.walk.invariant in
    let h : StepOn c.args.sections.now c.walk.place c.beyond-place.result c.walk.rest c.min-step.result c.kept_count-kept.result =
    step_on c.args.sections.now c.walk.place c.beyond-place.result c.walk.rest c.min-step.result c.kept_count-kept.result c.old_len.result c.walk-test.true i.is_place i.within
    c.old_len.ensures c.min-step.ensures c.kept_count-kept.ensures c.beyond-place.ensures.inside c.beyond-place.ensures.after in
    record {
      is_place = h.is_place;
      within = h.within;
      left = h.left ∙ i.left;
      kept = omega (arith, h.kept, i.kept);
      most = omega (arith, h.few, i.most, c.min-step.ensures);
    }
