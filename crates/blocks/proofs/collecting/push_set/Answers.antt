use Rattle.std.proofs.Common.{◌||◌, refl, ap, ◌∙◌}
use Rattle.std.specs.List.{list_any}
use Rattle.blocks.specs.Joins.{covers}
use Rattle.blocks.specs.Hiding.{hides}
use Rattle.blocks.proofs.Merging.{any_step, any_end}
use Rattle.blocks.proofs.Covered.{hidden_by_points}
use Rattle.blocks.proofs.collecting.push_set.Goals as goal

pub loop-range-init : goal.loop-range-init
loop-range-init c = record {
  within = refl;
  breaks = λ line is more. ap (λ b. list_any (covers line.number) c.args.ranges.now.items || b) (ap (list_any (hides line.to)) (c.into_iter-range-iterator.ensures.into_iter_gives ∙ c.points-range-items.ensures) ∙ hidden_by_points line.to c.args.set.now);
}

pub loop-range-preserved : goal.loop-range-preserved
loop-range-preserved c = record {
  within = c.in_ok-push_range.ensures.within ∙ c.loop-range.invariant.within;
  breaks = λ line is more. any_step (hides line.to) _ _ _ _ _ _ c.in-Some.ensures.steps (c.in_ok-push_range.ensures.breaks line is more) (c.loop-range.invariant.breaks line is more);
}

pub returns-clause-within : goal.returns-clause-within
returns-clause-within c = c.loop-range.invariant.within

pub returns-clause-breaks : goal.returns-clause-breaks
returns-clause-breaks c = λ line is more. any_end (hides line.to) _ _ _ c.in-None.ensures.steps.0 (c.loop-range.invariant.breaks line is more)
