use Rattle.std.proofs.Common.{◌∙◌, arith}
use Rattle.std.proofs.lemmas.List.{drop_all}
use Rattle.blocks.specs.Hiding.{set_hides}
use Rattle.blocks.proofs.Merging.{any_step, any_end, drop_item}
use Rattle.blocks.proofs.collecting.line_ranges.Goals as goal

pub loop-set-preserved : goal.loop-set-preserved
loop-set-preserved c = record {
  within = c.in_ok-push_set.ensures.within ∙ c.loop-set.invariant.within;
  breaks = λ line is more. any_step (set_hides line.to) _ _ _ _ _ _ (drop_item c.args.sets.now c.loop-set.set-index c.set-item.result (omega arith) c.set-item.is) (c.in_ok-push_set.ensures.breaks line is more) (c.loop-set.invariant.breaks line is more);
}

pub returns-clause-breaks : goal.returns-clause-breaks
returns-clause-breaks c = λ line is more. any_end (set_hides line.to) _ _ _ (drop_all c.loop-set.set-index c.args.sets.now (omega arith)) (c.loop-set.invariant.breaks line is more)
