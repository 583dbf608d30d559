use Rattle.std.proofs.Common.{◌∙◌}
use Rattle.std.proofs.lemmas.List.{take_all}
use Rattle.change_set.proofs.Runs.{sorted}
use Rattle.change_set.proofs.protection.sorted.Goals as goal

pub returns : goal.returns
returns c =
    sorted c.args.given.now c.loop-range.ranges.items c.sort_stably.new.items.items (c.loop-range.invariant ∙ take_all c.loop-range.range-index c.args.given.now c.loop-range-test.false) c.in_ok-sort_stably.ensures.ok
