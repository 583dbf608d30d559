use Rattle.commands.proofs.Inside.{high_within}
use Rattle.commands.proofs.moving.all_moved.Goals as goal

pub moved_range-requires : goal.moved_range-requires
moved_range-requires c = high_within _ c.args.ranges.now c.loop-range.range-index _ c.requires c.loop-range-test.true
