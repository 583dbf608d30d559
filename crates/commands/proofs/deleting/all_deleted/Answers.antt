use Rattle.commands.proofs.Inside.{high_within}
use Rattle.commands.proofs.deleting.all_deleted.Goals as goal

pub deleted-requires : goal.deleted-requires
deleted-requires c = high_within _ c.args.ranges.now c.loop-range.range-index _ c.requires c.loop-range-test.true
