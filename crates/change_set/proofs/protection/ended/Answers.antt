use Rattle.std.proofs.Common.{get_or}
use Rattle.std.proofs.lemmas.List.{drop_more}
use Rattle.change_set.proofs.Runs.{ended-more}
use Rattle.change_set.proofs.protection.ended.Goals as goal

pub ended-preserved : goal.ended-preserved
ended-preserved c =
    ended-more c.args.ranges.now c.ended.count c.args.pos (get_or c.args.ranges.now c.ended.count (0, 0)) c.ended.invariant c.ended-test.true
    (drop_more c.args.ranges.now c.ended.count (0, 0) c.ended-test.true) c.if-ranges-count.true
