use Rattle.range_set.proofs.Opened.{open_next}
use Rattle.range_set.proofs.opening.opened.Goals as goal

pub loop-start-preserved : goal.loop-start-preserved
loop-start-preserved g c =
    let next = c.in-Some in
    record {
      opened = open_next g.T.RangeValue.rules c.args.groups c.loop-start.rest c.loop-start.chunks.items c.open.new.chunks.items next.start next.placed.now next.others next.ensures.some c.in_ok-open.ensures.ranges
          c.loop-start.invariant.opened;
      chunks = c.in_ok-open.ensures.chunks;
    }
