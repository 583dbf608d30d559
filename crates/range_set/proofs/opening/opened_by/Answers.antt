use Rattle.range_set.proofs.Opened.{open_next, open_until}
use Rattle.range_set.proofs.opening.opened_by.Goals as goal

pub returns-then-not-is_joined : goal.returns-then-not-is_joined
returns-then-not-is_joined g c =
    let next = c.in-Some in
    let at = c.loop-start in
    record {
      opened = open_until g.T.RangeValue.rules c.args.place c.args.groups at.rest at.chunks.items next.start next.placed.now next.others next.ensures.some c.if-place-start.true c.requires at.invariant.chunks at.invariant.opened;
    }

pub loop-start-preserved : goal.loop-start-preserved
loop-start-preserved g c =
    let next = c.in-Some in
    record {
      opened = open_next g.T.RangeValue.rules c.args.groups c.loop-start.rest c.loop-start.chunks.items c.open.new.chunks.items next.start next.placed.now next.others next.ensures.some c.in_ok-open.ensures.ranges
          c.loop-start.invariant.opened;
      chunks = c.in_ok-open.ensures.chunks;
    }
