use Rattle.std.proofs.Common.{[]}
use Rattle.change_set.specs.Protection.{half_from, taking}
use Rattle.change_set.proofs.FilterWalk.{all_done}
use Rattle.change_set.proofs.filter.filtered.Goals as goal

pub returns : goal.returns
returns c =
    let half = c.args.half in
    let rs = c.args.ranges.now in
    let len = c.args.len in
    all_done half rs len c.loop-section.at c.loop-section.done.items (half_from (taking half rs len) [] 0 c.args.sections.now) c.args.sections.now c.loop-section.section-index c.loop-section-test.false
    c.loop-section.invariant.is_normal c.loop-section.invariant.rest
