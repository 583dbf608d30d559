use Rattle.std.proofs.Common.{◌+◌, drop, arith}
use Rattle.change_set.proofs.Walks.{next_section}
use Rattle.change_set.proofs.FilterLens.{len_fits, len_whole}
use Rattle.change_set.proofs.filter_len.half_len.Goals as goal

pub overflow_add-sum : goal.overflow_add-sum
overflow_add-sum c =
    let s = c.args.sections.now in
    let i = c.loop-section.section-index in
    let x = c.section-item.result in
    omega (
      arith,
      len_fits c.args.half c.args.ranges.now c.args.len s (drop (i + 1) s) x i c.loop-section.at c.loop-section.sum c.section_len-reached.result.1 c.requires.is_set
          (next_section s i x c.loop-section-test.true c.section-item.is) c.loop-section.invariant.sum c.section_len-reached.ensures.sum,
    )

pub returns : goal.returns
returns c =
    len_whole c.args.half c.args.ranges.now c.args.len c.args.sections.now c.loop-section.section-index c.loop-section.at c.loop-section.sum c.loop-section-test.false c.loop-section.invariant.sum
