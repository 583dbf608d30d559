use Rattle.std.proofs.Common.{arith, length, ◌<◌}
use Rattle.std.proofs.lemmas.List.{drop_more, drop_all}
use Rattle.pieces.proofs.Covering.{style_step, style_end}
use Rattle.pieces.proofs.style_range.style_at.Goals as goal

pub loop-range-preserved : goal.loop-range-preserved
loop-range-preserved c =
    let inside : c.loop-range.range-index < length c.args.ranges.now = omega arith in
    style_step c.args.line _ _ _ c.args.ranges.now c.args.place _ _ (drop_more c.args.ranges.now c.loop-range.range-index _ inside) c.styled-style.ensures
    c.loop-range.invariant

pub returns : goal.returns
returns c = style_end c.args.line _ c.args.ranges.now c.args.place _ (drop_all c.loop-range.range-index c.args.ranges.now (omega arith)) c.loop-range.invariant
