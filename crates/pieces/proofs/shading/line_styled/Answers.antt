use Rattle.pieces.proofs.Shades.{line_step, line_end}
use Rattle.pieces.proofs.shading.line_styled.Goals as goal

pub loop-range-preserved : goal.loop-range-preserved
loop-range-preserved c = line_step c.args.from c.loop-range.style _ _ _ _ _ c.in-Some.ensures.steps c.line_over-style.ensures c.loop-range.invariant

pub returns : goal.returns
returns c = line_end c.args.from c.loop-range.style _ _ c.in-None.ensures.steps.0 c.loop-range.invariant
