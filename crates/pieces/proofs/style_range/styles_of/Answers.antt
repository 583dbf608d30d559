use Rattle.std.proofs.Common.{arith, length, ◌+◌, ◌<◌, ◌∙◌}
use Rattle.std.proofs.lemmas.List.{drop_more, drop_all, get_or_default}
use Rattle.pieces.specs.Styles.{plain}
use Rattle.pieces.proofs.Covering.{style_step, style_end}
use Rattle.pieces.proofs.style_range.styles_of.Goals as goal

pub loop-range-preserved : goal.loop-range-preserved
loop-range-preserved c =
    let inside : c.loop-range.range-index < length c.args.ranges.now = omega arith in
    record {
      len = c.apply.ensures.len ∙ c.loop-range.invariant.len;
      style = λ p below.
          style_step c.args.line _ _ _ c.args.ranges.now (c.args.at + p) _ _ (drop_more c.args.ranges.now c.loop-range.range-index _ inside)
          (c.apply.ensures.value p (omega (arith, c.loop-range.invariant.len))) (c.loop-range.invariant.style p below);
    }

pub returns : goal.returns
returns c = λ p d inside.
    get_or_default c.loop-range.styles.items p d plain inside
    ∙ style_end c.args.line _ c.args.ranges.now (c.args.at + p) _ (drop_all c.loop-range.range-index c.args.ranges.now (omega arith)) (c.loop-range.invariant.style p (omega (arith, inside, c.loop-range.invariant.len)))
