use Rattle.std.proofs.Common.{◌≡◌, refl, ap, ◌∙◌, arith}
use Rattle.pieces.specs.Shading.{block_style}
use Rattle.pieces.proofs.Shades.{block_begin, block_step}
use Rattle.pieces.proofs.shading.block_style.Goals as goal

pub loop-i-init : goal.loop-i-init
loop-i-init c = block_begin c.args.from _ c.sets-sets.result.now _ refl c.plain-style.ensures

pub loop-i-preserved : goal.loop-i-preserved
loop-i-preserved c =
    block_step c.args.from c.loop-i.i c.sets-sets.result.now c.index-sets-i.result _ _ (omega arith) (omega arith) c.index-sets-i.is c.loop-i.invariant c.line_styled-style.ensures

pub returns : goal.returns
returns c =
    let none : c.loop-i.i ≡ 0 = omega arith in
    c.loop-i.invariant ∙ (rw none (ap (block_style c.args.from) c.sets-sets.ensures))
