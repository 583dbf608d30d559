use Rattle.std.proofs.Common.{refl, arith}
use Rattle.pieces.proofs.Shades.{marks_begin, marks_step}
use Rattle.pieces.proofs.shading.marks_of.Goals as goal

pub loop-i-init : goal.loop-i-init
loop-i-init c = marks_begin c.args.from c.args.to _ c.sets-sets.result.now _ refl c.new-ranges.ensures.items

pub loop-i-preserved : goal.loop-i-preserved
loop-i-preserved c =
    marks_step c.args.from c.args.to c.loop-i.i c.sets-sets.result.now c.index-sets-i.result _ _ (omega arith) (omega arith) c.index-sets-i.is c.loop-i.invariant c.in_ok-push_marks.ensures
