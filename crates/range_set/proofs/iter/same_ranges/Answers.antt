use Rattle.std.proofs.Common.{◌≡◌, ◌∙◌, sym}
use Rattle.range_set.specs.PrivateChunks.{flat}
use Rattle.range_set.proofs.Same.{none_of_first, none_of_second, same_after}
use Rattle.range_set.proofs.iter.same_ranges.Goals as goal

pub returns-then-is_empty : goal.returns-then-is_empty
returns-then-is_empty g c =
    let at = c.loop-left in
    let same = none_of_first at.left_run at.right_run (flat at.left) (flat at.right) (flat c.args.left ≡ flat c.args.right) (c.is_empty.ensures.0 c.if-is_empty.true) at.invariant.none_left at.invariant.none_right at.invariant.same in
    ((λ h. same.0 (c.is_empty-then-is_empty.ensures.0 h)), (λ p. c.is_empty-then-is_empty.ensures.1 (same.1 p)))

pub returns-then-is_empty-2 : goal.returns-then-is_empty-2
returns-then-is_empty-2 g c =
    let at = c.loop-left in
    none_of_second at.left_run at.right_run (flat at.left) (flat at.right) (flat c.args.left ≡ flat c.args.right) c.is_empty.result c.is_empty.ensures.1 c.if-is_empty.false
    (c.is_empty-in-loop-left.ensures.0 c.if-is_empty-2.true) at.invariant.none_right at.invariant.same

pub loop-left-preserved : goal.loop-left-preserved
loop-left-preserved g c =
    let at = c.loop-left in
    let same = same_after at.left_run at.right_run c.take_same.new.self c.take_same.new.other (flat at.left) (flat at.right) (flat c.args.left ≡ flat c.args.right) (c.take_same.ensures.same c.if-not-take_same.false) at.invariant.same in
    let left = c.refilled-left_run.ensures.ranges in
    let right = c.refilled-right_run.ensures.ranges in
    record {
      same = ((λ e. same.0 (sym left ∙ (e ∙ right))), (λ p. left ∙ (same.1 p ∙ sym right)));
      none_left = c.refilled-left_run.ensures.none;
      none_right = c.refilled-right_run.ensures.none;
    }
