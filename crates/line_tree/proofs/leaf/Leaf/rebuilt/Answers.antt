use Rattle.std.proofs.Common.{◌∙◌, arith}
use Rattle.std.proofs.lemmas.Result.{IfOk-weaker}
use Rattle.line_tree.proofs.Replacing.{put_together}
use Rattle.line_tree.proofs.leaf.Leaf.rebuilt.Goals as goal

pub returns : goal.returns
returns c =
    let whole = put_together c.args.self.now c.args.inserted.now c.in_ok-builder.builder c.push_leaf_slice.new.self c.push_leaf.new.self c.push_leaf_slice-2.new.self c.args.from c.args.to _
    c.in_ok-builder.ensures c.in_ok-push_leaf_slice.ensures c.in_ok-push_leaf.ensures c.in_ok-push_leaf_slice-2.ensures (omega (arith, c.len-3.ensures)) in
    IfOk-weaker c.finish.result _ _ (λ l e. e ∙ whole) c.finish.ensures
