use Rattle.std.proofs.Common.{arith}
use Rattle.line_tree.proofs.Replacing.{replaced_few}
use Rattle.line_tree.proofs.glue.replace_lines.Goals as goal

pub add_lines-requires-clause-few : goal.add_lines-requires-clause-few
add_lines-requires-clause-few c =
    rw c.in_ok-made.ensures (omega (arith, replaced_few c.args.leaf.now c.args.inserted.now c.args.from c.args.to c.requires.order, c.requires.few, c.requires.few_inserted))
