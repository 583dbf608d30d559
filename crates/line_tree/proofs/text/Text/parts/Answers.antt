use Rattle.std.proofs.Common.{length, sym, ◌∙◌, ap, arith}
use Rattle.line_tree.specs.Lines.{lines_of}
use Rattle.line_tree.proofs.Nodes.{at_leaf}
use Rattle.line_tree.proofs.LineCounts.{length-lines}
use Rattle.line_tree.proofs.text.Text.parts.Goals as goal

pub returns-in-Leaf : goal.returns-in-Leaf
returns-in-Leaf c =
    let f = at_leaf c.self.inside.node.value c.in-Leaf.field-0 c.args.self.now c.self.view_is c.self.invariant (sym c.deref.ensures ∙ c.in-Leaf.is) in
    (f.height, omega (arith, length-lines c.in-Leaf.field-0, f.sound.few, ap (λ cs. length (lines_of cs)) f.characters))
