use Rattle.std.proofs.Common.{arith}
use Rattle.line_tree.proofs.LineCounts.{length-lines}
use Rattle.line_tree.proofs.text.Text.lines.Goals as goal

pub returns-clause-value : goal.returns-clause-value
returns-clause-value c = omega (arith, c.breaks.ensures.value, length-lines c.args.self.now.characters)
