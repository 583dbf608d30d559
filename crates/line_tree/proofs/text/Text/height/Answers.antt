use Rattle.std.proofs.Common.{arith}
use Rattle.line_tree.proofs.LineCounts.{length-lines}
use Rattle.line_tree.proofs.text.Text.height.Goals as goal

pub returns-clause-tall : goal.returns-clause-tall
returns-clause-tall c =
    rw c.levels.ensures (omega (arith, c.breaks-breaks.ensures.value, c.breaks-breaks.ensures.tall, length-lines c.args.self.now.characters))
