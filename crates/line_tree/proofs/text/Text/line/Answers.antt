use Rattle.std.proofs.Common.{arith}
use Rattle.line_tree.proofs.LineCounts.{length-lines}
use Rattle.line_tree.proofs.LineOf.{line_numbered, line_order}
use Rattle.line_tree.proofs.text.Text.line.Goals as goal

pub overflow_cast-breaks : goal.overflow_cast-breaks
overflow_cast-breaks c = omega (arith, length-lines c.args.self.now.characters, c.requires.last, c.breaks-breaks.ensures.value)

pub line_start-requires : goal.line_start-requires
line_start-requires c = omega (arith, length-lines c.args.self.now.characters, c.requires.last)

pub returns-clause-line : goal.returns-clause-line
returns-clause-line c =
    line_numbered c.args.self.now.characters c.args.number _ _ _ (omega (arith, c.requires.first)) c.line_start.ensures c.line_end.ensures

pub returns-clause-order : goal.returns-clause-order
returns-clause-order c = line_order c.args.self.now.characters _ _ _ c.line_start.ensures c.line_end.ensures
