use Rattle.std.proofs.Common.{arith, ◌∙◌}
use Rattle.shipped_rules.specs.Fitting.{lines-le, lines_of-length}
use Rattle.shipped_rules.proofs.computing.count_lines.Goals as goal

pub overflow_cast-result : goal.overflow_cast-result
overflow_cast-result c = omega (arith, c.requires, c.lines.ensures.value, lines_of-length c.args.document.now.characters, lines-le c.args.document.now.characters)

pub returns : goal.returns
returns c = c.lines.ensures.value ∙ lines_of-length c.args.document.now.characters
