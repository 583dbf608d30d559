use Rattle.std.proofs.Common.{take}
use Rattle.line_tree.specs.Text.{HasNoReturn}
use Rattle.line_tree.proofs.text.until_return.Given as goal

abbrev pub invariant-loop-index : goal.invariant-loop-index
invariant-loop-index l = HasNoReturn (take l.index l.characters)
