use Rattle.std.proofs.Common.{take}
use Rattle.line_tree.specs.Breaks.{HasNoBreak}
use Rattle.line_tree.proofs.builder.line_len.Given as goal

abbrev pub invariant-loop-index : goal.invariant-loop-index
invariant-loop-index l = HasNoBreak (take l.index l.characters)
