use Rattle.std.proofs.Common.{◌≡◌, take}
use Rattle.line_tree.proofs.Joins.{lengths}
use Rattle.line_tree.proofs.parts.len_of.Given as goal

abbrev pub invariant-loop-part : goal.invariant-loop-part
invariant-loop-part l = l.len ≡ lengths (take l.part-index l.parts)
