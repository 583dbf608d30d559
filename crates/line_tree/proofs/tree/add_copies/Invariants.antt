use Rattle.std.proofs.Common.{◌≡◌, ◌++◌, take}
use Rattle.line_tree.proofs.tree.add_copies.Given as goal

abbrev pub invariant-loop-part : goal.invariant-loop-part
invariant-loop-part l = l.out.items ≡ l.initial.out.items ++ take l.part-index l.parts
