use Rattle.std.proofs.Common.{take}
use Rattle.std.specs.List.{AllByRecursion}
use Rattle.ext_tree.specs.Marks.{IsWithin}
use Rattle.ext_tree.proofs.flat.above.Given as goal

abbrev pub invariant-loop-visit : goal.invariant-loop-visit
invariant-loop-visit l = AllByRecursion (IsWithin l.room) (take l.visit-index l.leaves)
