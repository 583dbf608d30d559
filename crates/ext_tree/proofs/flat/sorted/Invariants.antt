use Rattle.std.proofs.Common.{◌≡◌, drop, fold, length}
use Rattle.std.specs.List.{AllByRecursion}
use Rattle.ext_tree.specs.Flat.{levels}
use Rattle.ext_tree.specs.Taking.{take_level, flat}
use Rattle.ext_tree.specs.Marks.{AreTaken, IsWithin}
use Rattle.ext_tree.proofs.flat.sorted.Given as goal

abbrev pub invariant-loop-level : goal.invariant-loop-level
invariant-loop-level l = record {
  taken : fold (take_level l.leaves) l.taken.nodes.items (drop l.level levels) ≡ flat l.leaves;
  marks : AreTaken l.taken.nodes.items l.taken.marks.items;
  room : AllByRecursion (IsWithin (length l.taken.marks.items)) l.leaves;
}
