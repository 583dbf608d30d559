use Rattle.std.proofs.Common.{◌≡◌, drop, length}
use Rattle.ext_tree.specs.Taking.{take_level}
use Rattle.ext_tree.specs.Marks.{AreTaken}
use Rattle.ext_tree.proofs.taken.Taken.take_level.Given as goal

abbrev pub invariant-loop-visit : goal.invariant-loop-visit
invariant-loop-visit l = record {
  taken : take_level (drop l.visit-index l.leaves) l.self.nodes.items l.level ≡ take_level l.leaves l.initial.self.nodes.items l.level;
  marks : AreTaken l.self.nodes.items l.self.marks.items;
  room : length l.self.marks.items ≡ length l.initial.self.marks.items;
}
