use Rattle.std.proofs.Common.{◌≡◌, ◌++◌, false, length}
use Rattle.line_tree.specs.Text.{cut_after, cut}
use Rattle.line_tree.proofs.text.Text.of.Given as goal

abbrev pub invariant-loop-builder : goal.invariant-loop-builder
invariant-loop-builder l = l.builder ++ cut_after false l.rest ≡ cut l.characters

abbrev pub decreases-loop-builder : goal.decreases-loop-builder
decreases-loop-builder l = length l.rest
