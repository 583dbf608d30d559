use Rattle.std.proofs.Common.{◌≡◌, take, map}
use Rattle.line_tree.specs.Lines.{lines_of}
use Rattle.shipped_rules.specs.Lists.{width}
use Rattle.shipped_rules.proofs.listing.lengths_of.Given as goal

abbrev pub invariant-loop-breaks : goal.invariant-loop-breaks
invariant-loop-breaks l = l.lengths ≡ map width (take l.breaks (lines_of l.document.characters))
