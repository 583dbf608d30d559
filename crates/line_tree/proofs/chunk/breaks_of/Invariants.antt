use Rattle.std.proofs.Common.{◌≡◌, take}
use Rattle.std.specs.List.{concat}
use Rattle.line_tree.specs.Breaks.{count_breaks}
use Rattle.line_tree.proofs.chunk.breaks_of.Given as goal

abbrev pub invariant-loop-piece : goal.invariant-loop-piece
invariant-loop-piece l = l.breaks ≡ count_breaks (concat (take l.piece-index l.pieces))
