use lib.Pointwise.{pointwise}
use Rattle.std.proofs.Common.{◌≡◌, drop}
use Rattle.pieces.specs.SamePieces.{same_piece}
use Rattle.pieces.proofs.piece.same_list.Given as goal

abbrev pub invariant-loop-i : goal.invariant-loop-i
invariant-loop-i l = pointwise same_piece (drop l.i l.a) (drop l.i l.b) ≡ pointwise same_piece l.a l.b
