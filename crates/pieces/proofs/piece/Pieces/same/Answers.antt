use Rattle.pieces.proofs.SameText.{pieces_same}
use Rattle.pieces.proofs.piece.Pieces.same.Goals as goal

pub returns-clause-look : goal.returns-clause-look
returns-clause-look c = pieces_same _ _ _ c.are_same.ensures
