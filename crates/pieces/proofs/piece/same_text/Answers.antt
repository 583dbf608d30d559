use Rattle.std.proofs.Common.{◌∙◌}
use Rattle.pieces.proofs.SameText.{text_same}
use Rattle.pieces.proofs.piece.same_text.Goals as goal

pub returns : goal.returns
returns c = c.eq.ensures ∙ text_same _ _ c.utf8.a c.utf8.b
