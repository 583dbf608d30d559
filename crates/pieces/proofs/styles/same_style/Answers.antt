use Rattle.pieces.proofs.SameText.{style_same}
use Rattle.pieces.proofs.styles.same_style.Goals as goal

pub returns : goal.returns
returns c = style_same c.args.a c.args.b _ c.same.ensures
