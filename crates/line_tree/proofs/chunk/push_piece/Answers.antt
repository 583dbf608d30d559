use Rattle.std.proofs.Common.{◌++◌, ◌∙◌, ap}
use Rattle.std.specs.List.{concat}
use Rattle.line_tree.proofs.Concats.{concat_push}
use Rattle.line_tree.proofs.chunk.push_piece.Goals as goal

pub returns-clause-value : goal.returns-clause-value
returns-clause-value c =
    ap concat c.in_ok-push.ensures.items ∙ concat_push c.args.pieces.now.items c.in_ok-piece.piece ∙ ap (λ r. concat c.args.pieces.now.items ++ r) c.in_ok-piece.ensures
