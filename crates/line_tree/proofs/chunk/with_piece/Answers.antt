use Rattle.std.proofs.Common.{◌++◌, ◌∙◌, ap, arith}
use Rattle.std.proofs.lemmas.List.{take_all}
use Rattle.std.specs.List.{concat}
use Rattle.line_tree.proofs.chunk.with_piece.Goals as goal

pub returns : goal.returns
returns c =
    c.in_ok-push_piece.ensures.value
    ∙ ap (λ ps. concat ps ++ c.args.characters.now) (c.loop-piece.invariant ∙ take_all c.loop-piece.piece-index c.args.pieces.now (omega arith))
