use Rattle.std.proofs.Common.{◌∙◌, length, ap, arith}
use Rattle.std.proofs.lemmas.List.{take_all}
use Rattle.std.specs.List.{concat}
use Rattle.line_tree.proofs.Concats.{length_more, length_part}
use Rattle.line_tree.proofs.chunk.len_of.Goals as goal

pub overflow_add-len : goal.overflow_add-len
overflow_add-len c =
    omega (arith, c.loop-piece.invariant, length_part c.args.pieces.now c.loop-piece.piece-index c.piece-item.result c.loop-piece-test.true c.piece-item.is, c.requires)

pub loop-piece-preserved : goal.loop-piece-preserved
loop-piece-preserved c = omega (arith, c.loop-piece.invariant, length_more c.args.pieces.now c.loop-piece.piece-index c.piece-item.result c.loop-piece-test.true c.piece-item.is)

pub returns : goal.returns
returns c = c.loop-piece.invariant ∙ ap (λ ps. length (concat ps)) (take_all c.loop-piece.piece-index c.args.pieces.now (omega arith))
