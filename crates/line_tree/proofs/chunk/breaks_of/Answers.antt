use Rattle.std.proofs.Common.{◌∙◌, ap, arith}
use Rattle.std.proofs.lemmas.List.{take_all}
use Rattle.std.specs.List.{concat}
use Rattle.line_tree.specs.Breaks.{count_breaks}
use Rattle.line_tree.proofs.Concats.{count_more, count_part}
use Rattle.line_tree.proofs.Counts.{count_le}
use Rattle.line_tree.proofs.chunk.breaks_of.Goals as goal

pub overflow_add-breaks : goal.overflow_add-breaks
overflow_add-breaks c =
    omega (
      arith,
      c.loop-piece.invariant,
      count_part c.args.pieces.now c.loop-piece.piece-index c.piece-item.result c.loop-piece-test.true c.piece-item.is,
      count_le (concat c.args.pieces.now),
      c.requires,
    )

pub loop-piece-preserved : goal.loop-piece-preserved
loop-piece-preserved c = omega (arith, c.loop-piece.invariant, count_more c.args.pieces.now c.loop-piece.piece-index c.piece-item.result c.loop-piece-test.true c.piece-item.is)

pub returns : goal.returns
returns c = c.loop-piece.invariant ∙ ap (λ ps. count_breaks (concat ps)) (take_all c.loop-piece.piece-index c.args.pieces.now (omega arith))
