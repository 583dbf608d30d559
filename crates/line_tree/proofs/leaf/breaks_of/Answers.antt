use Rattle.std.proofs.Common.{◌∙◌, ap, arith}
use Rattle.std.proofs.lemmas.List.{take_all}
use Rattle.std.specs.List.{concat}
use Rattle.line_tree.specs.Breaks.{count_breaks}
use Rattle.line_tree.proofs.Concats.{count_more, count_part}
use Rattle.line_tree.proofs.Counts.{count_le}
use Rattle.line_tree.proofs.leaf.breaks_of.Goals as goal

pub overflow_add-breaks : goal.overflow_add-breaks
overflow_add-breaks c =
    omega (
      arith,
      c.loop-chunk.invariant,
      count_part c.args.chunks.now c.loop-chunk.chunk-index c.chunk-item.result c.loop-chunk-test.true c.chunk-item.is,
      count_le (concat c.args.chunks.now),
      c.requires,
    )

pub loop-chunk-preserved : goal.loop-chunk-preserved
loop-chunk-preserved c = omega (arith, c.loop-chunk.invariant, count_more c.args.chunks.now c.loop-chunk.chunk-index c.chunk-item.result c.loop-chunk-test.true c.chunk-item.is)

pub returns : goal.returns
returns c = c.loop-chunk.invariant ∙ ap (λ ps. count_breaks (concat ps)) (take_all c.loop-chunk.chunk-index c.args.chunks.now (omega arith))
