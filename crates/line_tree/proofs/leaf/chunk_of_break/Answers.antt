use Rattle.std.proofs.Common.{arith}
use Rattle.line_tree.proofs.Concats.{length_more, count_more, length_part}
use Rattle.line_tree.proofs.leaf.chunk_of_break.Goals as goal

pub overflow_add-from : goal.overflow_add-from
overflow_add-from c =
    omega (arith, c.loop-index.invariant.from_is, length_part c.args.chunks.now c.loop-index.index c.index-chunks-index.result c.loop-index-test.true c.index-chunks-index.is, c.requires.fits)

pub loop-index-preserved : goal.loop-index-preserved
loop-index-preserved c =
    let i = c.loop-index.invariant in
    let e = length_more c.args.chunks.now c.loop-index.index c.index-chunks-index.result c.loop-index-test.true c.index-chunks-index.is in
    let n = count_more c.args.chunks.now c.loop-index.index c.index-chunks-index.result c.loop-index-test.true c.index-chunks-index.is in
    record {
      starts = omega (arith, i.starts);
      from_is = omega (arith, i.from_is, e);
      breaks_is = omega (arith, i.breaks_is, n);
    }
