use Rattle.std.proofs.Common.{arith}
use Rattle.line_tree.proofs.Concats.{length_more, count_more}
use Rattle.line_tree.proofs.chunk.piece_at.Goals as goal

pub loop-index-preserved : goal.loop-index-preserved
loop-index-preserved c =
    let i = c.loop-index.invariant in
    let e = length_more c.args.pieces.now c.loop-index.index c.index-pieces-index.result c.loop-index-test.true c.index-pieces-index.is in
    let n = count_more c.args.pieces.now c.loop-index.index c.index-pieces-index.result c.loop-index-test.true c.index-pieces-index.is in
    record {
      starts = omega (arith, c.if-pos-from.false, i.starts);
      from_is = omega (arith, i.from_is, e);
      breaks_is = omega (arith, i.breaks_is, n);
    }
