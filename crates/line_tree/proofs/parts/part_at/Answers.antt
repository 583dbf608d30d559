use Rattle.std.proofs.Common.{arith}
use Rattle.line_tree.proofs.PartPlaces.{not_last, length-lead_more, count-lead_more}
use Rattle.line_tree.proofs.parts.part_at.Goals as goal

pub loop-index-preserved : goal.loop-index-preserved
loop-index-preserved c =
    let parts = c.args.parts.now in
    let i = c.loop-index.invariant in
    let within = i.some in
    record {
      some = not_last parts c.loop-index.index c.args.pos c.index-parts-index.result within c.index-parts-index.is (omega arith) c.requires.within;
      starts = omega arith;
      from_is = omega (arith, length-lead_more parts c.loop-index.index c.index-parts-index.result within c.index-parts-index.is);
      breaks_is = omega (arith, count-lead_more parts c.loop-index.index c.index-parts-index.result within c.index-parts-index.is);
    }
