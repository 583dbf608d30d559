use Rattle.std.proofs.Common.{arith}
use Rattle.line_tree.proofs.PartPlaces.{not_last_break, part_fits, length-lead_more, count-lead_more}
use Rattle.line_tree.proofs.parts.part_of_break.Goals as goal

pub loop-index-preserved : goal.loop-index-preserved
loop-index-preserved c =
    let parts = c.args.parts.now in
    let i = c.loop-index.invariant in
    let within = i.some in
    record {
      some = not_last_break parts c.loop-index.index c.args.before c.index-parts-index.result within c.index-parts-index.is (omega arith) c.requires.within;
      starts = omega arith;
      from_is = omega (arith, length-lead_more parts c.loop-index.index c.index-parts-index.result within c.index-parts-index.is);
      breaks_is = omega (arith, count-lead_more parts c.loop-index.index c.index-parts-index.result within c.index-parts-index.is);
    }

pub overflow_add-from : goal.overflow_add-from
overflow_add-from c =
    let parts = c.args.parts.now in
    let i = c.loop-index.invariant in
    let more = not_last_break parts c.loop-index.index c.args.before c.index-parts-index.result i.some c.index-parts-index.is (omega arith) c.requires.within in
    omega (arith, part_fits parts c.loop-index.index c.index-parts-index.result i.some c.index-parts-index.is more, c.requires.fits)

pub overflow_add-from-in-loop-index : goal.overflow_add-from-in-loop-index
overflow_add-from-in-loop-index c =
    let parts = c.args.parts.now in
    let i = c.loop-index.invariant in
    let more = not_last_break parts c.loop-index.index c.args.before c.index-parts-index.result i.some c.index-parts-index.is (omega arith) c.requires.within in
    omega (arith, part_fits parts c.loop-index.index c.index-parts-index.result i.some c.index-parts-index.is more, c.requires.fits)
