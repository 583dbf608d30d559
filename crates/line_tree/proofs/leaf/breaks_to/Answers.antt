use Rattle.std.proofs.Common.{refl, arith}
use Rattle.std.specs.List.{concat}
use Rattle.line_tree.proofs.Concats.{at_place}
use Rattle.line_tree.proofs.leaf.breaks_to.Goals as goal

pub returns : goal.returns
returns c =
    let found = c.chunk_at-found.result in
    let cs = c.args.chunks.now in
    let a = at_place (concat cs) cs cs c.args.pos found.index found.from found.breaks c.index-chunks-found.result refl refl c.chunk_at-found.ensures c.index-chunks-found.is in
    omega (arith, a.count, c.breaks_before.ensures)
