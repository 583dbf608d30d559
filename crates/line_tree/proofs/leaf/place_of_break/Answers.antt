use Rattle.std.proofs.Common.{refl, arith}
use Rattle.std.specs.List.{concat}
use Rattle.line_tree.proofs.Concats.{at_break}
use Rattle.line_tree.proofs.leaf.place_of_break.Goals as goal

pub overflow_add-result : goal.overflow_add-result
overflow_add-result c =
    let found = c.chunk_of_break-found.result in
    let cs = c.args.chunks.now in
    let a = at_break (concat cs) cs cs c.args.before found.index found.from found.breaks c.index-chunks-found.result refl refl c.chunk_of_break-found.ensures c.index-chunks-found.is in
    omega (arith, a.fits, c.requires.fits, c.break_place.ensures.within)

pub returns : goal.returns
returns c =
    let found = c.chunk_of_break-found.result in
    let cs = c.args.chunks.now in
    let a = at_break (concat cs) cs cs c.args.before found.index found.from found.breaks c.index-chunks-found.result refl refl c.chunk_of_break-found.ensures c.index-chunks-found.is in
    a.there c.break_place.result c.break_place.ensures
