use Rattle.std.proofs.Common.{refl}
use Rattle.std.specs.List.{concat}
use Rattle.line_tree.proofs.Concats.{at_place}
use Rattle.line_tree.proofs.leaf.run_in.Goals as goal

pub returns-clause-run : goal.returns-clause-run
returns-clause-run c =
    let found = c.chunk_at-found.result in
    let cs = c.args.chunks.now in
    let a = at_place (concat cs) cs cs c.args.pos found.index found.from found.breaks c.index-chunks-found.result refl refl c.chunk_at-found.ensures c.index-chunks-found.is in
    (a.run _ c.run_at.ensures.run c.run_at.ensures.short).0

pub returns-clause-short : goal.returns-clause-short
returns-clause-short c =
    let found = c.chunk_at-found.result in
    let cs = c.args.chunks.now in
    let a = at_place (concat cs) cs cs c.args.pos found.index found.from found.breaks c.index-chunks-found.result refl refl c.chunk_at-found.ensures c.index-chunks-found.is in
    (a.run _ c.run_at.ensures.run c.run_at.ensures.short).1
