use Rattle.std.proofs.Common.{◌-◌, refl, arith}
use Rattle.std.specs.List.{concat}
use Rattle.line_tree.proofs.Concats.{at_place}
use Rattle.line_tree.proofs.Inside.{rest_run}
use Rattle.line_tree.proofs.chunk.run_in.Goals as goal

pub returns-clause-run : goal.returns-clause-run
returns-clause-run c =
    let found = c.piece_at-found.result in
    let ps = c.args.pieces.now in
    let v = c.index-pieces-found.result in
    let a = at_place (concat ps) ps ps c.args.pos found.index found.from found.breaks v refl refl c.piece_at-found.ensures c.index-pieces-found.is in
    let r = rest_run v c.chars.result.now (c.args.pos - found.from) c.chars.ensures (omega (arith, a.high)) in
    (a.run _ r.0 r.1).0

pub returns-clause-short : goal.returns-clause-short
returns-clause-short c =
    let found = c.piece_at-found.result in
    let ps = c.args.pieces.now in
    let v = c.index-pieces-found.result in
    let a = at_place (concat ps) ps ps c.args.pos found.index found.from found.breaks v refl refl c.piece_at-found.ensures c.index-pieces-found.is in
    let r = rest_run v c.chars.result.now (c.args.pos - found.from) c.chars.ensures (omega (arith, a.high)) in
    (a.run _ r.0 r.1).1
