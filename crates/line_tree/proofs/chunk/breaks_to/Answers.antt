use Rattle.std.proofs.Common.{ap, take, ◌-◌, refl, arith}
use Rattle.std.specs.List.{concat}
use Rattle.line_tree.specs.Breaks.{count_breaks}
use Rattle.line_tree.proofs.Concats.{at_place}
use Rattle.line_tree.proofs.chunk.breaks_to.Goals as goal

pub returns : goal.returns
returns c =
    let found = c.piece_at-found.result in
    let ps = c.args.pieces.now in
    let v = c.index-pieces-found.result in
    let a = at_place (concat ps) ps ps c.args.pos found.index found.from found.breaks v refl refl c.piece_at-found.ensures c.index-pieces-found.is in
    omega (arith, a.count, c.breaks_in.ensures, ap (λ t. count_breaks (take (c.args.pos - found.from) t)) c.chars-characters.ensures)
