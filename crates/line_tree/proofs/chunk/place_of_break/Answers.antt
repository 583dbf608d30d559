use Rattle.std.proofs.Common.{◌-◌, length, ap, subst, refl, arith}
use Rattle.std.specs.List.{concat}
use Rattle.line_tree.specs.Breaks.{IsBreakAt}
use Rattle.line_tree.proofs.Concats.{at_break}
use Rattle.line_tree.proofs.chunk.place_of_break.Goals as goal

pub break_place_in-requires-clause-fits : goal.break_place_in-requires-clause-fits
break_place_in-requires-clause-fits c =
    let found = c.piece_of_break-found.result in
    let ps = c.args.pieces.now in
    let v = c.index-pieces-found.result in
    let a = at_break (concat ps) ps ps c.args.before found.index found.from found.breaks v refl refl c.piece_of_break-found.ensures c.index-pieces-found.is in
    omega (arith, a.fits, ap length c.chars-characters.ensures, c.requires.fits)

pub overflow_cast-result : goal.overflow_cast-result
overflow_cast-result c =
    let found = c.piece_of_break-found.result in
    let ps = c.args.pieces.now in
    let v = c.index-pieces-found.result in
    let a = at_break (concat ps) ps ps c.args.before found.index found.from found.breaks v refl refl c.piece_of_break-found.ensures c.index-pieces-found.is in
    omega (arith, a.fits, ap length c.chars-characters.ensures, c.requires.fits, c.break_place_in.ensures.within)

pub overflow_add-result : goal.overflow_add-result
overflow_add-result c =
    let found = c.piece_of_break-found.result in
    let ps = c.args.pieces.now in
    let v = c.index-pieces-found.result in
    let a = at_break (concat ps) ps ps c.args.before found.index found.from found.breaks v refl refl c.piece_of_break-found.ensures c.index-pieces-found.is in
    omega (arith, a.fits, ap length c.chars-characters.ensures, c.requires.fits, c.break_place_in.ensures.within)

pub returns : goal.returns
returns c =
    let found = c.piece_of_break-found.result in
    let ps = c.args.pieces.now in
    let v = c.index-pieces-found.result in
    let a = at_break (concat ps) ps ps c.args.before found.index found.from found.breaks v refl refl c.piece_of_break-found.ensures c.index-pieces-found.is in
    a.there c.break_place_in.result (subst (λ t. IsBreakAt t (c.args.before - found.breaks) c.break_place_in.result) c.chars-characters.ensures c.break_place_in.ensures)
