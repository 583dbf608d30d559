use Rattle.std.proofs.Common.{◌≡◌, ◌++◌, ◌∷◌, ◌-◌, ◌+◌, take, drop, length, ap, ◌∙◌, sym, arith, append_assoc, length-append}
use Rattle.std.proofs.lemmas.List.{drop_more, length-take, length-drop}
use Rattle.std.specs.List.{concat}
use Rattle.line_tree.proofs.Inside.{window}
use Rattle.line_tree.proofs.leaf_builder.LeafBuilder.push_pieces.Goals as goal

pub loop-piece-preserved : goal.loop-piece-preserved
loop-piece-preserved c =
    let ps = c.args.pieces.now in
    let i = c.loop-piece.piece-index in
    let v = c.piece-item.result in
    let rest = concat (drop (i + 1) ps) in
    let now = c.min-now.result in
    let start = c.min-start.result in
    let more : concat (drop i ps) ≡ v ++ rest = ap concat (drop_more ps i v c.loop-piece-test.true ∙ ap (λ w. w ∷ drop (i + 1) ps) (sym c.piece-item.is)) in
    let w = window v rest c.loop-piece.skip c.loop-piece.left start now (omega (arith, c.len-len.ensures)) (omega (arith, c.len-len.ensures)) in
    let added = c.in_ok-push_piece_slice.ensures in
    record {
      value = ap (λ r. r ++ take (c.loop-piece.left - now) (drop (c.loop-piece.skip - start) rest)) added
          ∙ append_assoc c.loop-piece.self (take now (drop start v)) (take (c.loop-piece.left - now) (drop (c.loop-piece.skip - start) rest))
          ∙ ap (λ r. c.loop-piece.self ++ r) (sym w ∙ ap (λ r. take c.loop-piece.left (drop c.loop-piece.skip r)) (sym more)) ∙ c.loop-piece.invariant.value;
      within = omega (arith, c.loop-piece.invariant.within, ap length more, length-append v rest, c.len-len.ensures);
      fits = omega (arith, c.loop-piece.invariant.fits, ap length added, length-append c.loop-piece.self (take now (drop start v)), length-take now (drop start v), length-drop start v);
    }
