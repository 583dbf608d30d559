use Rattle.std.proofs.Common.{[], ◌∷◌, length, ap, arith, length-append}
use Rattle.std.proofs.lemmas.Result.{on_ok_weaker}
use Rattle.line_tree.proofs.Seams.{seam, sewn, adds_same}
use Rattle.line_tree.proofs.glue.+join.Goals as goal

pub join-requires : goal.join-requires
join-requires t c =
    let s = seam c.args.left.now c.args.right.now c.max-height.result c.level_parts-lefts.result.now c.level_parts-rights.result.now c.index-lefts-end.result c.index-rights-0.result
    (omega arith) (omega arith) c.level_parts-lefts.ensures c.level_parts-rights.ensures c.index-lefts-end.is c.index-rights-0.is in
    (omega (arith, s.falls, c.decreases), omega (arith, s.short, c.requires))

pub add_level-requires-clause-same : goal.add_level-requires-clause-same
add_level-requires-clause-same t c =
    let s = seam c.args.left.now c.args.right.now c.max-height.result c.level_parts-lefts.result.now c.level_parts-rights.result.now c.index-lefts-end.result c.index-rights-0.result
    (omega arith) (omega arith) c.level_parts-lefts.ensures c.level_parts-rights.ensures c.index-lefts-end.is c.index-rights-0.is in
    let n = sewn _ (10 ∷ []) _ _ _ _ _ _ _ _ _ _ s c.in_ok-parts.ensures.items c.in_ok-add_copies.ensures c.in_ok-join.ensures c.in_ok-add_copies-2.ensures in
    n.same

pub add_level-requires-clause-fits : goal.add_level-requires-clause-fits
add_level-requires-clause-fits t c =
    let s = seam c.args.left.now c.args.right.now c.max-height.result c.level_parts-lefts.result.now c.level_parts-rights.result.now c.index-lefts-end.result c.index-rights-0.result
    (omega arith) (omega arith) c.level_parts-lefts.ensures c.level_parts-rights.ensures c.index-lefts-end.is c.index-rights-0.is in
    let n = sewn _ (10 ∷ []) _ _ _ _ _ _ _ _ _ _ s c.in_ok-parts.ensures.items c.in_ok-add_copies.ensures c.in_ok-join.ensures c.in_ok-add_copies-2.ensures in
    omega (arith, c.requires, ap length n.whole, length-append c.args.left.now.characters (10 ∷ c.args.right.now.characters))

pub returns : goal.returns
returns t c =
    let s = seam c.args.left.now c.args.right.now c.max-height.result c.level_parts-lefts.result.now c.level_parts-rights.result.now c.index-lefts-end.result c.index-rights-0.result
    (omega arith) (omega arith) c.level_parts-lefts.ensures c.level_parts-rights.ensures c.index-lefts-end.is c.index-rights-0.is in
    let n = sewn _ (10 ∷ []) _ _ _ _ _ _ _ _ _ _ s c.in_ok-parts.ensures.items c.in_ok-add_copies.ensures c.in_ok-join.ensures c.in_ok-add_copies-2.ensures in
    on_ok_weaker c.add_level.result (λ adds. adds_same _ _ _ _ _ _ (omega arith) n.whole adds) c.add_level.ensures
