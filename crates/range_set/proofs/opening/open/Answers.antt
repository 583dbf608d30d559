use Rattle.std.proofs.Common.{List, map, ap, subst, sym, ◌∙◌}
use Rattle.range_set.specs.PrivateChunks.{AreChunks, group_content, lengthen, move}
use Rattle.range_set.specs.declared.chunk.Placed.{Placed}
use Rattle.range_set.specs.declared.group.Group.{Group}
use Rattle.range_set.proofs.Groups.{are_opened}
use Rattle.range_set.proofs.opening.open.Goals as goal

pub share_each-requires-clause-chunks : goal.share_each-requires-clause-chunks
share_each-requires-clause-chunks g c =
    let same = c.as_slice.ensures.value ∙ ap (λ (x : Group g.row.T.Denot). x.chunks.items) c.deref-2.ensures in
    subst (λ (ps : List (Placed g.row.T.Denot)). AreChunks g.T.RangeValue.rules (map (move c.args.base) (map (lengthen c.args.placed.now.grown) ps))) (sym same) (are_opened g.T.RangeValue.rules c.args.base (group_content c.args.placed.now) c.requires.group)
