use Rattle.std.proofs.Common.{◌≡◌, ◌+◌, ◌++◌, List, map, ap, subst, sym, ◌∙◌}
use Rattle.range_set.specs.PrivateChunks.{AreChunks, IsNextChunk, content, lengthen, move, spread, stretch}
use Rattle.range_set.specs.declared.chunk.Chunk.{Chunk}
use Rattle.range_set.specs.declared.chunk.Placed.{Placed}
use Rattle.range_set.specs.declared.group.Group.{Group}
use Rattle.range_set.proofs.Groups.{left_open, next_chunk}
use Rattle.range_set.proofs.chunk_iter.ChunkIter.next_chunk.Goals as goal

pub loop-next-preserved : goal.loop-next-preserved
loop-next-preserved g c =
    let rules = g.T.RangeValue.rules in
    let at = c.loop-next.self-inside in
    let start = c.in_ok-start-in-None.start in
    let placed = c.in_ok-start-in-None.placed.now in
    let others = c.in_ok-start-in-None.others in
    let list : c.as_slice-self-inside.result.now ≡ placed.group.value.chunks.items = c.as_slice-self-inside.ensures.value ∙ ap (λ (x : Group g.row.T.Denot). x.chunks.items) c.deref-in-None.ensures in
    let entered = left_open rules at.base at.grown at.chunks.now at.groups start placed others c.in-None.ensures.cases c.in_ok-start-in-None.ensures.some in
    record {
      same = ap (λ ps. map (move start) (map (lengthen placed.grown) ps) ++ spread others) list ∙ (sym entered.0 ∙ c.loop-next.invariant.same);
      left = subst (λ (ps : List (Placed g.row.T.Denot)). AreChunks rules (map (move start) (map (lengthen placed.grown) ps))) (sym list) entered.1;
    }

pub returns-in-Some-clause-next : goal.returns-in-Some-clause-next
returns-in-Some-clause-next g c =
    let rules = g.T.RangeValue.rules in
    let at = c.loop-next.self-inside in
    let next = c.in-Some.next.now in
    let others = c.in-Some.others.now in
    let left = map (move at.base) (map (lengthen at.grown) others) ++ spread at.groups in
    let first = next_chunk rules at.base at.grown at.chunks.now at.groups next others c.in-Some.ensures.cases.0 c.loop-next.invariant.left in
    subst (λ (x : Chunk g.row.T.Denot). IsNextChunk c.args.self.now (at.base + next.start) (stretch (next.grown + at.grown) x) left) (sym c.deref.ensures)
    (subst (λ (ps : List (Placed g.row.T.Denot)). IsNextChunk ps (at.base + next.start) (content (lengthen at.grown next)) left) (c.loop-next.invariant.same ∙ c.self.view_is) first)
