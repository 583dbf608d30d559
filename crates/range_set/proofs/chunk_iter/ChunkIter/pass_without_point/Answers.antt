use Rattle.std.proofs.Common.{◌≡◌, ◌++◌, ◌+◌, ◌<◌, List, length, map, ap, subst, sym, ◌∙◌}
use Rattle.range_set.specs.PrivateChunks.{AreChunks, lengthen, move, spread}
use Rattle.range_set.specs.declared.chunk.Chunk.{Chunk}
use Rattle.range_set.specs.declared.chunk.Placed.{Placed}
use Rattle.range_set.specs.declared.group.Group.{Group}
use Rattle.range_set.proofs.Cursor.{no_point_rest, open_fewer, pass_fewer}
use Rattle.range_set.proofs.Groups.{left_next, left_open, left_passed}
use Rattle.range_set.proofs.Passing.{HaveNoPoint, no_point_both, no_point_chunk, no_point_group}
use Rattle.range_set.proofs.chunk_iter.ChunkIter.pass_without_point.Goals as goal
use Rattle.range_set.proofs.chunk_iter.ChunkIter.pass_without_point.Goals.{then-deref-2, else-deref-2}

pub loop-first-preserved-in-Some : goal.loop-first-preserved-in-Some
loop-first-preserved-in-Some g c =
    let rules = g.T.RangeValue.rules in
    let at = c.loop-first.self-inside in
    let old = map (move c.self.inside.base) (map (lengthen c.self.inside.grown) c.self.inside.chunks.now) ++ spread c.self.inside.groups in
    let first = c.in-Some.first.now in
    let others = c.in-Some.others.now in
    let next = left_next rules at.base at.grown at.chunks.now at.groups first others c.in-Some.ensures.cases.0 c.loop-first.invariant.left in
    record {
      passed = no_point_chunk rules old (move at.base (lengthen at.grown first)) (map (move at.base) (map (lengthen at.grown) others) ++ spread at.groups) next.1.0
          (sym (ap (λ (ch : Chunk g.row.T.Denot). ch.has_point) c.deref.ensures) ∙ c.if-deref.false)
          (subst (HaveNoPoint rules old) next.0 c.loop-first.invariant.passed);
      left = next.1.1;
    }

pub loop-first-smaller : goal.loop-first-smaller
loop-first-smaller g c =
    let rules = g.T.RangeValue.rules in
    let at = c.loop-first.self-inside in
    let next = c.in-Some-split_first in
    let past = c.past_pages_without_point-self-inside in
    elim c.if-deref-2.branch [
      | then-deref-2 w ↦
          let list : w.as_slice-self-inside.result.now ≡ next.placed.now.group.value.chunks.items = w.as_slice-self-inside.ensures.value ∙ ap (λ (x : Group g.row.T.Denot). x.chunks.items) w.deref-then-deref-2.ensures in
          rw w.self-inside-is (subst (λ (ps : List (Placed g.row.T.Denot)). length (map (move next.start) (map (lengthen next.placed.now.grown) ps) ++ spread next.others) + length next.others < length (map (move at.base) (map (lengthen at.grown) at.chunks.now) ++ spread at.groups) + length at.groups) (sym list)
          (open_fewer rules at.base (map (lengthen at.grown) at.chunks.now) at.groups past.result next.start next.placed.now next.others past.ensures.last next.ensures.some))
      | else-deref-2 w ↦ rw w.self-inside-is (pass_fewer rules at.base (map (lengthen at.grown) at.chunks.now) at.groups past.result next.start next.placed.now next.others past.ensures.last next.ensures.some)
    ]

pub loop-first-preserved : goal.loop-first-preserved
loop-first-preserved g c =
    let rules = g.T.RangeValue.rules in
    let at = c.loop-first.self-inside in
    let old = map (move c.self.inside.base) (map (lengthen c.self.inside.grown) c.self.inside.chunks.now) ++ spread c.self.inside.groups in
    let next = c.in-Some-split_first in
    let past = c.past_pages_without_point-self-inside in
    let none = c.in-None.ensures.cases in
    let entered = left_open rules at.base at.grown at.chunks.now past.result next.start next.placed.now next.others none next.ensures.some in
    let begun = subst (HaveNoPoint rules old) (left_passed rules at.base at.grown at.chunks.now at.groups none) c.loop-first.invariant.passed in
    let here = no_point_both rules old (spread at.groups) (spread past.result) begun (no_point_rest rules at.groups past.result past.ensures.last past.ensures.kept) in
    elim c.if-deref-2.branch [
      | then-deref-2 w ↦
          let list : w.as_slice-self-inside.result.now ≡ next.placed.now.group.value.chunks.items = w.as_slice-self-inside.ensures.value ∙ ap (λ (x : Group g.row.T.Denot). x.chunks.items) w.deref-then-deref-2.ensures in
          rw w.self-inside-is (record {
            passed = subst (HaveNoPoint rules old) (sym (left_passed rules at.base at.grown at.chunks.now past.result none) ∙ (entered.0 ∙ sym (ap (λ ps. map (move next.start) (map (lengthen next.placed.now.grown) ps) ++ spread next.others) list))) here;
            left = subst (λ (ps : List (Placed g.row.T.Denot)). AreChunks rules (map (move next.start) (map (lengthen next.placed.now.grown) ps))) (sym list) entered.1;
          })
      | else-deref-2 w ↦
          rw w.self-inside-is (record {
            passed = subst (HaveNoPoint rules old) (sym (left_passed rules at.base at.grown at.chunks.now next.others none))
                (no_point_group rules old past.result next.start next.placed.now next.others next.ensures.some (sym (ap (λ (x : Group g.row.T.Denot). x.has_point) c.deref-in-Some-split_first.ensures) ∙ w.if-deref-2.false) here);
            left = c.loop-first.invariant.left;
          })
    ]
