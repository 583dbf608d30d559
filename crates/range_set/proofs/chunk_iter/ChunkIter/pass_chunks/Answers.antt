use Rattle.std.proofs.Common.{◌≡◌, ◌++◌, ◌+◌, ◌<◌, List, length, map, ap, subst, sym, ◌∙◌, arith}
use Rattle.range_set.specs.PrivateChunks.{AreChunks, ArePassed, lengthen, move, spread}
use Rattle.range_set.specs.declared.chunk.Placed.{Placed}
use Rattle.range_set.specs.declared.group.Group.{Group}
use Rattle.range_set.proofs.Cursor.{open_fewer, pass_fewer}
use Rattle.range_set.proofs.Groups.{left_next, left_open, left_passed}
use Rattle.range_set.proofs.Passing.{passed_both, passed_chunk, passed_group}
use Rattle.range_set.proofs.chunk_iter.ChunkIter.pass_chunks.Goals as goal
use Rattle.range_set.proofs.chunk_iter.ChunkIter.pass_chunks.Goals.{then-place-start, else-place-start}

pub loop-first-preserved-in-Some : goal.loop-first-preserved-in-Some
loop-first-preserved-in-Some g c =
    let rules = g.T.RangeValue.rules in
    let place = c.args.place in
    let at = c.loop-first.self-inside in
    let old = map (move c.self.inside.base) (map (lengthen c.self.inside.grown) c.self.inside.chunks.now) ++ spread c.self.inside.groups in
    let first = c.in-Some.first.now in
    let others = c.in-Some.others.now in
    let next = left_next rules at.base at.grown at.chunks.now at.groups first others c.in-Some.ensures.cases.0 c.loop-first.invariant.left in
    record {
      passed = passed_chunk rules place old (move at.base (lengthen at.grown first)) (map (move at.base) (map (lengthen at.grown) others) ++ spread at.groups) next.1.0
          (let e = c.reach.ensures in let l = c.if-place-self.false in omega (arith, e, l))
          (subst (ArePassed place old) next.0 c.loop-first.invariant.passed);
      left = next.1.1;
    }

pub loop-first-smaller : goal.loop-first-smaller
loop-first-smaller g c =
    let rules = g.T.RangeValue.rules in
    let at = c.loop-first.self-inside in
    let next = c.in-Some-split_first in
    let past = c.past_pages-self-inside in
    elim c.if-place-start.branch [
      | then-place-start w ↦
          let list : w.as_slice-self-inside.result.now ≡ next.placed.now.group.value.chunks.items = w.as_slice-self-inside.ensures.value ∙ ap (λ (x : Group g.row.T.Denot). x.chunks.items) w.deref.ensures in
          rw w.self-inside-is (subst (λ (ps : List (Placed g.row.T.Denot)). length (map (move next.start) (map (lengthen next.placed.now.grown) ps) ++ spread next.others) + length next.others < length (map (move at.base) (map (lengthen at.grown) at.chunks.now) ++ spread at.groups) + length at.groups) (sym list)
          (open_fewer rules at.base (map (lengthen at.grown) at.chunks.now) at.groups past.result next.start next.placed.now next.others past.ensures.last next.ensures.some))
      | else-place-start w ↦ rw w.self-inside-is (pass_fewer rules at.base (map (lengthen at.grown) at.chunks.now) at.groups past.result next.start next.placed.now next.others past.ensures.last next.ensures.some)
    ]

pub loop-first-preserved : goal.loop-first-preserved
loop-first-preserved g c =
    let rules = g.T.RangeValue.rules in
    let place = c.args.place in
    let at = c.loop-first.self-inside in
    let old = map (move c.self.inside.base) (map (lengthen c.self.inside.grown) c.self.inside.chunks.now) ++ spread c.self.inside.groups in
    let next = c.in-Some-split_first in
    let past = c.past_pages-self-inside in
    let none = c.in-None.ensures.cases in
    let entered = left_open rules at.base at.grown at.chunks.now past.result next.start next.placed.now next.others none next.ensures.some in
    let begun = subst (ArePassed place old) (left_passed rules at.base at.grown at.chunks.now at.groups none) c.loop-first.invariant.passed in
    let here = passed_both place old (spread at.groups) (spread past.result) begun past.ensures.passed in
    elim c.if-place-start.branch [
      | then-place-start w ↦
          let list : w.as_slice-self-inside.result.now ≡ next.placed.now.group.value.chunks.items = w.as_slice-self-inside.ensures.value ∙ ap (λ (x : Group g.row.T.Denot). x.chunks.items) w.deref.ensures in
          rw w.self-inside-is (record {
            passed = subst (ArePassed place old) (sym (left_passed rules at.base at.grown at.chunks.now past.result none) ∙ (entered.0 ∙ sym (ap (λ ps. map (move next.start) (map (lengthen next.placed.now.grown) ps) ++ spread next.others) list))) here;
            left = subst (λ (ps : List (Placed g.row.T.Denot)). AreChunks rules (map (move next.start) (map (lengthen next.placed.now.grown) ps))) (sym list) entered.1;
          })
      | else-place-start w ↦
          rw w.self-inside-is (record {
            passed = subst (ArePassed place old) (sym (left_passed rules at.base at.grown at.chunks.now next.others none))
                (passed_group rules place old past.result next.start next.placed.now next.others next.ensures.some (let e = c.reach-in-Some-split_first.ensures in let l = w.if-place-start.false in omega (arith, e, l)) here);
            left = c.loop-first.invariant.left;
          })
    ]
