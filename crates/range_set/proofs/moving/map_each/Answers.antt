use Rattle.std.proofs.Common.{◌≡◌, ◌+◌, List, [], ◌++◌, map, refl, ap, subst, sym, ◌∙◌, arith}
use Rattle.std.proofs.lemmas.List.{append-nil}
use Rattle.std.specs.List.{cons_option}
use Rattle.change_desc.specs.Sections.{old_size}
use Rattle.range_set.specs.declared.chunk.Chunk.{Chunk}
use Rattle.range_set.specs.declared.ranged.Ranged.{Ranged}
use Rattle.range_set.specs.Mapping.{moved}
use Rattle.range_set.specs.PrivateChunks.{Ascend, grow, shift, stretch}
use Rattle.range_set.specs.PrivateMoving.{AreMoved, AreWithin}
use Rattle.range_set.proofs.Chunks.{ascend-less}
use Rattle.range_set.proofs.Clear.{Sections}
use Rattle.range_set.proofs.Each.{FirstBy, first_from}
use Rattle.range_set.proofs.MovedRuns.{ascend_left, chunk_within, first_least, first_left, moved_more, moved_none, moved_on, within_rest}
use Rattle.range_set.proofs.moving.map_each.Goals as goal
use Rattle.range_set.proofs.moving.map_each.Goals.{in-Some-2+in_ok-push-in-Some-2, in-None}

pub loop-first-init : goal.loop-first-init
loop-first-init g c =
    let rules = g.T.RangeValue.rules in
    let d = c.args.walk.now.walker.desc in
    let start = c.args.start in
    let by = c.args.grown in
    let items = (stretch c.args.grown c.args.chunk.now.value).ranges in
    let run = c.args.run.now.items in
    let count = c.args.mapped.now in
    let is = ap (map (grow by)) (c.as_slice-rest.ensures.value ∙ ap (λ (ch : Chunk g.row.T.Denot). ch.ranges.items) c.deref-2.ensures) in
    record {
      moved = subst (λ (rs : List (Ranged g.row.T.Denot)). AreMoved rules d start items rs run c.reserve.new.list.items count count) (sym is)
          (subst (λ (rs : List (Ranged g.row.T.Denot)). AreMoved rules d start items items run rs count count) (sym c.reserve.ensures) (moved_none rules d start items run count));
      within = subst (AreWithin (old_size d) start) (sym is) (chunk_within rules (old_size d) start (stretch c.args.grown c.args.chunk.now.value) c.requires.chunk c.requires.inside);
      desc = refl;
      walk = λ later h. subst (λ (rs : List (Ranged g.row.T.Denot)). Ascend c.args.walk.now.walker.reached (map (shift start) rs ++ later)) (sym is) h;
      clear = c.requires.walk;
      begin = c.requires.order;
      same = λ a b f. c.requires.same a b (first_from start a items (subst (λ (rs : List (Ranged g.row.T.Denot)). FirstBy a (map (shift start) rs)) is f));
    }

pub moved_among-requires-clause-ascending : goal.moved_among-requires-clause-ascending
moved_among-requires-clause-ascending g c =
    let start = c.args.start in
    let items = (stretch c.args.grown c.args.chunk.now.value).ranges in
    let first = c.args.walk.now.walker.reached in
    let all = c.loop-first.invariant.walk [] (subst (Ascend first) (sym (append-nil (map (shift start) items))) c.requires.ascending) in
    (subst (λ (rs : List (Ranged g.row.T.Denot)). Ascend c.loop-first.walk.walker.reached (map (shift start) rs ++ [])) (ap (map (grow c.args.grown)) c.in-Some.ensures.cases.0) all).0

pub loop-first-preserved : goal.loop-first-preserved
loop-first-preserved g c =
    let rules = g.T.RangeValue.rules in
    let d = c.args.walk.now.walker.desc in
    let start = c.args.start in
    let items = (stretch c.args.grown c.args.chunk.now.value).ranges in
    let first = c.args.walk.now.walker.reached in
    let before = c.loop-first.invariant in
    let by = c.args.grown in
    let r = grow by c.in-Some.first.now in
    let others = map (grow by) c.in-Some.others.now in
    let rest = map (grow by) c.in_ok-rest.rest.now in
    let old = c.loop-first.walk.walker.reached in
    let new = c.moved_among.new.walk.walker.reached in
    let run = c.args.run.now.items in
    let count = c.args.mapped.now in
    let is = ap (map (grow by)) c.in-Some.ensures.cases.0 in
    let desc = c.moved_among.ensures.desc ∙ before.desc in
    let o = c.in_ok-moved.ensures.value ∙ ap (λ s. moved rules s (shift start r)) before.desc in
    let more : c.match-branch-3.run.items ≡ c.loop-first.run.items ++ cons_option c.in_ok-moved.field-0 [] = elim c.match-branch-3.branch [
      | in-Some-2+in_ok-push-in-Some-2 w ↦ ap (λ v. v.items) w.run-is ∙ (w.in_ok-push-in-Some-2.ensures.items ∙ ap (λ o. c.loop-first.run.items ++ cons_option o []) (sym w.in-Some-2.is))
      | in-None w ↦ ap (λ v. v.items) w.run-is ∙ (sym (append-nil c.loop-first.run.items) ∙ ap (λ o. c.loop-first.run.items ++ cons_option o []) (sym w.in-None.is))
    ] in
    let so_far = subst (λ (rs : List (Ranged g.row.T.Denot)). AreMoved rules d start items rs run c.loop-first.run.items count c.loop-first.mapped) is before.moved in
    let counted = c.tick.ensures in
    let here = moved_more rules d start items others run c.loop-first.run.items c.match-branch-3.run.items r c.in_ok-moved.field-0 count c.loop-first.mapped c.tick.new.self so_far o more (omega (arith, counted)) in
    let on = subst (λ (s : Sections). AreMoved rules s start others rest c.match-branch-3.run.items c.move_clear.new.run.items c.tick.new.self c.move_clear.new.mapped) desc c.in_ok-rest.ensures.moved in
    let within = subst (AreWithin (old_size d) start) is before.within in
    let all = before.walk [] (subst (Ascend first) (sym (append-nil (map (shift start) items))) c.requires.ascending) in
    let order = (subst (λ (rs : List (Ranged g.row.T.Denot)). Ascend old (map (shift start) rs ++ [])) is all).1 in
    record {
      moved = moved_on rules d start items others rest run c.match-branch-3.run.items c.move_clear.new.run.items count c.tick.new.self c.move_clear.new.mapped here on;
      within = within_rest (old_size d) start on.taken rest (subst (AreWithin (old_size d) start) on.is within.1);
      desc = desc;
      walk = λ later h.
          let left = (subst (λ (rs : List (Ranged g.row.T.Denot)). Ascend old (map (shift start) rs ++ later)) is (before.walk later h)).1 in
          ascend_left new start on.taken rest later
          (subst (λ (rs : List (Ranged g.row.T.Denot)). Ascend new (map (shift start) rs ++ later)) on.is
          (ascend-less new (r.from + start) (map (shift start) others ++ later) c.moved_among.ensures.reached left));
      clear = c.moved_among.ensures.walk;
      begin = c.ranges_from-left.ensures.order;
      same = λ a b f.
          let next = subst (λ (rs : List (Ranged g.row.T.Denot)). FirstBy a (map (shift start) rs)) (sym on.is)
          (first_left (r.from + start) start a on.taken rest (subst (λ (rs : List (Ranged g.row.T.Denot)). Ascend (r.from + start) (map (shift start) rs ++ [])) on.is order) f) in
          let from = first_least (r.from + start) a (map (shift start) others) order next in
          c.ranges_from-left.ensures.same a b from ∙ before.same a b (subst (λ (rs : List (Ranged g.row.T.Denot)). FirstBy a (map (shift start) rs)) (sym is) from);
    }
