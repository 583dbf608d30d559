use Rattle.std.proofs.Common.{◌≡◌, ◌+◌, ◌++◌, Bool, List, [], None, drop, filter, length, map, ap, subst, sym, refl, ◌∙◌, arith}
use Rattle.std.proofs.lemmas.List.{length-append}
use Rattle.stable_order.specs.StableSort.{stable_sort}
use Rattle.stable_order.proofs.StableSort.{length-stable_sort}
use Rattle.range_set.specs.Order.{AllForward, before, first_fault}
use Rattle.range_set.specs.PrivateChunks.{Ascend, content, flat, shift}
use Rattle.range_set.specs.PrivateBuilders.{built}
use Rattle.range_set.specs.Updating.{AnswersAs, updated}
use Rattle.range_set.specs.declared.chunk.Placed.{Placed}
use Rattle.range_set.specs.declared.ranged.Ranged.{Ranged}
use Rattle.range_set.proofs.Chunks.{chunk-at, length_shifted, rest_at}
use Rattle.range_set.proofs.RangeOrder.{forward-no_fault, rises-no_fault}
use Rattle.range_set.proofs.Updates.{IsUpdating, after_take, goes_after_take, goes_copy, goes_share, no_fault_done, nothing_left, updating_copy, updating_end, updating_init, updating_order, updating_share}
use Rattle.range_set.proofs.updating.updated_chunks.Goals as goal
use Rattle.range_set.proofs.updating.updated_chunks.Goals.{then-is_apart+then-stays_whole+in_ok-put_sorted+in_ok-share, else-is_apart+in_ok-keep_each}

pub loop-placed-init : goal.loop-placed-init
loop-placed-init g c =
    let rules = g.T.RangeValue.rules in
    let ps = c.args.chunks.now in
    let add = c.args.add.items in
    record {
      builder = c.new-builder.ensures.builder;
      updating = rw (c.new-builder.ensures.ranges, c.new-run.ensures.items, c.from_vec-added.ensures.items)
          (updating_init rules (flat ps) add (rises-no_fault rules (flat ps) c.requires.order) (rises-no_fault rules add c.requires.added)
          (forward-no_fault rules 0 None (flat ps) c.requires.order) (forward-no_fault rules 0 None add c.requires.added));
      goes = λ p a. rw (c.new-builder.ensures.ranges, c.new-run.ensures.items, c.from_vec-added.ensures.items) refl;
    }

pub take_before-requires : goal.take_before-requires
take_before-requires g c = (chunk-at g.T.RangeValue.rules c.args.chunks.now c.loop-placed.placed-index c.placed-item.result c.loop-placed-test.true c.placed-item.is c.requires.chunks).0

pub is_apart-requires : goal.is_apart-requires
is_apart-requires g c = (chunk-at g.T.RangeValue.rules c.args.chunks.now c.loop-placed.placed-index c.placed-item.result c.loop-placed-test.true c.placed-item.is c.requires.chunks).0

pub stays_whole-requires-clause-chunk : goal.stays_whole-requires-clause-chunk
stays_whole-requires-clause-chunk g c = (chunk-at g.T.RangeValue.rules c.args.chunks.now c.loop-placed.placed-index c.placed-item.result c.loop-placed-test.true c.placed-item.is c.requires.chunks).0

pub share-requires-clause-chunk : goal.share-requires-clause-chunk
share-requires-clause-chunk g c = (chunk-at g.T.RangeValue.rules c.args.chunks.now c.loop-placed.placed-index c.placed-item.result c.loop-placed-test.true c.placed-item.is c.requires.chunks).0

pub keep_each-requires-clause-chunk : goal.keep_each-requires-clause-chunk
keep_each-requires-clause-chunk g c = (chunk-at g.T.RangeValue.rules c.args.chunks.now c.loop-placed.placed-index c.placed-item.result c.loop-placed-test.true c.placed-item.is c.requires.chunks).0

pub share-requires-clause-some : goal.share-requires-clause-some
share-requires-clause-some g c = (chunk-at g.T.RangeValue.rules c.args.chunks.now c.loop-placed.placed-index c.placed-item.result c.loop-placed-test.true c.placed-item.is c.requires.chunks).1

pub put_sorted-requires-clause-order : goal.put_sorted-requires-clause-order
put_sorted-requires-clause-order g c =
    let rules = g.T.RangeValue.rules in
    let ps = c.args.chunks.now in
    let p = c.placed-item.result in
    let i = c.loop-placed.placed-index in
    let rest = flat (drop (i + 1) ps) in
    let done = built c.loop-placed.builder in
    let run = c.loop-placed.run.items in
    let added = c.loop-placed.added.items in
    let chunk = map (shift p.start) (content p).ranges in
    let most = length (flat ps) + length c.args.add.items in
    let new_run = c.take_before.new.run.items in
    let new_added = c.take_before.new.added.items in
    let is = rest_at ps i p c.loop-placed-test.true c.placed-item.is in
    let here = subst (λ (qs : List (Placed g.row.T.Denot)). IsUpdating rules most done run (flat qs) added) is c.loop-placed.invariant.updating in
    let up = after_take rules most done run chunk rest added new_run new_added here c.in_ok-take_before.ensures in
    updating_order rules most done new_run (chunk ++ rest) new_added up

pub put_sorted-requires-clause-forward : goal.put_sorted-requires-clause-forward
put_sorted-requires-clause-forward g c =
    let rules = g.T.RangeValue.rules in
    let ps = c.args.chunks.now in
    let p = c.placed-item.result in
    let i = c.loop-placed.placed-index in
    let rest = flat (drop (i + 1) ps) in
    let done = built c.loop-placed.builder in
    let run = c.loop-placed.run.items in
    let added = c.loop-placed.added.items in
    let chunk = map (shift p.start) (content p).ranges in
    let most = length (flat ps) + length c.args.add.items in
    let new_run = c.take_before.new.run.items in
    let new_added = c.take_before.new.added.items in
    let is = rest_at ps i p c.loop-placed-test.true c.placed-item.is in
    let here = subst (λ (qs : List (Placed g.row.T.Denot)). IsUpdating rules most done run (flat qs) added) is c.loop-placed.invariant.updating in
    let up = after_take rules most done run chunk rest added new_run new_added here c.in_ok-take_before.ensures in
    up.run_forward

pub loop-placed-preserved : goal.loop-placed-preserved
loop-placed-preserved g c =
    let rules = g.T.RangeValue.rules in
    let ps = c.args.chunks.now in
    let p = c.placed-item.result in
    let i = c.loop-placed.placed-index in
    let rest = flat (drop (i + 1) ps) in
    let done = built c.loop-placed.builder in
    let run = c.loop-placed.run.items in
    let added = c.loop-placed.added.items in
    let chunk = map (shift p.start) (content p).ranges in
    let most = length (flat ps) + length c.args.add.items in
    let new_run = c.take_before.new.run.items in
    let new_added = c.take_before.new.added.items in
    let is = rest_at ps i p c.loop-placed-test.true c.placed-item.is in
    let here = subst (λ (qs : List (Placed g.row.T.Denot)). IsUpdating rules most done run (flat qs) added) is c.loop-placed.invariant.updating in
    let up = after_take rules most done run chunk rest added new_run new_added here c.in_ok-take_before.ensures in
    let whole : (Ranged g.row.T.Denot → Bool) → List (Ranged g.row.T.Denot) = λ q. updated rules q (flat ps) c.args.add.items in
    let goes : (q : Ranged g.row.T.Denot → Bool) → AnswersAs g.F.Fn c.args.keep.now q → whole q ≡ done ++ stable_sort (before rules) (new_run ++ (filter q (chunk ++ rest) ++ new_added)) =
    λ q a. goes_after_take rules q (whole q) done run chunk rest added new_run new_added here.later_rises c.in_ok-take_before.ensures
    (subst (λ (qs : List (Placed g.row.T.Denot)). whole q ≡ done ++ stable_sort (before rules) (run ++ (filter q (flat qs) ++ added))) is (c.loop-placed.invariant.goes q a)) in
    elim c.if-is_apart.branch [
      | then-is_apart+then-stays_whole+in_ok-put_sorted+in_ok-share w ↦
          let beyond = c.is_apart.ensures w.if-is_apart.true in
          let len = length_shifted rules p.start (content p).ranges in
          let many = (chunk-at rules ps i p c.loop-placed-test.true c.placed-item.is c.requires.chunks).1 in
          let more = w.in_ok-share.ensures.ranges ∙ ap (λ xs. xs ++ chunk) w.in_ok-put_sorted.ensures.ranges in
          record {
            builder = rw w.builder-is w.in_ok-share.ensures.builder;
            updating = rw (w.builder-is, w.run-is, w.in_ok-put_sorted.ensures.none)
                (subst (λ xs. IsUpdating rules most xs [] rest new_added) (sym more) (updating_share rules most done new_run chunk rest new_added (omega (arith, len, many)) up beyond));
            goes = λ q a. rw (w.builder-is, w.run-is, w.in_ok-put_sorted.ensures.none)
                (subst (λ xs. whole q ≡ xs ++ stable_sort (before rules) (filter q rest ++ new_added)) (sym more)
                (goes_share rules q most (whole q) done new_run chunk rest new_added (omega (arith, len, many)) up beyond (w.stays_whole.ensures q a w.if-stays_whole.true) (goes q a)));
          }
      | else-is_apart+in_ok-keep_each w ↦
          record {
            builder = rw w.builder-is c.loop-placed.invariant.builder;
            updating = rw (w.builder-is, w.run-is) (updating_copy rules most done new_run w.keep_each.new.run.items chunk rest new_added up w.in_ok-keep_each.ensures.part);
            goes = λ q a. rw (w.builder-is, w.run-is)
                (goes_copy rules q (whole q) done new_run w.keep_each.new.run.items chunk rest new_added (w.in_ok-keep_each.ensures.kept q a) (goes q a));
          }
    ]

pub put_sorted-requires-2-clause-order : goal.put_sorted-requires-2-clause-order
put_sorted-requires-2-clause-order g c =
    let rules = g.T.RangeValue.rules in
    let ps = c.args.chunks.now in
    let i = c.loop-placed.placed-index in
    let done = built c.loop-placed.builder in
    let run = c.loop-placed.run.items in
    let added = c.loop-placed.added.items in
    let most = length (flat ps) + length c.args.add.items in
    let none = nothing_left ps i c.loop-placed-test.false in
    let up = updating_end rules most done run added (subst (λ (qs : List (Placed g.row.T.Denot)). IsUpdating rules most done run (flat qs) added) none c.loop-placed.invariant.updating) in
    let all = c.in_ok-append.ensures.items ∙ ap (λ xs. run ++ xs) c.from-others.ensures.0 in
    subst (λ xs. Ascend 0 (done ++ stable_sort (before rules) xs)) (sym all) (updating_order rules most done (run ++ added) [] [] up)

pub put_sorted-requires-2-clause-forward : goal.put_sorted-requires-2-clause-forward
put_sorted-requires-2-clause-forward g c =
    let rules = g.T.RangeValue.rules in
    let ps = c.args.chunks.now in
    let i = c.loop-placed.placed-index in
    let done = built c.loop-placed.builder in
    let run = c.loop-placed.run.items in
    let added = c.loop-placed.added.items in
    let most = length (flat ps) + length c.args.add.items in
    let none = nothing_left ps i c.loop-placed-test.false in
    let up = updating_end rules most done run added (subst (λ (qs : List (Placed g.row.T.Denot)). IsUpdating rules most done run (flat qs) added) none c.loop-placed.invariant.updating) in
    let all = c.in_ok-append.ensures.items ∙ ap (λ xs. run ++ xs) c.from-others.ensures.0 in
    subst AllForward (sym all) up.run_forward

pub returns-clause-order : goal.returns-clause-order
returns-clause-order g c =
    let rules = g.T.RangeValue.rules in
    let ps = c.args.chunks.now in
    let i = c.loop-placed.placed-index in
    let done = built c.loop-placed.builder in
    let run = c.loop-placed.run.items in
    let added = c.loop-placed.added.items in
    let most = length (flat ps) + length c.args.add.items in
    let none = nothing_left ps i c.loop-placed-test.false in
    let up = updating_end rules most done run added (subst (λ (qs : List (Placed g.row.T.Denot)). IsUpdating rules most done run (flat qs) added) none c.loop-placed.invariant.updating) in
    let all = c.in_ok-append.ensures.items ∙ ap (λ xs. run ++ xs) c.from-others.ensures.0 in
    let sorted = c.in_ok-put_sorted-2.ensures.ranges ∙ ap (λ xs. done ++ stable_sort (before rules) xs) all in
    ap (first_fault rules) (c.finish.ensures.ranges ∙ sorted) ∙ no_fault_done rules most done (run ++ added) [] [] up

pub returns-clause-few : goal.returns-clause-few
returns-clause-few g c =
    let rules = g.T.RangeValue.rules in
    let ps = c.args.chunks.now in
    let i = c.loop-placed.placed-index in
    let done = built c.loop-placed.builder in
    let run = c.loop-placed.run.items in
    let added = c.loop-placed.added.items in
    let most = length (flat ps) + length c.args.add.items in
    let none = nothing_left ps i c.loop-placed-test.false in
    let up = updating_end rules most done run added (subst (λ (qs : List (Placed g.row.T.Denot)). IsUpdating rules most done run (flat qs) added) none c.loop-placed.invariant.updating) in
    let all = c.in_ok-append.ensures.items ∙ ap (λ xs. run ++ xs) c.from-others.ensures.0 in
    let sorted = c.in_ok-put_sorted-2.ensures.ranges ∙ ap (λ xs. done ++ stable_sort (before rules) xs) all in
    let m = length-append done (stable_sort (before rules) (run ++ added)) in
    let k = length-stable_sort (before rules) (run ++ added) in
    let room = up.room in
    let n = ap length (c.finish.ensures.ranges ∙ sorted) in
    omega (arith, n, m, k, room)

pub returns-clause-ranges : goal.returns-clause-ranges
returns-clause-ranges g c =
    let rules = g.T.RangeValue.rules in
    let ps = c.args.chunks.now in
    let i = c.loop-placed.placed-index in
    let done = built c.loop-placed.builder in
    let run = c.loop-placed.run.items in
    let added = c.loop-placed.added.items in
    let most = length (flat ps) + length c.args.add.items in
    let none = nothing_left ps i c.loop-placed-test.false in
    let up = updating_end rules most done run added (subst (λ (qs : List (Placed g.row.T.Denot)). IsUpdating rules most done run (flat qs) added) none c.loop-placed.invariant.updating) in
    let all = c.in_ok-append.ensures.items ∙ ap (λ xs. run ++ xs) c.from-others.ensures.0 in
    let sorted = c.in_ok-put_sorted-2.ensures.ranges ∙ ap (λ xs. done ++ stable_sort (before rules) xs) all in
    λ q a. c.finish.ensures.ranges ∙ (sorted ∙ sym (subst (λ (qs : List (Placed g.row.T.Denot)). updated rules q (flat ps) c.args.add.items ≡ done ++ stable_sort (before rules) (run ++ (filter q (flat qs) ++ added))) none (c.loop-placed.invariant.goes q a)))
