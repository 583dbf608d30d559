-- What a group of one long range asks.
use Rattle.std.proofs.Common.{List, [], cond, ◌+◌, ◌<◌, ◌++◌, map, filter_map, length, Some, ap, subst, sym, ◌∙◌, arith}
use Rattle.std.proofs.lemmas.List.{length-append}
use Rattle.std.specs.Prelude.{IfSome}
use Rattle.std.specs.List.{list_any}
use Rattle.change_desc.specs.Ranges.{meets, replaced}
use Rattle.change_desc.specs.Sections.{old_size}
use Rattle.stable_order.specs.StableSort.{stable_sort}
use Rattle.range_set.specs.Order.{before}
use Rattle.range_set.specs.Mapping.{moved}
use Rattle.range_set.specs.PrivateChunks.{AreGroups, Ascend, flat, group_content, move, put_at, shift, spread}
use Rattle.range_set.specs.PrivateMoving.{IsGroupMovedAlone}
use Rattle.range_set.specs.PrivateBuilders.{put_down}
use Rattle.range_set.specs.declared.ranged.Ranged.{Ranged}
use Rattle.range_set.proofs.Chunks.{ascend-prefix, length_shifted}
use Rattle.range_set.proofs.Clear.{Sections}
use Rattle.range_set.proofs.Cost.{allowance, allowed}
use Rattle.range_set.proofs.Each.{Within, end_within}
use Rattle.range_set.proofs.Groups.{are_spread, flat-spread}
use Rattle.range_set.proofs.GroupsAlone.{has_one, image_length, image_ranges, one_affected, walked_one}
use Rattle.range_set.proofs.RangeOrder.{rises-no_fault}
use Rattle.range_set.proofs.Under.{rises_ascend}
use Rattle.range_set.proofs.Walked.{IsWalked, alone_order, ascend_from, ascend_hull, ascend_more, run_forward, walked_alone, walked_each, walked_less, within_prefix}
use Rattle.range_set.proofs.WalkedGroups.{starts_at}
use Rattle.range_set.proofs.moving.map_all.Goals as goal

pub moved_alone-requires-else-placed-eq0-clause-same : goal.moved_alone-requires-else-placed-eq0-clause-same
moved_alone-requires-else-placed-eq0-clause-same g c = λ a b m.
    let rules = g.T.RangeValue.rules in
    let d = c.args.changes.now in
    let gs = c.args.groups in
    let whole = flat (spread gs) in
    let p = put_at c.in-Some.at c.in-Some.placed.now in
    let others = c.in-Some.others in
    let later = spread others in
    let done = put_down c.loop-at.builder in
    let run = c.loop-at.builder.run.items in
    let reached = c.loop-at.walk.walker.reached in
    let reps = c.loop-at.left.now in
    let after = c.ranges_from-left.result.now in
    let kept = c.loop-at.invariant in
    let met = c.ranges_from-left.ensures.same in
    let ranges = flat (group_content p).chunks in
    let groups = subst (AreGroups rules) c.in-Some.ensures.some.is kept.groups in
    let walked = subst (λ hs. IsWalked rules d whole (spread hs) done run reached reps) c.in-Some.ensures.some.is kept.walked in
    met a b m ∙ (walked.same a b (starts_at rules d p others a groups.0.0 groups.0.1 m) ∙ ap (λ (x : Sections). list_any (meets a b) (replaced x)) (sym kept.desc))

pub moved_alone-requires-else-placed-eq0-clause-inside : goal.moved_alone-requires-else-placed-eq0-clause-inside
moved_alone-requires-else-placed-eq0-clause-inside g c =
    let rules = g.T.RangeValue.rules in
    let d = c.args.changes.now in
    let gs = c.args.groups in
    let whole = flat (spread gs) in
    let p = put_at c.in-Some.at c.in-Some.placed.now in
    let others = c.in-Some.others in
    let later = spread others in
    let done = put_down c.loop-at.builder in
    let run = c.loop-at.builder.run.items in
    let reached = c.loop-at.walk.walker.reached in
    let reps = c.loop-at.left.now in
    let after = c.ranges_from-left.result.now in
    let kept = c.loop-at.invariant in
    let met = c.ranges_from-left.ensures.same in
    let ranges = flat (group_content p).chunks in
    let groups = subst (AreGroups rules) c.in-Some.ensures.some.is kept.groups in
    let walked = subst (λ hs. IsWalked rules d whole (spread hs) done run reached reps) c.in-Some.ensures.some.is kept.walked in
    end_within (old_size c.loop-at.walk.walker.desc) (map (shift p.start) ranges)
    (subst (λ (s : Sections). Within (old_size s) (map (shift p.start) ranges)) (sym kept.desc)
    (within_prefix (old_size d) (map (shift p.start) ranges) (flat later) (subst (Within (old_size d)) (flat-spread p others) walked.within)))

pub moved_alone-requires-else-placed-eq0-clause-ascending : goal.moved_alone-requires-else-placed-eq0-clause-ascending
moved_alone-requires-else-placed-eq0-clause-ascending g c =
    let rules = g.T.RangeValue.rules in
    let d = c.args.changes.now in
    let gs = c.args.groups in
    let whole = flat (spread gs) in
    let p = put_at c.in-Some.at c.in-Some.placed.now in
    let others = c.in-Some.others in
    let later = spread others in
    let done = put_down c.loop-at.builder in
    let run = c.loop-at.builder.run.items in
    let reached = c.loop-at.walk.walker.reached in
    let reps = c.loop-at.left.now in
    let after = c.ranges_from-left.result.now in
    let kept = c.loop-at.invariant in
    let met = c.ranges_from-left.ensures.same in
    let ranges = flat (group_content p).chunks in
    let groups = subst (AreGroups rules) c.in-Some.ensures.some.is kept.groups in
    let walked = subst (λ hs. IsWalked rules d whole (spread hs) done run reached reps) c.in-Some.ensures.some.is kept.walked in
    (ascend_hull reached p.start ranges (flat later) groups.0.1 groups.0.0.first (subst (Ascend reached) (flat-spread p others) walked.ascend)).0

pub returns-in_err-long-clause-cost : goal.returns-in_err-long-clause-cost
returns-in_err-long-clause-cost g c =
    let rules = g.T.RangeValue.rules in
    let d = c.args.changes.now in
    let gs = c.args.groups in
    let whole = flat (spread gs) in
    let p = put_at c.in-Some.at c.in-Some.placed.now in
    let others = c.in-Some.others in
    let later = spread others in
    let done = put_down c.loop-at.builder in
    let run = c.loop-at.builder.run.items in
    let reached = c.loop-at.walk.walker.reached in
    let reps = c.loop-at.left.now in
    let after = c.ranges_from-left.result.now in
    let kept = c.loop-at.invariant in
    let met = c.ranges_from-left.ensures.same in
    let ranges = flat (group_content p).chunks in
    let groups = subst (AreGroups rules) c.in-Some.ensures.some.is kept.groups in
    let walked = subst (λ hs. IsWalked rules d whole (spread hs) done run reached reps) c.in-Some.ensures.some.is kept.walked in
    let top = allowed rules d 0 (spread gs) (are_spread rules gs c.requires.groups) (rises_ascend rules (flat (spread gs)) (rises-no_fault rules (flat (spread gs)) c.requires.order)) in
    let spent = kept.cost in
    omega (arith, top, spent)

pub put_group-requires-clause-order : goal.put_group-requires-clause-order
put_group-requires-clause-order g c =
    let rules = g.T.RangeValue.rules in
    let d = c.args.changes.now in
    let gs = c.args.groups in
    let whole = flat (spread gs) in
    let p = put_at c.in-Some.at c.in-Some.placed.now in
    let others = c.in-Some.others in
    let later = spread others in
    let done = put_down c.loop-at.builder in
    let run = c.loop-at.builder.run.items in
    let reached = c.loop-at.walk.walker.reached in
    let reps = c.loop-at.left.now in
    let after = c.ranges_from-left.result.now in
    let kept = c.loop-at.invariant in
    let met = c.ranges_from-left.ensures.same in
    let ranges = flat (group_content p).chunks in
    let groups = subst (AreGroups rules) c.in-Some.ensures.some.is kept.groups in
    let walked = subst (λ hs. IsWalked rules d whole (spread hs) done run reached reps) c.in-Some.ensures.some.is kept.walked in
    let new = c.in-Some-3.long in
    let told : IfSome (Some new) (λ x. IsGroupMovedAlone rules c.loop-at.walk.walker.desc p.start (group_content p) x.start (group_content x)) =
    subst (λ o. IfSome o (λ x. IsGroupMovedAlone rules c.loop-at.walk.walker.desc p.start (group_content p) x.start (group_content x))) c.in-Some-3.is c.in_ok-long.ensures.moved in
    let alone = subst (λ (s : Sections). IsGroupMovedAlone rules s p.start (group_content p) new.start (group_content new)) kept.desc told in
    let q = alone.chunk in
    let one = alone.one in
    let here = subst (λ qs. IsWalked rules d whole (map (move p.start) qs ++ later) done run reached reps) one walked in
    let lone = walked_one rules p q groups.0.0 one in
    let same_start = lone.start in
    alone_order rules d whole (move p.start q) (move new.start alone.image) later done run reached reps here alone.alone

pub put_group-requires-clause-forward : goal.put_group-requires-clause-forward
put_group-requires-clause-forward g c =
    let gs = c.args.groups in
    run_forward g.T.RangeValue.rules c.args.changes.now (flat (spread gs)) (put_down c.loop-at.builder) c.loop-at.builder.run.items (flat (spread c.loop-at.rest)) c.loop-at.invariant.walked.under

pub put_group-requires-clause-room : goal.put_group-requires-clause-room
put_group-requires-clause-room g c =
    let rules = g.T.RangeValue.rules in
    let d = c.args.changes.now in
    let gs = c.args.groups in
    let whole = flat (spread gs) in
    let p = put_at c.in-Some.at c.in-Some.placed.now in
    let others = c.in-Some.others in
    let later = spread others in
    let done = put_down c.loop-at.builder in
    let run = c.loop-at.builder.run.items in
    let reached = c.loop-at.walk.walker.reached in
    let reps = c.loop-at.left.now in
    let after = c.ranges_from-left.result.now in
    let kept = c.loop-at.invariant in
    let met = c.ranges_from-left.ensures.same in
    let ranges = flat (group_content p).chunks in
    let groups = subst (AreGroups rules) c.in-Some.ensures.some.is kept.groups in
    let walked = subst (λ hs. IsWalked rules d whole (spread hs) done run reached reps) c.in-Some.ensures.some.is kept.walked in
    let new = c.in-Some-3.long in
    let told : IfSome (Some new) (λ x. IsGroupMovedAlone rules c.loop-at.walk.walker.desc p.start (group_content p) x.start (group_content x)) =
    subst (λ o. IfSome o (λ x. IsGroupMovedAlone rules c.loop-at.walk.walker.desc p.start (group_content p) x.start (group_content x))) c.in-Some-3.is c.in_ok-long.ensures.moved in
    let alone = subst (λ (s : Sections). IsGroupMovedAlone rules s p.start (group_content p) new.start (group_content new)) kept.desc told in
    let q = alone.chunk in
    let one = alone.one in
    let n = image_length rules d p.start (group_content p) new.start (group_content new) alone in
    let m = ap length (flat-spread p others) ∙ length-append (map (shift p.start) ranges) (flat later) in
    let l = length_shifted rules p.start ranges in
    let some = groups.0.1 in
    let a = walked.under.room in
    let b = c.requires.room in
    omega (arith, n, m, l, some, a, b)

pub loop-at-preserved-in-Continue-branch-12 : goal.loop-at-preserved-in-Continue-branch-12
loop-at-preserved-in-Continue-branch-12 g c =
    let rules = g.T.RangeValue.rules in
    let d = c.args.changes.now in
    let gs = c.args.groups in
    let whole = flat (spread gs) in
    let p = put_at c.in-Some.at c.in-Some.placed.now in
    let others = c.in-Some.others in
    let later = spread others in
    let done = put_down c.loop-at.builder in
    let run = c.loop-at.builder.run.items in
    let reached = c.loop-at.walk.walker.reached in
    let reps = c.loop-at.left.now in
    let after = c.ranges_from-left.result.now in
    let kept = c.loop-at.invariant in
    let met = c.ranges_from-left.ensures.same in
    let ranges = flat (group_content p).chunks in
    let groups = subst (AreGroups rules) c.in-Some.ensures.some.is kept.groups in
    let walked = subst (λ hs. IsWalked rules d whole (spread hs) done run reached reps) c.in-Some.ensures.some.is kept.walked in
    let grown : 0 < p.grown = let k = c.if-placed-eq0.false in omega (arith, k) in
    let new = c.in-Some-3.long in
    let told : IfSome (Some new) (λ x. IsGroupMovedAlone rules c.loop-at.walk.walker.desc p.start (group_content p) x.start (group_content x)) =
    subst (λ o. IfSome o (λ x. IsGroupMovedAlone rules c.loop-at.walk.walker.desc p.start (group_content p) x.start (group_content x))) c.in-Some-3.is c.in_ok-long.ensures.moved in
    let alone = subst (λ (s : Sections). IsGroupMovedAlone rules s p.start (group_content p) new.start (group_content new)) kept.desc told in
    let q = alone.chunk in
    let one = alone.one in
    let here = subst (λ qs. IsWalked rules d whole (map (move p.start) qs ++ later) done run reached reps) one walked in
    let lone = walked_one rules p q groups.0.0 one in
    let same_start = lone.start in
    let affected = one_affected rules d whole p q later done run reached reps after lone here met (c.is_opened.ensures.affected c.if-is_opened.true grown) in
    let spent = kept.cost in
    let at = ap (λ hs. allowance rules d (spread hs)) c.in-Some.ensures.some.is in
    let chunk = ap (λ qs. allowance rules d (map (move p.start) qs ++ later)) one in
    let share = ap (λ x. cond x 128 0 + allowance rules d later) (sym affected) in
    let put = put_down c.put_group.new.self in
    let walk = c.moved_alone-else-placed-eq0.new.walk.walker.reached in
    let each = c.tick-in-Some-3.ensures in
    let more = c.in_ok-put_group.ensures.ranges ∙ ap (λ rs. done ++ stable_sort (before rules) run ++ rs) (image_ranges rules d p.start (group_content p) new.start (group_content new) alone) in
    let next = walked_alone rules d whole (move p.start q) (move new.start alone.image) later done run put reached reps after here (λ a b m. met a b (omega (arith, same_start, m))) alone.alone more in
    record {
      builder = c.in_ok-put_group.ensures.builder;
      groups = groups.1;
      walked = subst (λ rs. IsWalked rules d whole later put rs walk after) (sym c.in_ok-put_group.ensures.none)
          (walked_less rules d whole later put [] walk (q.start + p.start) after (let l = c.in_ok-long.ensures.reached in omega (arith, l, same_start)) next);
      desc = c.in_ok-long.ensures.desc ∙ kept.desc;
      clear = c.in_ok-long.ensures.clear;
      begin = c.ranges_from-left.ensures.order;
      cost = omega (arith, spent, at, chunk, share, each);
    }

pub returns-in_err-put_group-clause-cost : goal.returns-in_err-put_group-clause-cost
returns-in_err-put_group-clause-cost g c =
    let rules = g.T.RangeValue.rules in
    let d = c.args.changes.now in
    let gs = c.args.groups in
    let whole = flat (spread gs) in
    let p = put_at c.in-Some.at c.in-Some.placed.now in
    let others = c.in-Some.others in
    let later = spread others in
    let done = put_down c.loop-at.builder in
    let run = c.loop-at.builder.run.items in
    let reached = c.loop-at.walk.walker.reached in
    let reps = c.loop-at.left.now in
    let after = c.ranges_from-left.result.now in
    let kept = c.loop-at.invariant in
    let met = c.ranges_from-left.ensures.same in
    let ranges = flat (group_content p).chunks in
    let groups = subst (AreGroups rules) c.in-Some.ensures.some.is kept.groups in
    let walked = subst (λ hs. IsWalked rules d whole (spread hs) done run reached reps) c.in-Some.ensures.some.is kept.walked in
    let grown : 0 < p.grown = let k = c.if-placed-eq0.false in omega (arith, k) in
    let only = has_one rules p groups.0.0 groups.0.1 grown in
    let q = only.chunk in
    let one = only.one in
    let here = subst (λ qs. IsWalked rules d whole (map (move p.start) qs ++ later) done run reached reps) one walked in
    let lone = walked_one rules p q groups.0.0 one in
    let same_start = lone.start in
    let affected = one_affected rules d whole p q later done run reached reps after lone here met (c.is_opened.ensures.affected c.if-is_opened.true grown) in
    let spent = kept.cost in
    let at = ap (λ hs. allowance rules d (spread hs)) c.in-Some.ensures.some.is in
    let chunk = ap (λ qs. allowance rules d (map (move p.start) qs ++ later)) one in
    let share = ap (λ x. cond x 128 0 + allowance rules d later) (sym affected) in
    let top = allowed rules d 0 (spread gs) (are_spread rules gs c.requires.groups) (rises_ascend rules (flat (spread gs)) (rises-no_fault rules (flat (spread gs)) c.requires.order)) in
    let each = c.tick-in-Some-3.ensures in
    omega (arith, top, spent, at, chunk, share, each)

pub map_only-requires-clause-same : goal.map_only-requires-clause-same
map_only-requires-clause-same g c = λ a b m.
    let rules = g.T.RangeValue.rules in
    let d = c.args.changes.now in
    let gs = c.args.groups in
    let whole = flat (spread gs) in
    let p = put_at c.in-Some.at c.in-Some.placed.now in
    let others = c.in-Some.others in
    let later = spread others in
    let done = put_down c.loop-at.builder in
    let run = c.loop-at.builder.run.items in
    let reached = c.loop-at.walk.walker.reached in
    let reps = c.loop-at.left.now in
    let after = c.ranges_from-left.result.now in
    let kept = c.loop-at.invariant in
    let met = c.ranges_from-left.ensures.same in
    let ranges = flat (group_content p).chunks in
    let groups = subst (AreGroups rules) c.in-Some.ensures.some.is kept.groups in
    let walked = subst (λ hs. IsWalked rules d whole (spread hs) done run reached reps) c.in-Some.ensures.some.is kept.walked in
    met a b m ∙ (walked.same a b (starts_at rules d p others a groups.0.0 groups.0.1 m) ∙ ap (λ (x : Sections). list_any (meets a b) (replaced x)) (sym (c.in_ok-long.ensures.desc ∙ kept.desc)))

pub map_only-requires-clause-inside : goal.map_only-requires-clause-inside
map_only-requires-clause-inside g c =
    let rules = g.T.RangeValue.rules in
    let d = c.args.changes.now in
    let gs = c.args.groups in
    let whole = flat (spread gs) in
    let p = put_at c.in-Some.at c.in-Some.placed.now in
    let others = c.in-Some.others in
    let later = spread others in
    let done = put_down c.loop-at.builder in
    let run = c.loop-at.builder.run.items in
    let reached = c.loop-at.walk.walker.reached in
    let reps = c.loop-at.left.now in
    let after = c.ranges_from-left.result.now in
    let kept = c.loop-at.invariant in
    let met = c.ranges_from-left.ensures.same in
    let ranges = flat (group_content p).chunks in
    let groups = subst (AreGroups rules) c.in-Some.ensures.some.is kept.groups in
    let walked = subst (λ hs. IsWalked rules d whole (spread hs) done run reached reps) c.in-Some.ensures.some.is kept.walked in
    end_within (old_size c.moved_alone-else-placed-eq0.new.walk.walker.desc) (map (shift p.start) ranges)
    (subst (λ (s : Sections). Within (old_size s) (map (shift p.start) ranges)) (sym (c.in_ok-long.ensures.desc ∙ kept.desc))
    (within_prefix (old_size d) (map (shift p.start) ranges) (flat later) (subst (Within (old_size d)) (flat-spread p others) walked.within)))

pub map_only-requires-clause-ascending : goal.map_only-requires-clause-ascending
map_only-requires-clause-ascending g c =
    let rules = g.T.RangeValue.rules in
    let d = c.args.changes.now in
    let gs = c.args.groups in
    let whole = flat (spread gs) in
    let p = put_at c.in-Some.at c.in-Some.placed.now in
    let others = c.in-Some.others in
    let later = spread others in
    let done = put_down c.loop-at.builder in
    let run = c.loop-at.builder.run.items in
    let reached = c.loop-at.walk.walker.reached in
    let reps = c.loop-at.left.now in
    let after = c.ranges_from-left.result.now in
    let kept = c.loop-at.invariant in
    let met = c.ranges_from-left.ensures.same in
    let ranges = flat (group_content p).chunks in
    let groups = subst (AreGroups rules) c.in-Some.ensures.some.is kept.groups in
    let walked = subst (λ hs. IsWalked rules d whole (spread hs) done run reached reps) c.in-Some.ensures.some.is kept.walked in
    ascend_from c.moved_alone-else-placed-eq0.new.walk.walker.reached reached p.start ranges groups.0.0.first c.in_ok-long.ensures.reached
    (ascend-prefix reached (map (shift p.start) ranges) (flat later) (subst (Ascend reached) (flat-spread p others) walked.ascend))

pub loop-at-preserved-in-Continue-branch-13 : goal.loop-at-preserved-in-Continue-branch-13
loop-at-preserved-in-Continue-branch-13 g c =
    let rules = g.T.RangeValue.rules in
    let d = c.args.changes.now in
    let gs = c.args.groups in
    let whole = flat (spread gs) in
    let p = put_at c.in-Some.at c.in-Some.placed.now in
    let others = c.in-Some.others in
    let later = spread others in
    let done = put_down c.loop-at.builder in
    let run = c.loop-at.builder.run.items in
    let reached = c.loop-at.walk.walker.reached in
    let reps = c.loop-at.left.now in
    let after = c.ranges_from-left.result.now in
    let kept = c.loop-at.invariant in
    let met = c.ranges_from-left.ensures.same in
    let ranges = flat (group_content p).chunks in
    let groups = subst (AreGroups rules) c.in-Some.ensures.some.is kept.groups in
    let walked = subst (λ hs. IsWalked rules d whole (spread hs) done run reached reps) c.in-Some.ensures.some.is kept.walked in
    let grown : 0 < p.grown = let k = c.if-placed-eq0.false in omega (arith, k) in
    let only = has_one rules p groups.0.0 groups.0.1 grown in
    let q = only.chunk in
    let one = only.one in
    let here = subst (λ qs. IsWalked rules d whole (map (move p.start) qs ++ later) done run reached reps) one walked in
    let lone = walked_one rules p q groups.0.0 one in
    let same_start = lone.start in
    let affected = one_affected rules d whole p q later done run reached reps after lone here met (c.is_opened.ensures.affected c.if-is_opened.true grown) in
    let spent = kept.cost in
    let at = ap (λ hs. allowance rules d (spread hs)) c.in-Some.ensures.some.is in
    let chunk = ap (λ qs. allowance rules d (map (move p.start) qs ++ later)) one in
    let share = ap (λ x. cond x 128 0 + allowance rules d later) (sym affected) in
    let walk = c.moved_alone-else-placed-eq0.new.walk.walker.reached in
    let each = c.map_only.ensures.cost in
    let desc = c.in_ok-long.ensures.desc ∙ kept.desc in
    let moved_all = c.in_ok-map_only.ensures.run
    ∙ (ap (λ (s : Sections). run ++ filter_map (moved rules s) (map (shift p.start) ranges)) desc ∙ ap (λ rs. run ++ filter_map (moved rules d) rs) lone.ranges) in
    record {
      builder = record { groups = kept.builder.groups; chunks = kept.builder.chunks };
      groups = groups.1;
      walked = walked_each rules d whole (move p.start q) later done run c.map_only.new.run.items reached c.map_only.new.walk.walker.reached reps after here (λ a b m. met a b (omega (arith, same_start, m))) moved_all
          (λ others h. c.in_ok-map_only.ensures.walk others
          (ascend_more walk reached p.start ranges others groups.0.0.first groups.0.1 c.in_ok-long.ensures.reached (subst (λ (rs : List (Ranged g.row.T.Denot)). Ascend reached (rs ++ others)) (sym lone.ranges) h)));
      desc = c.in_ok-map_only.ensures.desc ∙ desc;
      clear = c.in_ok-map_only.ensures.clear;
      begin = c.ranges_from-left.ensures.order;
      cost = omega (arith, spent, at, chunk, share, each);
    }

pub returns-in_err-map_only-clause-cost : goal.returns-in_err-map_only-clause-cost
returns-in_err-map_only-clause-cost g c =
    let rules = g.T.RangeValue.rules in
    let d = c.args.changes.now in
    let gs = c.args.groups in
    let whole = flat (spread gs) in
    let p = put_at c.in-Some.at c.in-Some.placed.now in
    let others = c.in-Some.others in
    let later = spread others in
    let done = put_down c.loop-at.builder in
    let run = c.loop-at.builder.run.items in
    let reached = c.loop-at.walk.walker.reached in
    let reps = c.loop-at.left.now in
    let after = c.ranges_from-left.result.now in
    let kept = c.loop-at.invariant in
    let met = c.ranges_from-left.ensures.same in
    let ranges = flat (group_content p).chunks in
    let groups = subst (AreGroups rules) c.in-Some.ensures.some.is kept.groups in
    let walked = subst (λ hs. IsWalked rules d whole (spread hs) done run reached reps) c.in-Some.ensures.some.is kept.walked in
    let grown : 0 < p.grown = let k = c.if-placed-eq0.false in omega (arith, k) in
    let only = has_one rules p groups.0.0 groups.0.1 grown in
    let q = only.chunk in
    let one = only.one in
    let here = subst (λ qs. IsWalked rules d whole (map (move p.start) qs ++ later) done run reached reps) one walked in
    let lone = walked_one rules p q groups.0.0 one in
    let same_start = lone.start in
    let affected = one_affected rules d whole p q later done run reached reps after lone here met (c.is_opened.ensures.affected c.if-is_opened.true grown) in
    let spent = kept.cost in
    let at = ap (λ hs. allowance rules d (spread hs)) c.in-Some.ensures.some.is in
    let chunk = ap (λ qs. allowance rules d (map (move p.start) qs ++ later)) one in
    let share = ap (λ x. cond x 128 0 + allowance rules d later) (sym affected) in
    let top = allowed rules d 0 (spread gs) (are_spread rules gs c.requires.groups) (rises_ascend rules (flat (spread gs)) (rises-no_fault rules (flat (spread gs)) c.requires.order)) in
    let each = c.map_only.ensures.cost in
    omega (arith, top, spent, at, chunk, share, each)
