mod Inner
mod Long
use Rattle.std.proofs.Common.{List, [], ◌∷◌, ◌≡◌, ℕ, ◌+◌, ◌++◌, map, length, true, ap, refl, subst, sym, ◌∙◌, arith}
use Rattle.std.proofs.lemmas.List.{append-nil, length-append}
use Rattle.std.proofs.lemmas.Result.{IfOk-weaker}
use Rattle.std.specs.Prelude.{unwrap_or}
use Rattle.std.specs.List.{list_any}
use Rattle.change_desc.specs.Ranges.{meets, replaced}
use Rattle.change_desc.specs.Meeting.{BeginAfter}
use Rattle.change_desc.specs.Places.{place_after}
use Rattle.change_desc.specs.Sections.{old_size}
use Rattle.change_desc.specs.Walker.{Walk}
use Rattle.change_desc.specs.declared.map_mode.MapMode.TheVariants.{Simple}
use Rattle.change_desc.proofs.RangesMet.{replaced-begin}
use Rattle.stable_order.specs.StableSort.{stable_sort}
use Rattle.range_set.specs.Order.{before}
use Rattle.range_set.specs.Mapping.{map_ranges, moved}
use Rattle.range_set.specs.PrivateChunks.{AreGroups, Ascend, FitCarried, carry, flat, group_content, move, put_at, shift, spread}
use Rattle.range_set.specs.PrivateBuilders.{built, grouped, put_down}
use Rattle.range_set.specs.declared.group.Group.{Group}
use Rattle.range_set.specs.declared.group.PlacedGroup.{PlacedGroup}
use Rattle.range_set.proofs.Clear.{IsClear, Sections, clear_place, map_pos-clear}
use Rattle.range_set.proofs.Cost.{allowance, allowed}
use Rattle.range_set.proofs.Each.{within}
use Rattle.range_set.proofs.Groups.{are_spread, group_placed, groups_right, unlengthened}
use Rattle.range_set.proofs.RangeOrder.{rises-no_fault}
use Rattle.range_set.proofs.Under.{IsUnder, rises_ascend, under_end, under_end_order}
use Rattle.range_set.proofs.Walked.{IsWalked, run_forward, walked_init, walked_less}
use Rattle.range_set.proofs.WalkedGroups.{allowance_group, allowance_passed, carried_fit, clear_group, starts_at, still_fit, walked_carried, walked_group, walked_open, walked_still}
use Rattle.range_set.proofs.moving.map_all.Goals as goal
use Rattle.range_set.proofs.moving.map_all.Answers.Inner as inner
use Rattle.range_set.proofs.moving.map_all.Answers.Long as long

pub share_carried-requires-clause-ascend : goal.share_carried-requires-clause-ascend
share_carried-requires-clause-ascend g c =
    let rules = g.T.RangeValue.rules in
    let ranges = flat (spread c.args.groups) in
    rises_ascend rules ranges (rises-no_fault rules ranges c.requires.order)

pub share_carried-requires-clause-fits : goal.share_carried-requires-clause-fits
share_carried-requires-clause-fits g c = still_fit g.T.RangeValue.rules c.args.changes.now c.args.changed.now c.args.groups c.requires.groups

pub share_carried-requires-clause-order : goal.share_carried-requires-clause-order
share_carried-requires-clause-order g c = subst (BeginAfter 0) (sym c.requires.replaced) (replaced-begin 0 0 c.args.changes.now)

pub share_carried-requires-clause-room : goal.share_carried-requires-clause-room
share_carried-requires-clause-room g c =
    let room = c.requires.room in
    let none = ap length c.in_ok-builder.ensures.ranges in
    let n = length-append (flat (grouped c.in_ok-builder.builder.groups)) (built c.in_ok-builder.builder.chunks) in
    omega (arith, room, none, n)

none_first : {X : Type 0} (xs ys : List X) → xs ++ ys ≡ [] → xs ≡ []
none_first [] ys none = refl
none_first (x ∷ xs) ys none = cc

pub loop-at-init : goal.loop-at-init
loop-at-init g c =
    let rules = g.T.RangeValue.rules in
    let d = c.args.changes.now in
    let gs = c.args.groups in
    let ps = spread gs in
    let whole = flat ps in
    let reps = c.args.changed.now in
    let replaced = c.requires.replaced in
    let first = walked_init rules d ps reps (are_spread rules gs c.requires.groups) (rises-no_fault rules whole c.requires.order) (within (old_size d) whole c.requires.inside) replaced in
    let shared = c.in_ok-rest.ensures.shared in
    let taken = shared.taken in
    let rest = c.in_ok-rest.rest in
    let groups = subst (AreGroups rules) shared.is c.requires.groups in
    let old = flat (grouped c.in_ok-builder.builder.groups) in
    let new = flat (grouped c.share_carried.new.self) in
    let chunks = built c.in_ok-builder.builder.chunks in
    let carried = flat (spread (map (carry 0 0) taken)) in
    let none = c.in_ok-builder.ensures.ranges in
    let no_old : old ≡ [] = none_first old chunks none in
    let no_chunks : chunks ≡ [] = ap (λ rs. rs ++ chunks) (sym no_old) ∙ none in
    let is : new ++ chunks ≡ carried = ap (λ rs. new ++ rs) no_chunks ∙ (append-nil new ∙ (shared.ranges ∙ ap (λ rs. rs ++ carried) no_old)) in
    let parts = ap (λ hs. allowance rules d (spread hs)) shared.is in
    let passed = allowance_passed rules d taken rest in
    record {
      builder = record { groups = c.in_ok-rest.ensures.builder; chunks = c.in_ok-builder.ensures.builder.chunks };
      groups = groups_right rules taken rest groups;
      walked = rw (c.in_ok-builder.ensures.none, c.new-walk.ensures.start)
          (walked_still rules d whole taken rest (new ++ chunks) reps groups (subst (λ hs. IsWalked rules d whole (spread hs) [] [] 0 reps) shared.is first) replaced shared.apart is);
      desc = ap (λ (w : Walk). w.desc) c.new-walk.ensures.start;
      clear = c.new-walk.ensures.walk;
      begin = subst (BeginAfter 0) (sym replaced) (replaced-begin 0 0 d);
      cost = omega (arith, parts, passed);
    }

pub returns-in_err-reserve-clause-cost : goal.returns-in_err-reserve-clause-cost
returns-in_err-reserve-clause-cost g c =
    let rules = g.T.RangeValue.rules in
    let gs = c.args.groups in
    let top = allowed rules c.args.changes.now 0 (spread gs) (are_spread rules gs c.requires.groups) (rises_ascend rules (flat (spread gs)) (rises-no_fault rules (flat (spread gs)) c.requires.order)) in
    let spent = c.loop-at.invariant.cost in
    omega (arith, top, spent)

pub loop-inner-init : goal.loop-inner-init
loop-inner-init g c =
    let rules = g.T.RangeValue.rules in
    let d = c.args.changes.now in
    let gs = c.args.groups in
    let p = put_at c.in-Some.at c.in-Some.placed.now in
    let others = c.in-Some.others in
    let kept = c.loop-at.invariant in
    let groups = subst (AreGroups rules) c.in-Some.ensures.some.is kept.groups in
    let walked = subst (λ hs. IsWalked rules d (flat (spread gs)) (spread hs) (put_down c.loop-at.builder) c.loop-at.builder.run.items c.loop-at.walk.walker.reached c.loop-at.left.now) c.in-Some.ensures.some.is kept.walked in
    let chunks = c.as_slice-chunks.ensures.value ∙ (ap (λ (x : Group g.row.T.Denot). x.chunks.items) c.deref-then-placed-eq0.ensures ∙ sym (unlengthened p.grown p.group.value.chunks.items c.if-placed-eq0.true)) in
    record {
      builder = c.reserve.ensures.builder;
      walked = rw (chunks, c.reserve.ensures.ranges, ap (λ v. v.items) c.reserve.ensures.run) (walked_open rules d (flat (spread gs)) p others (put_down c.loop-at.builder) c.loop-at.builder.run.items c.loop-at.walk.walker.reached c.loop-at.left.now c.ranges_from-left.result.now
          groups.0.1 c.ranges_from-left.ensures.same walked);
      desc = kept.desc;
      clear = kept.clear;
      begin = c.ranges_from-left.ensures.order;
      cost = let a = kept.cost in let b = ap (λ hs. allowance rules d (spread hs)) c.in-Some.ensures.some.is in let e = ap (λ qs. allowance rules d (map (move p.start) qs ++ spread others)) chunks in omega (arith, a, b, e);
    }

pub place_after-to-requires-else-is_opened-clause-inside : goal.place_after-to-requires-else-is_opened-clause-inside
place_after-to-requires-else-is_opened-clause-inside g c =
    let rules = g.T.RangeValue.rules in
    let d = c.args.changes.now in
    let gs = c.args.groups in
    let whole = flat (spread gs) in
    let p = put_at c.in-Some.at c.in-Some.placed.now in
    let others = c.in-Some.others in
    let done = put_down c.loop-at.builder in
    let run = c.loop-at.builder.run.items in
    let kept = c.loop-at.invariant in
    let groups = subst (AreGroups rules) c.in-Some.ensures.some.is kept.groups in
    let walked = subst (λ hs. IsWalked rules d (flat (spread gs)) (spread hs) (put_down c.loop-at.builder) c.loop-at.builder.run.items c.loop-at.walk.walker.reached c.loop-at.left.now) c.in-Some.ensures.some.is kept.walked in
    let clear = clear_group rules d whole p others done run c.loop-at.walk.walker.reached c.loop-at.left.now c.ranges_from-left.result.now groups c.ranges_from-left.ensures.same walked (c.is_opened.ensures.apart c.if-is_opened.false) in
    let size = ap old_size kept.desc in
    let inside = clear.hull.inside in
    omega (arith, size, inside)

pub place_after-to-requires-else-is_opened-clause-ascending : goal.place_after-to-requires-else-is_opened-clause-ascending
place_after-to-requires-else-is_opened-clause-ascending g c =
    let rules = g.T.RangeValue.rules in
    let d = c.args.changes.now in
    let gs = c.args.groups in
    let whole = flat (spread gs) in
    let p = put_at c.in-Some.at c.in-Some.placed.now in
    let others = c.in-Some.others in
    let done = put_down c.loop-at.builder in
    let run = c.loop-at.builder.run.items in
    let kept = c.loop-at.invariant in
    let groups = subst (AreGroups rules) c.in-Some.ensures.some.is kept.groups in
    let walked = subst (λ hs. IsWalked rules d (flat (spread gs)) (spread hs) (put_down c.loop-at.builder) c.loop-at.builder.run.items c.loop-at.walk.walker.reached c.loop-at.left.now) c.in-Some.ensures.some.is kept.walked in
    let clear = clear_group rules d whole p others done run c.loop-at.walk.walker.reached c.loop-at.left.now c.ranges_from-left.result.now groups c.ranges_from-left.ensures.same walked (c.is_opened.ensures.apart c.if-is_opened.false) in
    clear.ascend

pub place_after-to-requires-else-is_opened-clause-clear : goal.place_after-to-requires-else-is_opened-clause-clear
place_after-to-requires-else-is_opened-clause-clear g c =
    let rules = g.T.RangeValue.rules in
    let d = c.args.changes.now in
    let gs = c.args.groups in
    let whole = flat (spread gs) in
    let p = put_at c.in-Some.at c.in-Some.placed.now in
    let others = c.in-Some.others in
    let done = put_down c.loop-at.builder in
    let run = c.loop-at.builder.run.items in
    let kept = c.loop-at.invariant in
    let groups = subst (AreGroups rules) c.in-Some.ensures.some.is kept.groups in
    let walked = subst (λ hs. IsWalked rules d (flat (spread gs)) (spread hs) (put_down c.loop-at.builder) c.loop-at.builder.run.items c.loop-at.walk.walker.reached c.loop-at.left.now) c.in-Some.ensures.some.is kept.walked in
    let clear = clear_group rules d whole p others done run c.loop-at.walk.walker.reached c.loop-at.left.now c.ranges_from-left.result.now groups c.ranges_from-left.ensures.same walked (c.is_opened.ensures.apart c.if-is_opened.false) in
    subst (λ (x : Sections). IsClear p.start p.start x) (sym kept.desc) clear.hull.clear

pub place_after-to-requires-else-is_opened-clause-same : goal.place_after-to-requires-else-is_opened-clause-same
place_after-to-requires-else-is_opened-clause-same g c = λ a b m.
    let rules = g.T.RangeValue.rules in
    let d = c.args.changes.now in
    let gs = c.args.groups in
    let p = put_at c.in-Some.at c.in-Some.placed.now in
    let others = c.in-Some.others in
    let kept = c.loop-at.invariant in
    let groups = subst (AreGroups rules) c.in-Some.ensures.some.is kept.groups in
    let walked = subst (λ hs. IsWalked rules d (flat (spread gs)) (spread hs) (put_down c.loop-at.builder) c.loop-at.builder.run.items c.loop-at.walk.walker.reached c.loop-at.left.now) c.in-Some.ensures.some.is kept.walked in
    let begin = groups.0 in
    c.ranges_from-left.ensures.same a b m ∙ (walked.same a b (starts_at rules d p others a begin.0 begin.1 m) ∙ ap (λ (x : Sections). list_any (meets a b) (replaced x)) (sym kept.desc))

pub share_group-requires-clause-order : goal.share_group-requires-clause-order
share_group-requires-clause-order g c =
    let rules = g.T.RangeValue.rules in
    let d = c.args.changes.now in
    let gs = c.args.groups in
    let whole = flat (spread gs) in
    let p = put_at c.in-Some.at c.in-Some.placed.now in
    let others = c.in-Some.others in
    let done = put_down c.loop-at.builder in
    let run = c.loop-at.builder.run.items in
    let kept = c.loop-at.invariant in
    let groups = subst (AreGroups rules) c.in-Some.ensures.some.is kept.groups in
    let walked = subst (λ hs. IsWalked rules d (flat (spread gs)) (spread hs) (put_down c.loop-at.builder) c.loop-at.builder.run.items c.loop-at.walk.walker.reached c.loop-at.left.now) c.in-Some.ensures.some.is kept.walked in
    let clear = clear_group rules d whole p others done run c.loop-at.walk.walker.reached c.loop-at.left.now c.ranges_from-left.result.now groups c.ranges_from-left.ensures.same walked (c.is_opened.ensures.apart c.if-is_opened.false) in
    clear.order

pub share_group-requires-clause-forward : goal.share_group-requires-clause-forward
share_group-requires-clause-forward g c =
    let gs = c.args.groups in
    run_forward g.T.RangeValue.rules c.args.changes.now (flat (spread gs)) (put_down c.loop-at.builder) c.loop-at.builder.run.items (flat (spread c.loop-at.rest)) c.loop-at.invariant.walked.under

pub share_group-requires-clause-group : goal.share_group-requires-clause-group
share_group-requires-clause-group g c =
    let rules = g.T.RangeValue.rules in
    let d = c.args.changes.now in
    let gs = c.args.groups in
    let whole = flat (spread gs) in
    let p = put_at c.in-Some.at c.in-Some.placed.now in
    let others = c.in-Some.others in
    let done = put_down c.loop-at.builder in
    let run = c.loop-at.builder.run.items in
    let kept = c.loop-at.invariant in
    let groups = subst (AreGroups rules) c.in-Some.ensures.some.is kept.groups in
    let walked = subst (λ hs. IsWalked rules d (flat (spread gs)) (spread hs) (put_down c.loop-at.builder) c.loop-at.builder.run.items c.loop-at.walk.walker.reached c.loop-at.left.now) c.in-Some.ensures.some.is kept.walked in
    let clear = clear_group rules d whole p others done run c.loop-at.walk.walker.reached c.loop-at.left.now c.ranges_from-left.result.now groups c.ranges_from-left.ensures.same walked (c.is_opened.ensures.apart c.if-is_opened.false) in
    let start : c.place_after-to-else-is_opened.result ≡ clear_place d p.start =
    c.place_after-to-else-is_opened.ensures.value ∙ (ap (λ (x : Sections). place_after x p.start true) kept.desc ∙ ap (λ o. unwrap_or o 0) (map_pos-clear d p.start true Simple clear.hull.inside clear.hull.clear)) in
    let fits = clear.hull.fits in
    let bound = c.new_len-new_len.ensures in
    let size = c.new_len-new_len.type_inv in
    group_placed rules p.start c.place_after-to-else-is_opened.result (group_content p) groups.0.0 (omega (arith, start, fits, bound, size))

pub share_group-requires-clause-room : goal.share_group-requires-clause-room
share_group-requires-clause-room g c =
    let rules = g.T.RangeValue.rules in
    let d = c.args.changes.now in
    let gs = c.args.groups in
    let whole = flat (spread gs) in
    let p = put_at c.in-Some.at c.in-Some.placed.now in
    let others = c.in-Some.others in
    let done = put_down c.loop-at.builder in
    let run = c.loop-at.builder.run.items in
    let kept = c.loop-at.invariant in
    let groups = subst (AreGroups rules) c.in-Some.ensures.some.is kept.groups in
    let walked = subst (λ hs. IsWalked rules d (flat (spread gs)) (spread hs) (put_down c.loop-at.builder) c.loop-at.builder.run.items c.loop-at.walk.walker.reached c.loop-at.left.now) c.in-Some.ensures.some.is kept.walked in
    let clear = clear_group rules d whole p others done run c.loop-at.walk.walker.reached c.loop-at.left.now c.ranges_from-left.result.now groups c.ranges_from-left.ensures.same walked (c.is_opened.ensures.apart c.if-is_opened.false) in
    let a = clear.room in
    let b = c.requires.room in
    omega (arith, a, b)

pub returns-in_err-share_group-clause-cost : goal.returns-in_err-share_group-clause-cost
returns-in_err-share_group-clause-cost g c =
    let rules = g.T.RangeValue.rules in
    let gs = c.args.groups in
    let top = allowed rules c.args.changes.now 0 (spread gs) (are_spread rules gs c.requires.groups) (rises_ascend rules (flat (spread gs)) (rises-no_fault rules (flat (spread gs)) c.requires.order)) in
    let spent = c.loop-at.invariant.cost in
    omega (arith, top, spent)

pub share_carried-requires-else-is_opened-clause-ascend : goal.share_carried-requires-else-is_opened-clause-ascend
share_carried-requires-else-is_opened-clause-ascend g c =
    let rules = g.T.RangeValue.rules in
    let d = c.args.changes.now in
    let gs = c.args.groups in
    let whole = flat (spread gs) in
    let p = put_at c.in-Some.at c.in-Some.placed.now in
    let others = c.in-Some.others in
    let done = put_down c.loop-at.builder in
    let run = c.loop-at.builder.run.items in
    let reached = c.loop-at.walk.walker.reached in
    let reps = c.loop-at.left.now in
    let after = c.ranges_from-left.result.now in
    let kept = c.loop-at.invariant in
    let met = c.ranges_from-left.ensures.same in
    let groups = subst (AreGroups rules) c.in-Some.ensures.some.is kept.groups in
    let walked = subst (λ hs. IsWalked rules d whole (spread hs) done run reached reps) c.in-Some.ensures.some.is kept.walked in
    let clear = clear_group rules d whole p others done run reached reps after groups met walked (c.is_opened.ensures.apart c.if-is_opened.false) in
    let start : c.place_after-to-else-is_opened.result ≡ clear_place d p.start =
    c.place_after-to-else-is_opened.ensures.value ∙ (ap (λ (x : Sections). place_after x p.start true) kept.desc ∙ ap (λ o. unwrap_or o 0) (map_pos-clear d p.start true Simple clear.hull.inside clear.hull.clear)) in
    let put = put_down c.share_group.new.self in
    let more = c.in_ok-share_group.ensures.ranges ∙ ap (λ n. done ++ stable_sort (before rules) run ++ map (shift n) (flat (group_content p).chunks)) start in
    let next = walked_group rules d whole p others done run put reached reps after groups met walked clear more in
    next.ascend

pub share_carried-requires-else-is_opened-clause-fits : goal.share_carried-requires-else-is_opened-clause-fits
share_carried-requires-else-is_opened-clause-fits g c =
    let rules = g.T.RangeValue.rules in
    let d = c.args.changes.now in
    let gs = c.args.groups in
    let whole = flat (spread gs) in
    let p = put_at c.in-Some.at c.in-Some.placed.now in
    let others = c.in-Some.others in
    let done = put_down c.loop-at.builder in
    let run = c.loop-at.builder.run.items in
    let reached = c.loop-at.walk.walker.reached in
    let reps = c.loop-at.left.now in
    let after = c.ranges_from-left.result.now in
    let kept = c.loop-at.invariant in
    let met = c.ranges_from-left.ensures.same in
    let groups = subst (AreGroups rules) c.in-Some.ensures.some.is kept.groups in
    let walked = subst (λ hs. IsWalked rules d whole (spread hs) done run reached reps) c.in-Some.ensures.some.is kept.walked in
    let clear = clear_group rules d whole p others done run reached reps after groups met walked (c.is_opened.ensures.apart c.if-is_opened.false) in
    let start : c.place_after-to-else-is_opened.result ≡ clear_place d p.start =
    c.place_after-to-else-is_opened.ensures.value ∙ (ap (λ (x : Sections). place_after x p.start true) kept.desc ∙ ap (λ o. unwrap_or o 0) (map_pos-clear d p.start true Simple clear.hull.inside clear.hull.clear)) in
    let put = put_down c.share_group.new.self in
    let more = c.in_ok-share_group.ensures.ranges ∙ ap (λ n. done ++ stable_sort (before rules) run ++ map (shift n) (flat (group_content p).chunks)) start in
    let next = walked_group rules d whole p others done run put reached reps after groups met walked clear more in
    let same : (b : ℕ) → list_any (meets p.start b) after ≡ list_any (meets p.start b) (replaced d) = λ b. met p.start b (omega arith) ∙ walked.same p.start b (starts_at rules d p others p.start groups.0.0 groups.0.1 (omega arith)) in
    let bound = c.new_len-new_len.ensures in
    let size = c.new_len-new_len.type_inv in
    subst (λ n. FitCarried p.start n after others) (sym start) (carried_fit rules d p.start after others groups.1 next.ascend next.within same (omega (arith, bound, size)))

pub share_carried-requires-else-is_opened-clause-room : goal.share_carried-requires-else-is_opened-clause-room
share_carried-requires-else-is_opened-clause-room g c =
    let rules = g.T.RangeValue.rules in
    let d = c.args.changes.now in
    let gs = c.args.groups in
    let whole = flat (spread gs) in
    let p = put_at c.in-Some.at c.in-Some.placed.now in
    let others = c.in-Some.others in
    let done = put_down c.loop-at.builder in
    let run = c.loop-at.builder.run.items in
    let reached = c.loop-at.walk.walker.reached in
    let reps = c.loop-at.left.now in
    let after = c.ranges_from-left.result.now in
    let kept = c.loop-at.invariant in
    let met = c.ranges_from-left.ensures.same in
    let groups = subst (AreGroups rules) c.in-Some.ensures.some.is kept.groups in
    let walked = subst (λ hs. IsWalked rules d whole (spread hs) done run reached reps) c.in-Some.ensures.some.is kept.walked in
    let clear = clear_group rules d whole p others done run reached reps after groups met walked (c.is_opened.ensures.apart c.if-is_opened.false) in
    let start : c.place_after-to-else-is_opened.result ≡ clear_place d p.start =
    c.place_after-to-else-is_opened.ensures.value ∙ (ap (λ (x : Sections). place_after x p.start true) kept.desc ∙ ap (λ o. unwrap_or o 0) (map_pos-clear d p.start true Simple clear.hull.inside clear.hull.clear)) in
    let put = put_down c.share_group.new.self in
    let more = c.in_ok-share_group.ensures.ranges ∙ ap (λ n. done ++ stable_sort (before rules) run ++ map (shift n) (flat (group_content p).chunks)) start in
    let next = walked_group rules d whole p others done run put reached reps after groups met walked clear more in
    let n = length-append (flat (grouped c.share_group.new.self.groups)) (built c.share_group.new.self.chunks) in
    let a = next.under.room in
    let b = c.requires.room in
    omega (arith, n, a, b)

pub returns-in_err-rest-2-clause-cost : goal.returns-in_err-rest-2-clause-cost
returns-in_err-rest-2-clause-cost g c =
    let rules = g.T.RangeValue.rules in
    let gs = c.args.groups in
    let top = allowed rules c.args.changes.now 0 (spread gs) (are_spread rules gs c.requires.groups) (rises_ascend rules (flat (spread gs)) (rises-no_fault rules (flat (spread gs)) c.requires.order)) in
    let spent = c.loop-at.invariant.cost in
    omega (arith, top, spent)

pub loop-at-preserved : goal.loop-at-preserved
loop-at-preserved g c =
    let rules = g.T.RangeValue.rules in
    let d = c.args.changes.now in
    let gs = c.args.groups in
    let whole = flat (spread gs) in
    let p = put_at c.in-Some.at c.in-Some.placed.now in
    let others = c.in-Some.others in
    let done = put_down c.loop-at.builder in
    let run = c.loop-at.builder.run.items in
    let reached = c.loop-at.walk.walker.reached in
    let reps = c.loop-at.left.now in
    let after = c.ranges_from-left.result.now in
    let kept = c.loop-at.invariant in
    let met = c.ranges_from-left.ensures.same in
    let groups = subst (AreGroups rules) c.in-Some.ensures.some.is kept.groups in
    let walked = subst (λ hs. IsWalked rules d whole (spread hs) done run reached reps) c.in-Some.ensures.some.is kept.walked in
    let clear = clear_group rules d whole p others done run reached reps after groups met walked (c.is_opened.ensures.apart c.if-is_opened.false) in
    let start : c.place_after-to-else-is_opened.result ≡ clear_place d p.start =
    c.place_after-to-else-is_opened.ensures.value ∙ (ap (λ (x : Sections). place_after x p.start true) kept.desc ∙ ap (λ o. unwrap_or o 0) (map_pos-clear d p.start true Simple clear.hull.inside clear.hull.clear)) in
    let put = put_down c.share_group.new.self in
    let more = c.in_ok-share_group.ensures.ranges ∙ ap (λ n. done ++ stable_sort (before rules) run ++ map (shift n) (flat (group_content p).chunks)) start in
    let next = walked_group rules d whole p others done run put reached reps after groups met walked clear more in
    let same : (b : ℕ) → list_any (meets p.start b) after ≡ list_any (meets p.start b) (replaced d) = λ b. met p.start b (omega arith) ∙ walked.same p.start b (starts_at rules d p others p.start groups.0.0 groups.0.1 (omega arith)) in
    let shared = c.in_ok-rest-2.ensures.shared in
    let rest = c.in_ok-rest-2.rest in
    let taken = shared.taken in
    let walk = c.place_after-to-else-is_opened.new.self.walker.reached in
    let old = flat (grouped c.share_group.new.self.groups) in
    let new = flat (grouped c.share_carried-else-is_opened.new.self) in
    let chunks = built c.share_group.new.self.chunks in
    let ended = c.in_ok-share_group.ensures.ended in
    let carried = flat (spread (map (carry p.start (clear_place d p.start)) taken)) in
    let is : new ++ chunks ≡ put ++ carried =
    ap (λ rs. new ++ rs) ended
    ∙ (append-nil new
    ∙ (shared.ranges
    ∙ (ap (λ n. old ++ flat (spread (map (carry p.start n) taken))) start
    ∙ ap (λ rs. rs ++ carried) (sym (ap (λ rs. old ++ rs) ended ∙ append-nil old))))) in
    let cost = kept.cost in
    let at = ap (λ hs. allowance rules d (spread hs)) c.in-Some.ensures.some.is in
    let share = allowance_group rules d p others in
    let parts = ap (λ hs. allowance rules d (spread hs)) shared.is in
    let passed = allowance_passed rules d taken rest in
    record {
      builder = record { groups = c.in_ok-rest-2.ensures.builder; chunks = c.in_ok-share_group.ensures.builder.chunks };
      groups = groups_right rules taken rest (subst (AreGroups rules) shared.is groups.1);
      walked = subst (λ rs. IsWalked rules d whole (spread rest) (new ++ chunks) rs walk after) (sym c.in_ok-share_group.ensures.none)
          (walked_carried rules d whole p.start taken rest put (new ++ chunks) walk after (subst (AreGroups rules) shared.is groups.1) c.place_after-to-else-is_opened.ensures.reached
          (subst (λ hs. IsWalked rules d whole (spread hs) put [] walk after) shared.is (walked_less rules d whole (spread others) put [] walk p.start after c.place_after-to-else-is_opened.ensures.reached next))
          (subst (λ hs. Ascend p.start (flat (spread hs))) shared.is next.ascend) same shared.apart is);
      desc = c.place_after-to-else-is_opened.ensures.desc ∙ kept.desc;
      clear = c.place_after-to-else-is_opened.ensures.walk;
      begin = c.ranges_from-left.ensures.order;
      cost = omega (arith, cost, at, share, parts, passed);
    }

pub finish-requires-clause-order : goal.finish-requires-clause-order
finish-requires-clause-order g c =
    let rules = g.T.RangeValue.rules in
    let gs = c.args.groups in
    let done = put_down c.loop-at.builder in
    let run = c.loop-at.builder.run.items in
    let under = subst (λ hs. IsUnder rules c.args.changes.now (flat (spread gs)) done run (flat (spread hs))) (c.in_default.ensures.none refl) c.loop-at.invariant.walked.under in
    under_end_order rules c.args.changes.now (flat (spread gs)) done run under

pub finish-requires-clause-forward : goal.finish-requires-clause-forward
finish-requires-clause-forward g c =
    let gs = c.args.groups in
    run_forward g.T.RangeValue.rules c.args.changes.now (flat (spread gs)) (put_down c.loop-at.builder) c.loop-at.builder.run.items (flat (spread c.loop-at.rest)) c.loop-at.invariant.walked.under

pub finish-requires-clause-room : goal.finish-requires-clause-room
finish-requires-clause-room g c =
    let a = c.loop-at.invariant.walked.under.room in
    let b = c.requires.room in
    omega (arith, a, b)

pub returns-clause-ranges : goal.returns-clause-ranges
returns-clause-ranges g c =
    let rules = g.T.RangeValue.rules in
    let d = c.args.changes.now in
    let gs = c.args.groups in
    let done = put_down c.loop-at.builder in
    let run = c.loop-at.builder.run.items in
    let under = subst (λ hs. IsUnder rules d (flat (spread gs)) done run (flat (spread hs))) (c.in_default.ensures.none refl) c.loop-at.invariant.walked.under in
    let sorted = sym (under_end rules d (flat (spread gs)) done run under) in
    IfOk-weaker c.finish.result (λ made. flat (spread made.0) ≡ done ++ stable_sort (before rules) run) (λ made. flat (spread made.0) ≡ map_ranges rules d (flat (spread gs))) (λ made e. e ∙ sorted) c.finish.ensures.ranges

pub returns-clause-cost : goal.returns-clause-cost
returns-clause-cost g c =
    let rules = g.T.RangeValue.rules in
    let gs = c.args.groups in
    let top = allowed rules c.args.changes.now 0 (spread gs) (are_spread rules gs c.requires.groups) (rises_ascend rules (flat (spread gs)) (rises-no_fault rules (flat (spread gs)) c.requires.order)) in
    let spent = c.loop-at.invariant.cost in
    omega (arith, top, spent)

-- those of the loop over the chunks of a group
pub moved_alone-requires-clause-inside : goal.moved_alone-requires-clause-inside
moved_alone-requires-clause-inside g c = inner.moved_alone-requires-clause-inside g c

pub returns-in_err-alone-clause-cost : goal.returns-in_err-alone-clause-cost
returns-in_err-alone-clause-cost g c = inner.returns-in_err-alone-clause-cost g c

pub put_chunk-requires-clause-order : goal.put_chunk-requires-clause-order
put_chunk-requires-clause-order g c = inner.put_chunk-requires-clause-order g c

pub put_chunk-requires-clause-forward : goal.put_chunk-requires-clause-forward
put_chunk-requires-clause-forward g c = inner.put_chunk-requires-clause-forward g c

pub returns-in_err-put_chunk-clause-cost : goal.returns-in_err-put_chunk-clause-cost
returns-in_err-put_chunk-clause-cost g c = inner.returns-in_err-put_chunk-clause-cost g c

pub loop-inner-preserved-in-Continue-branch-6 : goal.loop-inner-preserved-in-Continue-branch-6
loop-inner-preserved-in-Continue-branch-6 g c = inner.loop-inner-preserved-in-Continue-branch-6 g c

pub map_each-requires-clause-inside : goal.map_each-requires-clause-inside
map_each-requires-clause-inside g c = inner.map_each-requires-clause-inside g c

pub map_each-requires-clause-ascending : goal.map_each-requires-clause-ascending
map_each-requires-clause-ascending g c = inner.map_each-requires-clause-ascending g c

pub map_each-requires-clause-same : goal.map_each-requires-clause-same
map_each-requires-clause-same g c = inner.map_each-requires-clause-same g c

pub returns-in_err-map_each-clause-cost : goal.returns-in_err-map_each-clause-cost
returns-in_err-map_each-clause-cost g c = inner.returns-in_err-map_each-clause-cost g c

pub place_after-to-requires-clause-inside : goal.place_after-to-requires-clause-inside
place_after-to-requires-clause-inside g c = inner.place_after-to-requires-clause-inside g c

pub place_after-to-requires-clause-ascending : goal.place_after-to-requires-clause-ascending
place_after-to-requires-clause-ascending g c = inner.place_after-to-requires-clause-ascending g c

pub place_after-to-requires-clause-clear : goal.place_after-to-requires-clause-clear
place_after-to-requires-clause-clear g c = inner.place_after-to-requires-clause-clear g c

pub place_after-to-requires-clause-same : goal.place_after-to-requires-clause-same
place_after-to-requires-clause-same g c = inner.place_after-to-requires-clause-same g c

pub share_chunk-requires-clause-order : goal.share_chunk-requires-clause-order
share_chunk-requires-clause-order g c = inner.share_chunk-requires-clause-order g c

pub share_chunk-requires-clause-forward : goal.share_chunk-requires-clause-forward
share_chunk-requires-clause-forward g c = inner.share_chunk-requires-clause-forward g c

pub share_chunk-requires-clause-chunk : goal.share_chunk-requires-clause-chunk
share_chunk-requires-clause-chunk g c = inner.share_chunk-requires-clause-chunk g c

pub returns-in_err-share_chunk-clause-cost : goal.returns-in_err-share_chunk-clause-cost
returns-in_err-share_chunk-clause-cost g c = inner.returns-in_err-share_chunk-clause-cost g c

pub loop-inner-preserved : goal.loop-inner-preserved
loop-inner-preserved g c = inner.loop-inner-preserved g c

pub loop-inner-preserved-in-Continue-branch-7 : goal.loop-inner-preserved-in-Continue-branch-7
loop-inner-preserved-in-Continue-branch-7 g c = inner.loop-inner-preserved-in-Continue-branch-7 g c

pub loop-inner-smaller : goal.loop-inner-smaller
loop-inner-smaller g c = inner.loop-inner-smaller g c

pub share_carried-requires-else-is_affected-clause-chunks : goal.share_carried-requires-else-is_affected-clause-chunks
share_carried-requires-else-is_affected-clause-chunks g c = inner.share_carried-requires-else-is_affected-clause-chunks g c

pub share_carried-requires-else-is_affected-clause-ascend : goal.share_carried-requires-else-is_affected-clause-ascend
share_carried-requires-else-is_affected-clause-ascend g c = inner.share_carried-requires-else-is_affected-clause-ascend g c

pub share_carried-requires-else-is_affected-clause-fits : goal.share_carried-requires-else-is_affected-clause-fits
share_carried-requires-else-is_affected-clause-fits g c = inner.share_carried-requires-else-is_affected-clause-fits g c

pub returns-in_err-chunks-clause-cost : goal.returns-in_err-chunks-clause-cost
returns-in_err-chunks-clause-cost g c = inner.returns-in_err-chunks-clause-cost g c

-- those of a group of one long range
pub moved_alone-requires-else-placed-eq0-clause-same : goal.moved_alone-requires-else-placed-eq0-clause-same
moved_alone-requires-else-placed-eq0-clause-same g c = long.moved_alone-requires-else-placed-eq0-clause-same g c

pub moved_alone-requires-else-placed-eq0-clause-inside : goal.moved_alone-requires-else-placed-eq0-clause-inside
moved_alone-requires-else-placed-eq0-clause-inside g c = long.moved_alone-requires-else-placed-eq0-clause-inside g c

pub moved_alone-requires-else-placed-eq0-clause-ascending : goal.moved_alone-requires-else-placed-eq0-clause-ascending
moved_alone-requires-else-placed-eq0-clause-ascending g c = long.moved_alone-requires-else-placed-eq0-clause-ascending g c

pub returns-in_err-long-clause-cost : goal.returns-in_err-long-clause-cost
returns-in_err-long-clause-cost g c = long.returns-in_err-long-clause-cost g c

pub put_group-requires-clause-order : goal.put_group-requires-clause-order
put_group-requires-clause-order g c = long.put_group-requires-clause-order g c

pub put_group-requires-clause-forward : goal.put_group-requires-clause-forward
put_group-requires-clause-forward g c = long.put_group-requires-clause-forward g c

pub put_group-requires-clause-room : goal.put_group-requires-clause-room
put_group-requires-clause-room g c = long.put_group-requires-clause-room g c

pub loop-at-preserved-in-Continue-branch-12 : goal.loop-at-preserved-in-Continue-branch-12
loop-at-preserved-in-Continue-branch-12 g c = long.loop-at-preserved-in-Continue-branch-12 g c

pub returns-in_err-put_group-clause-cost : goal.returns-in_err-put_group-clause-cost
returns-in_err-put_group-clause-cost g c = long.returns-in_err-put_group-clause-cost g c

pub map_only-requires-clause-same : goal.map_only-requires-clause-same
map_only-requires-clause-same g c = long.map_only-requires-clause-same g c

pub map_only-requires-clause-inside : goal.map_only-requires-clause-inside
map_only-requires-clause-inside g c = long.map_only-requires-clause-inside g c

pub map_only-requires-clause-ascending : goal.map_only-requires-clause-ascending
map_only-requires-clause-ascending g c = long.map_only-requires-clause-ascending g c

pub loop-at-preserved-in-Continue-branch-13 : goal.loop-at-preserved-in-Continue-branch-13
loop-at-preserved-in-Continue-branch-13 g c = long.loop-at-preserved-in-Continue-branch-13 g c

pub returns-in_err-map_only-clause-cost : goal.returns-in_err-map_only-clause-cost
returns-in_err-map_only-clause-cost g c = long.returns-in_err-map_only-clause-cost g c
