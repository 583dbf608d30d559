-- What the loop over the chunks of a group asks.
use Rattle.std.proofs.Common.{[], ◌≡◌, ℕ, cond, ◌+◌, ◌++◌, map, filter_map, length, true, Some, ap, subst, sym, ◌∙◌, arith, append_assoc}
use Rattle.std.proofs.lemmas.List.{length-append, length-map}
use Rattle.std.specs.Prelude.{IfSome, unwrap_or}
use Rattle.std.specs.List.{list_any}
use Rattle.change_desc.specs.Ranges.{meets, replaced}
use Rattle.change_desc.specs.Places.{place_after}
use Rattle.change_desc.specs.Sections.{old_size}
use Rattle.change_desc.specs.declared.map_mode.MapMode.TheVariants.{Simple}
use Rattle.stable_order.specs.StableSort.{stable_sort}
use Rattle.range_set.specs.Order.{before}
use Rattle.range_set.specs.Mapping.{moved}
use Rattle.range_set.specs.PrivateChunks.{Ascend, FitCarriedChunks, carry_chunk, content, flat, move, shift, spread}
use Rattle.range_set.specs.PrivateMoving.{IsMovedAlone}
use Rattle.range_set.specs.PrivateBuilders.{built, grouped, put_down}
use Rattle.range_set.proofs.Chunks.{ascend-prefix, flat-append}
use Rattle.range_set.proofs.Clear.{IsClear, Sections, clear_place, map_pos-clear}
use Rattle.range_set.proofs.Cost.{allowance, allowed}
use Rattle.range_set.proofs.Each.{Within, end_within}
use Rattle.range_set.proofs.Groups.{are_spread, chunk_placed}
use Rattle.range_set.proofs.RangeOrder.{rises-no_fault}
use Rattle.range_set.proofs.Under.{rises_ascend}
use Rattle.range_set.proofs.Walked.{IsWalked, affected_same, alone_order, ascend_from, ascend_more, clear_chunk, run_forward, walked_alone, walked_clear, walked_each, walked_less, within_prefix}
use Rattle.range_set.proofs.WalkedGroups.{allowance_less, are_before, chunks_fit, walked_chunks}
use Rattle.range_set.proofs.moving.map_all.Goals as goal

pub moved_alone-requires-clause-inside : goal.moved_alone-requires-clause-inside
moved_alone-requires-clause-inside g c =
    let rules = g.T.RangeValue.rules in
    let d = c.args.changes.now in
    let gs = c.args.groups in
    let whole = flat (spread gs) in
    let base = c.in-Some.at in
    let later = spread c.in-Some.others in
    let p = c.in-Some-split_first.inner.now in
    let more = c.in-Some-split_first.more.now in
    let rest = map (move base) more ++ later in
    let done = put_down c.loop-inner.builder in
    let run = c.loop-inner.builder.run.items in
    let reached = c.loop-inner.walk.walker.reached in
    let reps = c.loop-inner.left.now in
    let after = c.ranges_from-left-in-Some-split_first.result.now in
    let kept = c.loop-inner.invariant in
    let here = subst (λ qs. IsWalked rules d whole (map (move base) qs ++ later) done run reached reps) c.in-Some-split_first.ensures.cases.0 kept.walked in
    let met = c.ranges_from-left-in-Some-split_first.ensures.same in
    let ranges = map (shift (p.start + base)) (content p).ranges in
    end_within (old_size c.loop-inner.walk.walker.desc) ranges
    (subst (λ (s : Sections). Within (old_size s) ranges) (sym kept.desc) (within_prefix (old_size d) ranges (flat rest) here.within))

pub returns-in_err-alone-clause-cost : goal.returns-in_err-alone-clause-cost
returns-in_err-alone-clause-cost g c =
    let rules = g.T.RangeValue.rules in
    let gs = c.args.groups in
    let top = allowed rules c.args.changes.now 0 (spread gs) (are_spread rules gs c.requires.groups) (rises_ascend rules (flat (spread gs)) (rises-no_fault rules (flat (spread gs)) c.requires.order)) in
    let spent = c.loop-inner.invariant.cost in
    omega (arith, top, spent)

pub put_chunk-requires-clause-order : goal.put_chunk-requires-clause-order
put_chunk-requires-clause-order g c =
    let rules = g.T.RangeValue.rules in
    let d = c.args.changes.now in
    let gs = c.args.groups in
    let whole = flat (spread gs) in
    let base = c.in-Some.at in
    let later = spread c.in-Some.others in
    let p = c.in-Some-split_first.inner.now in
    let more = c.in-Some-split_first.more.now in
    let rest = map (move base) more ++ later in
    let done = put_down c.loop-inner.builder in
    let run = c.loop-inner.builder.run.items in
    let reached = c.loop-inner.walk.walker.reached in
    let reps = c.loop-inner.left.now in
    let after = c.ranges_from-left-in-Some-split_first.result.now in
    let kept = c.loop-inner.invariant in
    let here = subst (λ qs. IsWalked rules d whole (map (move base) qs ++ later) done run reached reps) c.in-Some-split_first.ensures.cases.0 kept.walked in
    let met = c.ranges_from-left-in-Some-split_first.ensures.same in
    let told : IfSome (Some c.in-Some-2.alone) (λ new. IsMovedAlone rules c.loop-inner.walk.walker.desc (p.start + base) (content p) new.start (content new)) =
    subst (λ o. IfSome o (λ new. IsMovedAlone rules c.loop-inner.walk.walker.desc (p.start + base) (content p) new.start (content new))) c.in-Some-2.is c.in_ok-alone.ensures.moved in
    let alone = subst (λ (s : Sections). IsMovedAlone rules s (p.start + base) (content p) c.in-Some-2.alone.start (content c.in-Some-2.alone)) kept.desc told in
    alone_order rules d whole (move base p) c.in-Some-2.alone rest done run reached reps here alone

pub put_chunk-requires-clause-forward : goal.put_chunk-requires-clause-forward
put_chunk-requires-clause-forward g c =
    let gs = c.args.groups in
    let rest = map (move c.in-Some.at) c.loop-inner.chunks.now ++ spread c.in-Some.others in
    run_forward g.T.RangeValue.rules c.args.changes.now (flat (spread gs)) (put_down c.loop-inner.builder) c.loop-inner.builder.run.items (flat rest) c.loop-inner.invariant.walked.under

pub returns-in_err-put_chunk-clause-cost : goal.returns-in_err-put_chunk-clause-cost
returns-in_err-put_chunk-clause-cost g c =
    let rules = g.T.RangeValue.rules in
    let d = c.args.changes.now in
    let gs = c.args.groups in
    let whole = flat (spread gs) in
    let base = c.in-Some.at in
    let later = spread c.in-Some.others in
    let p = c.in-Some-split_first.inner.now in
    let more = c.in-Some-split_first.more.now in
    let rest = map (move base) more ++ later in
    let done = put_down c.loop-inner.builder in
    let run = c.loop-inner.builder.run.items in
    let reached = c.loop-inner.walk.walker.reached in
    let reps = c.loop-inner.left.now in
    let after = c.ranges_from-left-in-Some-split_first.result.now in
    let kept = c.loop-inner.invariant in
    let here = subst (λ qs. IsWalked rules d whole (map (move base) qs ++ later) done run reached reps) c.in-Some-split_first.ensures.cases.0 kept.walked in
    let met = c.ranges_from-left-in-Some-split_first.ensures.same in
    let affected = affected_same rules d whole (move base p) rest done run reached reps after here met c.is_affected.result c.is_affected.ensures in
    let top = allowed rules d 0 (spread gs) (are_spread rules gs c.requires.groups) (rises_ascend rules (flat (spread gs)) (rises-no_fault rules (flat (spread gs)) c.requires.order)) in
    let spent = kept.cost in
    let share = ap (λ x. cond x 128 0 + allowance rules d rest) (sym affected ∙ c.if-is_affected.true) in
    let at = ap (λ qs. allowance rules d (map (move base) qs ++ later)) c.in-Some-split_first.ensures.cases.0 in
    let each = c.tick.ensures in
    omega (arith, top, spent, each, share, at)

pub loop-inner-preserved-in-Continue-branch-6 : goal.loop-inner-preserved-in-Continue-branch-6
loop-inner-preserved-in-Continue-branch-6 g c =
    let rules = g.T.RangeValue.rules in
    let d = c.args.changes.now in
    let gs = c.args.groups in
    let whole = flat (spread gs) in
    let base = c.in-Some.at in
    let later = spread c.in-Some.others in
    let p = c.in-Some-split_first.inner.now in
    let more = c.in-Some-split_first.more.now in
    let rest = map (move base) more ++ later in
    let done = put_down c.loop-inner.builder in
    let run = c.loop-inner.builder.run.items in
    let reached = c.loop-inner.walk.walker.reached in
    let reps = c.loop-inner.left.now in
    let after = c.ranges_from-left-in-Some-split_first.result.now in
    let kept = c.loop-inner.invariant in
    let here = subst (λ qs. IsWalked rules d whole (map (move base) qs ++ later) done run reached reps) c.in-Some-split_first.ensures.cases.0 kept.walked in
    let met = c.ranges_from-left-in-Some-split_first.ensures.same in
    let affected = affected_same rules d whole (move base p) rest done run reached reps after here met c.is_affected.result c.is_affected.ensures in
    let top = allowed rules d 0 (spread gs) (are_spread rules gs c.requires.groups) (rises_ascend rules (flat (spread gs)) (rises-no_fault rules (flat (spread gs)) c.requires.order)) in
    let spent = kept.cost in
    let share = ap (λ x. cond x 128 0 + allowance rules d rest) (sym affected ∙ c.if-is_affected.true) in
    let at = ap (λ qs. allowance rules d (map (move base) qs ++ later)) c.in-Some-split_first.ensures.cases.0 in
    let told : IfSome (Some c.in-Some-2.alone) (λ new. IsMovedAlone rules c.loop-inner.walk.walker.desc (p.start + base) (content p) new.start (content new)) =
    subst (λ o. IfSome o (λ new. IsMovedAlone rules c.loop-inner.walk.walker.desc (p.start + base) (content p) new.start (content new))) c.in-Some-2.is c.in_ok-alone.ensures.moved in
    let alone = subst (λ (s : Sections). IsMovedAlone rules s (p.start + base) (content p) c.in-Some-2.alone.start (content c.in-Some-2.alone)) kept.desc told in
    let each = c.tick.ensures in
    let next = walked_alone rules d whole (move base p) c.in-Some-2.alone rest done run (put_down c.put_chunk.new.self) reached reps after here met alone c.in_ok-put_chunk.ensures.ranges in
    record {
      builder = c.in_ok-put_chunk.ensures.builder;
      walked = subst (λ rs. IsWalked rules d whole rest (put_down c.put_chunk.new.self) rs c.moved_alone.new.walk.walker.reached after) (sym c.in_ok-put_chunk.ensures.none)
          (walked_less rules d whole rest (put_down c.put_chunk.new.self) [] c.moved_alone.new.walk.walker.reached (p.start + base) after c.in_ok-alone.ensures.reached next);
      desc = c.in_ok-alone.ensures.desc ∙ kept.desc;
      clear = c.in_ok-alone.ensures.clear;
      begin = c.ranges_from-left-in-Some-split_first.ensures.order;
      cost = omega (arith, spent, each, share, at);
    }

pub map_each-requires-clause-inside : goal.map_each-requires-clause-inside
map_each-requires-clause-inside g c =
    let rules = g.T.RangeValue.rules in
    let d = c.args.changes.now in
    let gs = c.args.groups in
    let p = c.in-Some-split_first.inner.now in
    let more = c.in-Some-split_first.more.now in
    let start = c.in-Some.at in
    let later = spread c.in-Some.others in
    let rest = map (move start) more ++ later in
    let ranges = map (shift (p.start + start)) (content p).ranges in
    let kept = c.loop-inner.invariant in
    let here = subst (λ qs. IsWalked rules d (flat (spread gs)) (map (move start) qs ++ spread c.in-Some.others) (put_down c.loop-inner.builder) c.loop-inner.builder.run.items c.loop-inner.walk.walker.reached c.loop-inner.left.now) c.in-Some-split_first.ensures.cases.0 kept.walked in
    let desc = c.in_ok-alone.ensures.desc ∙ kept.desc in
    end_within (old_size c.moved_alone.new.walk.walker.desc) ranges
    (subst (λ (s : Sections). Within (old_size s) ranges) (sym desc) (within_prefix (old_size d) ranges (flat rest) here.within))

pub map_each-requires-clause-ascending : goal.map_each-requires-clause-ascending
map_each-requires-clause-ascending g c =
    let rules = g.T.RangeValue.rules in
    let d = c.args.changes.now in
    let gs = c.args.groups in
    let p = c.in-Some-split_first.inner.now in
    let more = c.in-Some-split_first.more.now in
    let start = c.in-Some.at in
    let later = spread c.in-Some.others in
    let rest = map (move start) more ++ later in
    let kept = c.loop-inner.invariant in
    let here = subst (λ qs. IsWalked rules d (flat (spread gs)) (map (move start) qs ++ spread c.in-Some.others) (put_down c.loop-inner.builder) c.loop-inner.builder.run.items c.loop-inner.walk.walker.reached c.loop-inner.left.now) c.in-Some-split_first.ensures.cases.0 kept.walked in
    let all = ascend-prefix c.loop-inner.walk.walker.reached (map (shift (p.start + start)) (content p).ranges) (flat rest) here.ascend in
    ascend_from c.moved_alone.new.walk.walker.reached c.loop-inner.walk.walker.reached (p.start + start) (content p).ranges here.chunks.0.0.first c.in_ok-alone.ensures.reached all

pub map_each-requires-clause-same : goal.map_each-requires-clause-same
map_each-requires-clause-same g c = λ a b l.
    let d = c.args.changes.now in
    let gs = c.args.groups in
    let p = c.in-Some-split_first.inner.now in
    let more = c.in-Some-split_first.more.now in
    let kept = c.loop-inner.invariant in
    let here = subst (λ qs. IsWalked g.T.RangeValue.rules d (flat (spread gs)) (map (move c.in-Some.at) qs ++ spread c.in-Some.others) (put_down c.loop-inner.builder) c.loop-inner.builder.run.items c.loop-inner.walk.walker.reached c.loop-inner.left.now) c.in-Some-split_first.ensures.cases.0 kept.walked in
    c.ranges_from-left-in-Some-split_first.ensures.same a b l ∙ (here.same a b l ∙ ap (λ (x : Sections). list_any (meets a b) (replaced x)) (sym (c.in_ok-alone.ensures.desc ∙ kept.desc)))

pub returns-in_err-map_each-clause-cost : goal.returns-in_err-map_each-clause-cost
returns-in_err-map_each-clause-cost g c =
    let rules = g.T.RangeValue.rules in
    let d = c.args.changes.now in
    let gs = c.args.groups in
    let p = c.in-Some-split_first.inner.now in
    let more = c.in-Some-split_first.more.now in
    let start = c.in-Some.at in
    let later = spread c.in-Some.others in
    let rest = map (move start) more ++ later in
    let done = put_down c.loop-inner.builder in
    let run = c.loop-inner.builder.run.items in
    let reached = c.loop-inner.walk.walker.reached in
    let reps = c.loop-inner.left.now in
    let kept = c.loop-inner.invariant in
    let here = subst (λ qs. IsWalked rules d (flat (spread gs)) (map (move start) qs ++ spread c.in-Some.others) (put_down c.loop-inner.builder) c.loop-inner.builder.run.items c.loop-inner.walk.walker.reached c.loop-inner.left.now) c.in-Some-split_first.ensures.cases.0 kept.walked in
    let affected = affected_same rules d (flat (spread gs)) (move start p) rest done run reached reps c.ranges_from-left-in-Some-split_first.result.now here c.ranges_from-left-in-Some-split_first.ensures.same c.is_affected.result c.is_affected.ensures in
    let top = allowed rules d 0 (spread gs) (are_spread rules gs c.requires.groups) (rises_ascend rules (flat (spread gs)) (rises-no_fault rules (flat (spread gs)) c.requires.order)) in
    let spent = kept.cost in
    let each = c.map_each.ensures.cost in
    let few = here.chunks.0.0.few in
    let share = ap (λ x. cond x 128 0 + allowance rules d rest) (sym affected ∙ c.if-is_affected.true) in
    let at = ap (λ qs. allowance rules d (map (move start) qs ++ later)) c.in-Some-split_first.ensures.cases.0 in
    omega (arith, top, spent, each, few, share, at)

pub place_after-to-requires-clause-inside : goal.place_after-to-requires-clause-inside
place_after-to-requires-clause-inside g c =
    let rules = g.T.RangeValue.rules in
    let d = c.args.changes.now in
    let gs = c.args.groups in
    let p = c.in-Some-split_first.inner.now in
    let more = c.in-Some-split_first.more.now in
    let start = c.in-Some.at in
    let later = spread c.in-Some.others in
    let rest = map (move start) more ++ later in
    let done = put_down c.loop-inner.builder in
    let run = c.loop-inner.builder.run.items in
    let reached = c.loop-inner.walk.walker.reached in
    let reps = c.loop-inner.left.now in
    let kept = c.loop-inner.invariant in
    let here = subst (λ qs. IsWalked rules d (flat (spread gs)) (map (move start) qs ++ spread c.in-Some.others) (put_down c.loop-inner.builder) c.loop-inner.builder.run.items c.loop-inner.walk.walker.reached c.loop-inner.left.now) c.in-Some-split_first.ensures.cases.0 kept.walked in
    let affected = affected_same rules d (flat (spread gs)) (move start p) rest done run reached reps c.ranges_from-left-in-Some-split_first.result.now here c.ranges_from-left-in-Some-split_first.ensures.same c.is_affected.result c.is_affected.ensures in
    let clear = clear_chunk rules d (flat (spread gs)) (move start p) rest done run reached reps here (sym affected ∙ c.if-is_affected.false) in
    let size = ap old_size kept.desc in
    let inside = clear.inside in
    omega (arith, size, inside)

pub place_after-to-requires-clause-ascending : goal.place_after-to-requires-clause-ascending
place_after-to-requires-clause-ascending g c =
    let rules = g.T.RangeValue.rules in
    let d = c.args.changes.now in
    let gs = c.args.groups in
    let p = c.in-Some-split_first.inner.now in
    let more = c.in-Some-split_first.more.now in
    let start = c.in-Some.at in
    let later = spread c.in-Some.others in
    let rest = map (move start) more ++ later in
    let done = put_down c.loop-inner.builder in
    let run = c.loop-inner.builder.run.items in
    let reached = c.loop-inner.walk.walker.reached in
    let reps = c.loop-inner.left.now in
    let kept = c.loop-inner.invariant in
    let here = subst (λ qs. IsWalked rules d (flat (spread gs)) (map (move start) qs ++ spread c.in-Some.others) (put_down c.loop-inner.builder) c.loop-inner.builder.run.items c.loop-inner.walk.walker.reached c.loop-inner.left.now) c.in-Some-split_first.ensures.cases.0 kept.walked in
    let affected = affected_same rules d (flat (spread gs)) (move start p) rest done run reached reps c.ranges_from-left-in-Some-split_first.result.now here c.ranges_from-left-in-Some-split_first.ensures.same c.is_affected.result c.is_affected.ensures in
    let clear = clear_chunk rules d (flat (spread gs)) (move start p) rest done run reached reps here (sym affected ∙ c.if-is_affected.false) in
    clear.ascend

pub place_after-to-requires-clause-clear : goal.place_after-to-requires-clause-clear
place_after-to-requires-clause-clear g c =
    let rules = g.T.RangeValue.rules in
    let d = c.args.changes.now in
    let gs = c.args.groups in
    let p = c.in-Some-split_first.inner.now in
    let more = c.in-Some-split_first.more.now in
    let start = c.in-Some.at in
    let later = spread c.in-Some.others in
    let rest = map (move start) more ++ later in
    let done = put_down c.loop-inner.builder in
    let run = c.loop-inner.builder.run.items in
    let reached = c.loop-inner.walk.walker.reached in
    let reps = c.loop-inner.left.now in
    let kept = c.loop-inner.invariant in
    let here = subst (λ qs. IsWalked rules d (flat (spread gs)) (map (move start) qs ++ spread c.in-Some.others) (put_down c.loop-inner.builder) c.loop-inner.builder.run.items c.loop-inner.walk.walker.reached c.loop-inner.left.now) c.in-Some-split_first.ensures.cases.0 kept.walked in
    let affected = affected_same rules d (flat (spread gs)) (move start p) rest done run reached reps c.ranges_from-left-in-Some-split_first.result.now here c.ranges_from-left-in-Some-split_first.ensures.same c.is_affected.result c.is_affected.ensures in
    let clear = clear_chunk rules d (flat (spread gs)) (move start p) rest done run reached reps here (sym affected ∙ c.if-is_affected.false) in
    subst (λ (x : Sections). IsClear (p.start + start) (p.start + start) x) (sym kept.desc) clear.clear

pub place_after-to-requires-clause-same : goal.place_after-to-requires-clause-same
place_after-to-requires-clause-same g c = λ a b m.
    let rules = g.T.RangeValue.rules in
    let d = c.args.changes.now in
    let gs = c.args.groups in
    let p = c.in-Some-split_first.inner.now in
    let more = c.in-Some-split_first.more.now in
    let start = c.in-Some.at in
    let later = spread c.in-Some.others in
    let rest = map (move start) more ++ later in
    let done = put_down c.loop-inner.builder in
    let run = c.loop-inner.builder.run.items in
    let reached = c.loop-inner.walk.walker.reached in
    let reps = c.loop-inner.left.now in
    let kept = c.loop-inner.invariant in
    let here = subst (λ qs. IsWalked rules d (flat (spread gs)) (map (move start) qs ++ spread c.in-Some.others) (put_down c.loop-inner.builder) c.loop-inner.builder.run.items c.loop-inner.walk.walker.reached c.loop-inner.left.now) c.in-Some-split_first.ensures.cases.0 kept.walked in
    c.ranges_from-left-in-Some-split_first.ensures.same a b m ∙ (here.same a b m ∙ ap (λ (x : Sections). list_any (meets a b) (replaced x)) (sym kept.desc))

pub share_chunk-requires-clause-order : goal.share_chunk-requires-clause-order
share_chunk-requires-clause-order g c =
    let rules = g.T.RangeValue.rules in
    let d = c.args.changes.now in
    let gs = c.args.groups in
    let p = c.in-Some-split_first.inner.now in
    let more = c.in-Some-split_first.more.now in
    let start = c.in-Some.at in
    let later = spread c.in-Some.others in
    let rest = map (move start) more ++ later in
    let done = put_down c.loop-inner.builder in
    let run = c.loop-inner.builder.run.items in
    let reached = c.loop-inner.walk.walker.reached in
    let reps = c.loop-inner.left.now in
    let kept = c.loop-inner.invariant in
    let here = subst (λ qs. IsWalked rules d (flat (spread gs)) (map (move start) qs ++ spread c.in-Some.others) (put_down c.loop-inner.builder) c.loop-inner.builder.run.items c.loop-inner.walk.walker.reached c.loop-inner.left.now) c.in-Some-split_first.ensures.cases.0 kept.walked in
    let affected = affected_same rules d (flat (spread gs)) (move start p) rest done run reached reps c.ranges_from-left-in-Some-split_first.result.now here c.ranges_from-left-in-Some-split_first.ensures.same c.is_affected.result c.is_affected.ensures in
    let clear = clear_chunk rules d (flat (spread gs)) (move start p) rest done run reached reps here (sym affected ∙ c.if-is_affected.false) in
    clear.order

pub share_chunk-requires-clause-forward : goal.share_chunk-requires-clause-forward
share_chunk-requires-clause-forward g c =
    let gs = c.args.groups in
    let rest = map (move c.in-Some.at) c.loop-inner.chunks.now ++ spread c.in-Some.others in
    run_forward g.T.RangeValue.rules c.args.changes.now (flat (spread gs)) (put_down c.loop-inner.builder) c.loop-inner.builder.run.items (flat rest) c.loop-inner.invariant.walked.under

pub share_chunk-requires-clause-chunk : goal.share_chunk-requires-clause-chunk
share_chunk-requires-clause-chunk g c =
    let rules = g.T.RangeValue.rules in
    let d = c.args.changes.now in
    let gs = c.args.groups in
    let p = c.in-Some-split_first.inner.now in
    let more = c.in-Some-split_first.more.now in
    let base = c.in-Some.at in
    let later = spread c.in-Some.others in
    let rest = map (move base) more ++ later in
    let done = put_down c.loop-inner.builder in
    let run = c.loop-inner.builder.run.items in
    let reached = c.loop-inner.walk.walker.reached in
    let reps = c.loop-inner.left.now in
    let kept = c.loop-inner.invariant in
    let here = subst (λ qs. IsWalked rules d (flat (spread gs)) (map (move base) qs ++ spread c.in-Some.others) (put_down c.loop-inner.builder) c.loop-inner.builder.run.items c.loop-inner.walk.walker.reached c.loop-inner.left.now) c.in-Some-split_first.ensures.cases.0 kept.walked in
    let affected = affected_same rules d (flat (spread gs)) (move base p) rest done run reached reps c.ranges_from-left-in-Some-split_first.result.now here c.ranges_from-left-in-Some-split_first.ensures.same c.is_affected.result c.is_affected.ensures in
    let clear = clear_chunk rules d (flat (spread gs)) (move base p) rest done run reached reps here (sym affected ∙ c.if-is_affected.false) in
    let start : c.place_after-to.result ≡ clear_place d (p.start + base) =
    c.place_after-to.ensures.value ∙ (ap (λ (s : Sections). place_after s (p.start + base) true) kept.desc ∙ ap (λ o. unwrap_or o 0) (map_pos-clear d (p.start + base) true Simple clear.inside clear.clear)) in
    let fits = clear.fits in
    let bound = c.new_len-new_len.ensures in
    let size = c.new_len-new_len.type_inv in
    chunk_placed rules (p.start + base) c.place_after-to.result (content p) here.chunks.0.0 (omega (arith, start, fits, bound, size))

pub returns-in_err-share_chunk-clause-cost : goal.returns-in_err-share_chunk-clause-cost
returns-in_err-share_chunk-clause-cost g c =
    let rules = g.T.RangeValue.rules in
    let gs = c.args.groups in
    let top = allowed rules c.args.changes.now 0 (spread gs) (are_spread rules gs c.requires.groups) (rises_ascend rules (flat (spread gs)) (rises-no_fault rules (flat (spread gs)) c.requires.order)) in
    let spent = c.loop-inner.invariant.cost in
    omega (arith, top, spent)

pub loop-inner-preserved : goal.loop-inner-preserved
loop-inner-preserved g c =
    let rules = g.T.RangeValue.rules in
    let d = c.args.changes.now in
    let gs = c.args.groups in
    let whole = flat (spread gs) in
    let base = c.in-Some.at in
    let later = spread c.in-Some.others in
    let p = c.in-Some-split_first.inner.now in
    let more = c.in-Some-split_first.more.now in
    let rest = map (move base) more ++ later in
    let done = put_down c.loop-inner.builder in
    let run = c.loop-inner.builder.run.items in
    let reached = c.loop-inner.walk.walker.reached in
    let reps = c.loop-inner.left.now in
    let after = c.ranges_from-left-in-Some-split_first.result.now in
    let kept = c.loop-inner.invariant in
    let here = subst (λ qs. IsWalked rules d whole (map (move base) qs ++ later) done run reached reps) c.in-Some-split_first.ensures.cases.0 kept.walked in
    let met = c.ranges_from-left-in-Some-split_first.ensures.same in
    let affected = affected_same rules d whole (move base p) rest done run reached reps after here met c.is_affected.result c.is_affected.ensures in
    let clear = clear_chunk rules d whole (move base p) rest done run reached reps here (sym affected ∙ c.if-is_affected.false) in
    let from = p.start + base in
    let start : c.place_after-to.result ≡ clear_place d from =
    c.place_after-to.ensures.value ∙ (ap (λ (x : Sections). place_after x from true) kept.desc ∙ ap (λ o. unwrap_or o 0) (map_pos-clear d from true Simple clear.inside clear.clear)) in
    let put = put_down c.share_chunk.new.self in
    let next = walked_clear rules d whole (move base p) rest done run put reached reps after here met clear
    (c.in_ok-share_chunk.ensures.ranges ∙ ap (λ n. done ++ stable_sort (before rules) run ++ map (shift n) (content p).ranges) start) in
    let same : (b : ℕ) → list_any (meets from b) after ≡ list_any (meets from b) (replaced d) = λ b. met from b (omega arith) ∙ here.same from b (omega arith) in
    let at = ap (λ qs. allowance rules d (map (move base) qs ++ later)) c.in-Some-split_first.ensures.cases.0 in
    let shared = c.in_ok-chunks.ensures.shared in
    let left = map (move base) c.in_ok-chunks.chunks.now in
    let taken = shared.taken in
    let walk = c.place_after-to.new.self.walker.reached in
    let old = flat (grouped c.share_chunk.new.self.groups) in
    let chunks = built c.share_chunk.new.self.chunks in
    let new = built c.share_carried-else-is_affected.new.self in
    let carried = flat (map (carry_chunk from (clear_place d from)) taken) in
    let is : old ++ new ≡ put ++ carried =
    ap (λ rs. old ++ rs) (shared.ranges ∙ ap (λ n. chunks ++ flat (map (carry_chunk from n) taken)) start) ∙ sym (append_assoc old chunks carried) in
    let parts : rest ≡ taken ++ (left ++ later) = ap (λ qs. qs ++ later) shared.is ∙ append_assoc taken left later in
    let spent = kept.cost in
    let share = ap (λ x. cond x 128 0 + allowance rules d rest) (sym affected ∙ c.if-is_affected.false) in
    let cut = ap (allowance rules d) parts in
    let less = allowance_less rules d taken (left ++ later) in
    record {
      builder = record { groups = c.in_ok-share_chunk.ensures.builder.groups; chunks = c.in_ok-chunks.ensures.builder };
      walked = subst (λ rs. IsWalked rules d whole (left ++ later) (old ++ new) rs walk after) (sym c.in_ok-share_chunk.ensures.none)
          (walked_chunks rules d whole from taken (left ++ later) put (old ++ new) walk after c.place_after-to.ensures.reached
          (subst (λ qs. IsWalked rules d whole qs put [] walk after) parts (walked_less rules d whole rest put [] walk from after c.place_after-to.ensures.reached next))
          (subst (λ qs. Ascend from (flat qs)) parts next.ascend) same shared.apart is);
      desc = c.place_after-to.ensures.desc ∙ kept.desc;
      clear = c.place_after-to.ensures.walk;
      begin = c.ranges_from-left-in-Some-split_first.ensures.order;
      cost = omega (arith, spent, at, share, cut, less);
    }

pub loop-inner-preserved-in-Continue-branch-7 : goal.loop-inner-preserved-in-Continue-branch-7
loop-inner-preserved-in-Continue-branch-7 g c =
    let rules = g.T.RangeValue.rules in
    let d = c.args.changes.now in
    let gs = c.args.groups in
    let whole = flat (spread gs) in
    let base = c.in-Some.at in
    let later = spread c.in-Some.others in
    let p = c.in-Some-split_first.inner.now in
    let more = c.in-Some-split_first.more.now in
    let rest = map (move base) more ++ later in
    let done = put_down c.loop-inner.builder in
    let run = c.loop-inner.builder.run.items in
    let reached = c.loop-inner.walk.walker.reached in
    let reps = c.loop-inner.left.now in
    let after = c.ranges_from-left-in-Some-split_first.result.now in
    let kept = c.loop-inner.invariant in
    let here = subst (λ qs. IsWalked rules d whole (map (move base) qs ++ later) done run reached reps) c.in-Some-split_first.ensures.cases.0 kept.walked in
    let met = c.ranges_from-left-in-Some-split_first.ensures.same in
    let affected = affected_same rules d whole (move base p) rest done run reached reps after here met c.is_affected.result c.is_affected.ensures in
    let at = ap (λ qs. allowance rules d (map (move base) qs ++ later)) c.in-Some-split_first.ensures.cases.0 in
    let from = p.start + base in
    let ranges = map (shift (p.start + base)) (content p).ranges in
    let spent = kept.cost in
    let few = here.chunks.0.0.few in
    let each = c.map_each.ensures.cost in
    let share = ap (λ x. cond x 128 0 + allowance rules d rest) (sym affected ∙ c.if-is_affected.true) in
    let desc = c.in_ok-alone.ensures.desc ∙ kept.desc in
    let moved_all = c.in_ok-map_each.ensures.run ∙ ap (λ (s : Sections). run ++ filter_map (moved rules s) ranges) desc in
    record {
      builder = record { groups = kept.builder.groups; chunks = kept.builder.chunks };
      walked = walked_each rules d whole (move base p) rest done run c.map_each.new.run.items reached c.map_each.new.walk.walker.reached reps after here met moved_all
          (λ later h. c.in_ok-map_each.ensures.walk later (ascend_more c.moved_alone.new.walk.walker.reached reached from (content p).ranges later here.chunks.0.0.first here.chunks.0.1 c.in_ok-alone.ensures.reached h));
      desc = c.in_ok-map_each.ensures.desc ∙ desc;
      clear = c.in_ok-map_each.ensures.clear;
      begin = c.ranges_from-left-in-Some-split_first.ensures.order;
      cost = omega (arith, spent, each, few, share, at);
    }

pub loop-inner-smaller : goal.loop-inner-smaller
loop-inner-smaller g c =
    let base = c.in-Some.at in
    let more = c.in-Some-split_first.more.now in
    let left = c.in_ok-chunks.chunks.now in
    let shared = c.in_ok-chunks.ensures.shared in
    let n = ap length c.in-Some-split_first.ensures.cases.0 in
    let m = ap length shared.is ∙ length-append shared.taken (map (move base) left) in
    let k = length-map more (move base) in
    let l = length-map left (move base) in
    omega (arith, n, m, k, l)

pub share_carried-requires-else-is_affected-clause-chunks : goal.share_carried-requires-else-is_affected-clause-chunks
share_carried-requires-else-is_affected-clause-chunks g c =
    let rules = g.T.RangeValue.rules in
    let d = c.args.changes.now in
    let gs = c.args.groups in
    let whole = flat (spread gs) in
    let base = c.in-Some.at in
    let later = spread c.in-Some.others in
    let p = c.in-Some-split_first.inner.now in
    let more = c.in-Some-split_first.more.now in
    let rest = map (move base) more ++ later in
    let done = put_down c.loop-inner.builder in
    let run = c.loop-inner.builder.run.items in
    let reached = c.loop-inner.walk.walker.reached in
    let reps = c.loop-inner.left.now in
    let after = c.ranges_from-left-in-Some-split_first.result.now in
    let kept = c.loop-inner.invariant in
    let here = subst (λ qs. IsWalked rules d whole (map (move base) qs ++ later) done run reached reps) c.in-Some-split_first.ensures.cases.0 kept.walked in
    let met = c.ranges_from-left-in-Some-split_first.ensures.same in
    let affected = affected_same rules d whole (move base p) rest done run reached reps after here met c.is_affected.result c.is_affected.ensures in
    let clear = clear_chunk rules d whole (move base p) rest done run reached reps here (sym affected ∙ c.if-is_affected.false) in
    let from = p.start + base in
    let start : c.place_after-to.result ≡ clear_place d from =
    c.place_after-to.ensures.value ∙ (ap (λ (x : Sections). place_after x from true) kept.desc ∙ ap (λ o. unwrap_or o 0) (map_pos-clear d from true Simple clear.inside clear.clear)) in
    let put = put_down c.share_chunk.new.self in
    let next = walked_clear rules d whole (move base p) rest done run put reached reps after here met clear
    (c.in_ok-share_chunk.ensures.ranges ∙ ap (λ n. done ++ stable_sort (before rules) run ++ map (shift n) (content p).ranges) start) in
    are_before rules d (map (move base) more) later next.chunks

pub share_carried-requires-else-is_affected-clause-ascend : goal.share_carried-requires-else-is_affected-clause-ascend
share_carried-requires-else-is_affected-clause-ascend g c =
    let rules = g.T.RangeValue.rules in
    let d = c.args.changes.now in
    let gs = c.args.groups in
    let whole = flat (spread gs) in
    let base = c.in-Some.at in
    let later = spread c.in-Some.others in
    let p = c.in-Some-split_first.inner.now in
    let more = c.in-Some-split_first.more.now in
    let rest = map (move base) more ++ later in
    let done = put_down c.loop-inner.builder in
    let run = c.loop-inner.builder.run.items in
    let reached = c.loop-inner.walk.walker.reached in
    let reps = c.loop-inner.left.now in
    let after = c.ranges_from-left-in-Some-split_first.result.now in
    let kept = c.loop-inner.invariant in
    let here = subst (λ qs. IsWalked rules d whole (map (move base) qs ++ later) done run reached reps) c.in-Some-split_first.ensures.cases.0 kept.walked in
    let met = c.ranges_from-left-in-Some-split_first.ensures.same in
    let affected = affected_same rules d whole (move base p) rest done run reached reps after here met c.is_affected.result c.is_affected.ensures in
    let clear = clear_chunk rules d whole (move base p) rest done run reached reps here (sym affected ∙ c.if-is_affected.false) in
    let from = p.start + base in
    let start : c.place_after-to.result ≡ clear_place d from =
    c.place_after-to.ensures.value ∙ (ap (λ (x : Sections). place_after x from true) kept.desc ∙ ap (λ o. unwrap_or o 0) (map_pos-clear d from true Simple clear.inside clear.clear)) in
    let put = put_down c.share_chunk.new.self in
    let next = walked_clear rules d whole (move base p) rest done run put reached reps after here met clear
    (c.in_ok-share_chunk.ensures.ranges ∙ ap (λ n. done ++ stable_sort (before rules) run ++ map (shift n) (content p).ranges) start) in
    ascend-prefix from (flat (map (move base) more)) (flat later) (subst (Ascend from) (flat-append (map (move base) more) later) next.ascend)

pub share_carried-requires-else-is_affected-clause-fits : goal.share_carried-requires-else-is_affected-clause-fits
share_carried-requires-else-is_affected-clause-fits g c =
    let rules = g.T.RangeValue.rules in
    let d = c.args.changes.now in
    let gs = c.args.groups in
    let whole = flat (spread gs) in
    let base = c.in-Some.at in
    let later = spread c.in-Some.others in
    let p = c.in-Some-split_first.inner.now in
    let more = c.in-Some-split_first.more.now in
    let rest = map (move base) more ++ later in
    let done = put_down c.loop-inner.builder in
    let run = c.loop-inner.builder.run.items in
    let reached = c.loop-inner.walk.walker.reached in
    let reps = c.loop-inner.left.now in
    let after = c.ranges_from-left-in-Some-split_first.result.now in
    let kept = c.loop-inner.invariant in
    let here = subst (λ qs. IsWalked rules d whole (map (move base) qs ++ later) done run reached reps) c.in-Some-split_first.ensures.cases.0 kept.walked in
    let met = c.ranges_from-left-in-Some-split_first.ensures.same in
    let affected = affected_same rules d whole (move base p) rest done run reached reps after here met c.is_affected.result c.is_affected.ensures in
    let clear = clear_chunk rules d whole (move base p) rest done run reached reps here (sym affected ∙ c.if-is_affected.false) in
    let from = p.start + base in
    let start : c.place_after-to.result ≡ clear_place d from =
    c.place_after-to.ensures.value ∙ (ap (λ (x : Sections). place_after x from true) kept.desc ∙ ap (λ o. unwrap_or o 0) (map_pos-clear d from true Simple clear.inside clear.clear)) in
    let put = put_down c.share_chunk.new.self in
    let next = walked_clear rules d whole (move base p) rest done run put reached reps after here met clear
    (c.in_ok-share_chunk.ensures.ranges ∙ ap (λ n. done ++ stable_sort (before rules) run ++ map (shift n) (content p).ranges) start) in
    let same : (b : ℕ) → list_any (meets from b) after ≡ list_any (meets from b) (replaced d) = λ b. met from b (omega arith) ∙ here.same from b (omega arith) in
    let bound = c.new_len-new_len.ensures in
    let size = c.new_len-new_len.type_inv in
    subst (λ n. FitCarriedChunks from n after (map (move base) more)) (sym start) (chunks_fit rules d from after (map (move base) more) later next.chunks next.ascend next.within same (omega (arith, bound, size)))

pub returns-in_err-chunks-clause-cost : goal.returns-in_err-chunks-clause-cost
returns-in_err-chunks-clause-cost g c =
    let rules = g.T.RangeValue.rules in
    let gs = c.args.groups in
    let top = allowed rules c.args.changes.now 0 (spread gs) (are_spread rules gs c.requires.groups) (rises_ascend rules (flat (spread gs)) (rises-no_fault rules (flat (spread gs)) c.requires.order)) in
    let spent = c.loop-inner.invariant.cost in
    omega (arith, top, spent)
