use Rattle.std.proofs.Common.{◌+◌, ◌<◌, ◌^◌, ◌++◌, length, map, ap, sym, subst, ◌∙◌, arith}
use Rattle.std.proofs.lemmas.List.{length-append}
use Rattle.range_set.specs.PrivateChunks.{AreGroups, AreShared, Ascend, FitCarried, flat, spread}
use Rattle.range_set.specs.PrivateBuilders.{grouped}
use Rattle.range_set.specs.PrivatePages.{further, laid}
use Rattle.range_set.proofs.CarriedPages.{fit_first, left_shared, shared_first, shared_on}
use Rattle.range_set.proofs.Chunks.{ascend-prefix, none_left}
use Rattle.range_set.proofs.Groups.{flat-spread_append, groups_right}
use Rattle.range_set.proofs.Pages.{no_groups}
use Rattle.range_set.proofs.group_builder.GroupBuilder.share_carried.Goals as goal

pub loop-base-init : goal.loop-base-init
loop-base-init g c =
    let from = c.args.from in
    let to = c.args.to in
    let changed = c.args.changed.now in
    let old = c.args.self.now in
    let new = c.share_carried_pages.new.self in
    let rest = c.in_ok-rest.rest in
    let shared = c.in_ok-rest.ensures.shared in
    let left = left_shared g.T.RangeValue.rules from to changed c.args.groups rest (flat (grouped old)) (flat (grouped new)) shared c.requires.ascend c.requires.fits in
    let n = left.room in
    let most = c.requires.room in
    record {
      builder = c.in_ok-rest.ensures.builder;
      ascend = left.ascend;
      fits = left.fits;
      room = omega (arith, n, most);
      shared = shared;
    }

pub share_carried_groups-requires : goal.share_carried_groups-requires
share_carried_groups-requires g c =
    let from = c.args.from in
    let at = c.loop-base.invariant in
    let next = c.in-Some.ensures.some in
    let opened = map (further c.in-Some.base) c.in-Some.opened.now in
    let others = laid c.in-Some.pages.now in
    let parts = flat-spread_append opened others in
    let n = ap length parts ∙ length-append (flat (spread opened)) (flat (spread others)) in
    let room = subst (λ gs. length (flat (grouped c.loop-base.self)) + length (flat (spread gs)) < 2 ^ 64) next.is at.room in
    record {
      builder = at.builder;
      groups = next.left.opened;
      ascend = ascend-prefix from (flat (spread opened)) (flat (spread others)) (subst (Ascend from) parts (subst (λ gs. Ascend from (flat (spread gs))) next.is at.ascend));
      fits = fit_first from c.args.to c.args.changed.now opened others (subst (FitCarried from c.args.to c.args.changed.now) next.is at.fits);
      order = c.requires.order;
      first = c.requires.first;
      room = omega (arith, n, room);
    }

pub at-requires : goal.at-requires
at-requires g c =
    let left = c.in-Some.ensures.some.left in
    let one = c.in_ok-left.ensures.shared in
    record {
      opened = groups_right g.T.RangeValue.rules one.taken (map (further c.in-Some.base) c.in_ok-left.left.now) (subst (AreGroups g.T.RangeValue.rules) one.is left.opened);
      others = left.others;
    }

pub returns-then-not-is_empty-clause-shared : goal.returns-then-not-is_empty-clause-shared
returns-then-not-is_empty-clause-shared g c =
    let from = c.args.from in
    let to = c.args.to in
    let changed = c.args.changed.now in
    let next = c.in-Some.ensures.some in
    let left = map (further c.in-Some.base) c.in_ok-left.left.now in
    let others = laid c.in-Some.pages.now in
    let mid = flat (grouped c.loop-base.self) in
    let new = flat (grouped c.share_carried_groups.new.self) in
    let wide = subst (λ gs. AreShared from to changed gs (left ++ others) mid new) (sym next.is) (shared_first from to changed (map (further c.in-Some.base) c.in-Some.opened.now) left others mid new c.in_ok-left.ensures.shared) in
    shared_on from to changed _ _ _ _ _ _ c.loop-base.invariant.shared (subst (λ gs. AreShared from to changed c.loop-base.rest gs mid new) (sym c.at.ensures) wide)

pub share_carried_pages-requires-in-Some : goal.share_carried_pages-requires-in-Some
share_carried_pages-requires-in-Some g c =
    let from = c.args.from in
    let to = c.args.to in
    let changed = c.args.changed.now in
    let next = c.in-Some.ensures.some in
    let left = map (further c.in-Some.base) c.in_ok-left.left.now in
    let others = laid c.in-Some.pages.now in
    let mid = flat (grouped c.loop-base.self) in
    let new = flat (grouped c.share_carried_groups.new.self) in
    let wide = subst (λ gs. AreShared from to changed gs (left ++ others) mid new) (sym next.is) (shared_first from to changed (map (further c.in-Some.base) c.in-Some.opened.now) left others mid new c.in_ok-left.ensures.shared) in
    let none = ap (λ gs. map (further c.in-Some.base) gs ++ others) (no_groups c.in_ok-left.left.now (none_left _ (sym c.is_empty.ensures ∙ c.if-not-is_empty.false))) in
    let page = subst (λ gs. AreShared from to changed c.loop-base.rest gs mid new) (none ∙ sym c.over.ensures) wide in
    let after = left_shared g.T.RangeValue.rules from to changed _ _ _ _ page c.loop-base.invariant.ascend c.loop-base.invariant.fits in
    let n = after.room in
    let most = c.loop-base.invariant.room in
    record {
      builder = c.in_ok-left.ensures.builder;
      ascend = after.ascend;
      fits = after.fits;
      order = c.requires.order;
      first = c.requires.first;
      room = omega (arith, n, most);
    }

pub loop-base-preserved : goal.loop-base-preserved
loop-base-preserved g c =
    let from = c.args.from in
    let to = c.args.to in
    let changed = c.args.changed.now in
    let next = c.in-Some.ensures.some in
    let left = map (further c.in-Some.base) c.in_ok-left.left.now in
    let others = laid c.in-Some.pages.now in
    let mid = flat (grouped c.loop-base.self) in
    let new = flat (grouped c.share_carried_groups.new.self) in
    let wide = subst (λ gs. AreShared from to changed gs (left ++ others) mid new) (sym next.is) (shared_first from to changed (map (further c.in-Some.base) c.in-Some.opened.now) left others mid new c.in_ok-left.ensures.shared) in
    let none = ap (λ gs. map (further c.in-Some.base) gs ++ others) (no_groups c.in_ok-left.left.now (none_left _ (sym c.is_empty.ensures ∙ c.if-not-is_empty.false))) in
    let page = subst (λ gs. AreShared from to changed c.loop-base.rest gs mid new) (none ∙ sym c.over.ensures) wide in
    let all = shared_on from to changed _ _ _ _ _ _ page c.in_ok-rest-2.ensures.shared in
    let after = left_shared g.T.RangeValue.rules from to changed _ _ _ _ all c.loop-base.invariant.ascend c.loop-base.invariant.fits in
    let n = after.room in
    let most = c.loop-base.invariant.room in
    record {
      builder = c.in_ok-rest-2.ensures.builder;
      ascend = after.ascend;
      fits = after.fits;
      room = omega (arith, n, most);
      shared = shared_on from to changed _ _ _ _ _ _ c.loop-base.invariant.shared all;
    }
