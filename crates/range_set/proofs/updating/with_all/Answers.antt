use Rattle.std.proofs.Common.{of_calls, ◌≡◌, ◌-◌, ◌++◌, ◌∙◌, List, Some, true, ap, length, map, subst, sym}
use Rattle.std.specs.Prelude.{slice_get}
use Rattle.range_set.specs.PrivateChunks.{AreChunks, flat, lengthen}
use Rattle.range_set.specs.declared.ranged.Ranged.{Ranged}
use Rattle.range_set.proofs.Groups.{AreChunks-append, flat-unmoved, lengthened_none, moved_none}
use Rattle.range_set.proofs.PartedChunks.{add_between, are_parted, joined_ranges, rest_chunks}
use Rattle.range_set.proofs.RangeOrder.{rises-no_fault}
use Rattle.range_set.proofs.Under.{rises_ascend}
use Rattle.range_set.proofs.updating.with_all.Goals as goal

pub parted_under-requires-clause-ascend : goal.parted_under-requires-clause-ascend
parted_under-requires-clause-ascend g c =
    let rules = g.T.RangeValue.rules in
    rises_ascend rules (flat c.args.chunks.now) (rises-no_fault rules (flat c.args.chunks.now) c.requires.order)

pub parted_past-requires-clause-chunks : goal.parted_past-requires-clause-chunks
parted_past-requires-clause-chunks g c =
    (rest_chunks g.T.RangeValue.rules c.args.chunks.now c.parted_under.result.0.now c.parted_under.result.1.now c.parted_under.ensures.parts c.requires.chunks c.requires.order).0

pub parted_past-requires-clause-ascend : goal.parted_past-requires-clause-ascend
parted_past-requires-clause-ascend g c =
    (rest_chunks g.T.RangeValue.rules c.args.chunks.now c.parted_under.result.0.now c.parted_under.result.1.now c.parted_under.ensures.parts c.requires.chunks c.requires.order).1

pub share_each-requires-clause-chunks : goal.share_each-requires-clause-chunks
share_each-requires-clause-chunks g c = subst (AreChunks g.T.RangeValue.rules) (sym (moved_none (map (lengthen 0) c.parted_under.result.0.now) ∙ lengthened_none c.parted_under.result.0.now)) (are_parted g.T.RangeValue.rules c.args.chunks.now c.parted_under.result.0.now c.parted_under.result.1.now c.parted_past.result.0.now c.parted_past.result.1.now
    c.parted_under.ensures.parts c.parted_past.ensures.parts c.requires.chunks c.requires.order).first

pub updated_chunks-requires-clause-chunks : goal.updated_chunks-requires-clause-chunks
updated_chunks-requires-clause-chunks g c = (are_parted g.T.RangeValue.rules c.args.chunks.now c.parted_under.result.0.now c.parted_under.result.1.now c.parted_past.result.0.now c.parted_past.result.1.now
    c.parted_under.ensures.parts c.parted_past.ensures.parts c.requires.chunks c.requires.order).second

pub updated_chunks-requires-clause-order : goal.updated_chunks-requires-clause-order
updated_chunks-requires-clause-order g c = (are_parted g.T.RangeValue.rules c.args.chunks.now c.parted_under.result.0.now c.parted_under.result.1.now c.parted_past.result.0.now c.parted_past.result.1.now
    c.parted_under.ensures.parts c.parted_past.ensures.parts c.requires.chunks c.requires.order).order

pub share_each-requires-2-clause-chunks : goal.share_each-requires-2-clause-chunks
share_each-requires-2-clause-chunks g c = subst (AreChunks g.T.RangeValue.rules) (sym (moved_none (map (lengthen 0) c.parted_past.result.1.now) ∙ lengthened_none c.parted_past.result.1.now)) (are_parted g.T.RangeValue.rules c.args.chunks.now c.parted_under.result.0.now c.parted_under.result.1.now c.parted_past.result.0.now c.parted_past.result.1.now
    c.parted_under.ensures.parts c.parted_past.ensures.parts c.requires.chunks c.requires.order).third

pub share_each-requires-2-clause-made : goal.share_each-requires-2-clause-made
share_each-requires-2-clause-made g c =
    let rules = g.T.RangeValue.rules in
    subst (AreChunks rules) (sym c.in_ok-append.ensures.items) (AreChunks-append rules c.share_each.new.made.items c.in_ok-updated.updated.items c.in_ok-share_each.ensures.chunks c.in_ok-updated.ensures.chunks)

pub returns-clause-order : goal.returns-clause-order
returns-clause-order g c =
    let rules = g.T.RangeValue.rules in
    let add = c.args.add.items in
    let xs = c.parted_under.result.0.now in
    let ys = c.parted_past.result.0.now in
    let zs = c.parted_past.result.1.now in
    let some = c.in-Some-Some in
    let parts = are_parted rules c.args.chunks.now xs c.parted_under.result.1.now ys zs c.parted_under.ensures.parts c.parted_past.ensures.parts c.requires.chunks c.requires.order in
    let all = joined_ranges rules c.in_ok-made.made.items xs c.share_each.new.made.items c.in_ok-updated.updated.items c.append.new.self.items zs c.share_each-2.new.made.items
    c.in_ok-made.ensures.items (c.in_ok-share_each.ensures.ranges ∙ ap (λ rs. flat c.in_ok-made.made.items ++ rs) (flat-unmoved (map (lengthen 0) xs) ∙ ap flat (lengthened_none xs))) c.in_ok-append.ensures.items
    (c.in_ok-share_each-2.ensures.ranges ∙ ap (λ rs. flat c.append.new.self.items ++ rs) (flat-unmoved (map (lengthen 0) zs) ∙ ap flat (lengthened_none zs))) in
    (add_between rules c.args.chunks.now xs ys zs c.in_ok-updated.updated.items c.share_each-2.new.made.items add some.first.now some.last.now parts c.requires.added
    (subst (λ (rs : List (Ranged g.row.T.Denot)). slice_get rs 0 ≡ Some some.first.now) c.deref.ensures.value (sym some.ensures.value))
    (subst (λ (rs : List (Ranged g.row.T.Denot)). slice_get rs (length rs - 1) ≡ Some some.last.now) c.deref-2.ensures.value (sym some.ensures'.value))
    c.parted_under.ensures.under c.parted_past.ensures.past (c.in_ok-updated.ensures.ranges (λ _. true) (search of_calls)) c.in_ok-updated.ensures.order all).0

pub returns-clause-ranges : goal.returns-clause-ranges
returns-clause-ranges g c =
    let rules = g.T.RangeValue.rules in
    let add = c.args.add.items in
    let xs = c.parted_under.result.0.now in
    let ys = c.parted_past.result.0.now in
    let zs = c.parted_past.result.1.now in
    let some = c.in-Some-Some in
    let parts = are_parted rules c.args.chunks.now xs c.parted_under.result.1.now ys zs c.parted_under.ensures.parts c.parted_past.ensures.parts c.requires.chunks c.requires.order in
    let all = joined_ranges rules c.in_ok-made.made.items xs c.share_each.new.made.items c.in_ok-updated.updated.items c.append.new.self.items zs c.share_each-2.new.made.items
    c.in_ok-made.ensures.items (c.in_ok-share_each.ensures.ranges ∙ ap (λ rs. flat c.in_ok-made.made.items ++ rs) (flat-unmoved (map (lengthen 0) xs) ∙ ap flat (lengthened_none xs))) c.in_ok-append.ensures.items
    (c.in_ok-share_each-2.ensures.ranges ∙ ap (λ rs. flat c.append.new.self.items ++ rs) (flat-unmoved (map (lengthen 0) zs) ∙ ap flat (lengthened_none zs))) in
    (add_between rules c.args.chunks.now xs ys zs c.in_ok-updated.updated.items c.share_each-2.new.made.items add some.first.now some.last.now parts c.requires.added
    (subst (λ (rs : List (Ranged g.row.T.Denot)). slice_get rs 0 ≡ Some some.first.now) c.deref.ensures.value (sym some.ensures.value))
    (subst (λ (rs : List (Ranged g.row.T.Denot)). slice_get rs (length rs - 1) ≡ Some some.last.now) c.deref-2.ensures.value (sym some.ensures'.value))
    c.parted_under.ensures.under c.parted_past.ensures.past (c.in_ok-updated.ensures.ranges (λ _. true) (search of_calls)) c.in_ok-updated.ensures.order all).1
