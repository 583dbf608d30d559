use Rattle.std.proofs.Common.{◌≡◌, ◌++◌, ◌-◌, List, None, Some, true, length, ap, subst, sym, ◌∙◌, arith}
use Rattle.std.specs.Prelude.{slice_get}
use Rattle.std.proofs.lemmas.List.{length-append}
use Rattle.std.proofs.lemmas.Result.{IfOk-weaker}
use Rattle.range_set.specs.Order.{first_fault}
use Rattle.range_set.specs.PrivateBuilders.{grouped}
use Rattle.range_set.specs.PrivateChunks.{Ascend, flat, spread}
use Rattle.range_set.specs.PrivateUpdates.{AreSharedBefore}
use Rattle.range_set.specs.Updating.{updated}
use Rattle.range_set.specs.declared.chunk.Placed.{Placed}
use Rattle.range_set.specs.declared.ranged.Ranged.{Ranged}
use Rattle.range_set.proofs.Adding.{add_opened, opened_order}
use Rattle.range_set.proofs.Chunks.{ascend-rest, flat-append}
use Rattle.range_set.proofs.Groups.{flat-spread_append}
use Rattle.range_set.proofs.RangeOrder.{rises-no_fault}
use Rattle.range_set.proofs.Under.{rises_ascend}
use Rattle.range_set.proofs.updating.added_groups.Goals as goal

pub share_before-requires-clause-ascend : goal.share_before-requires-clause-ascend
share_before-requires-clause-ascend g c =
    let rules = g.T.RangeValue.rules in
    rises_ascend rules (flat (spread c.args.groups)) (rises-no_fault rules (flat (spread c.args.groups)) c.requires.order)

pub opened_by-requires : goal.opened_by-requires
opened_by-requires g c =
    let rules = g.T.RangeValue.rules in
    let shared = c.in_ok-rest.ensures.shared in
    let ascend = rises_ascend rules (flat (spread c.args.groups)) (rises-no_fault rules (flat (spread c.args.groups)) c.requires.order) in
    ascend-rest 0 (flat (spread shared.taken)) (flat (spread c.in_ok-rest.rest)) (subst (Ascend 0) (ap (λ gs. flat (spread gs)) shared.is ∙ flat-spread_append shared.taken c.in_ok-rest.rest) ascend)

pub with_all-requires-clause-order : goal.with_all-requires-clause-order
with_all-requires-clause-order g c =
    let rules = g.T.RangeValue.rules in
    ap (λ (ps : List (Placed g.row.T.Denot)). first_fault rules (flat ps)) c.as_slice.ensures.value
    ∙ opened_order rules c.in-Some-Some.first.now.from c.in-Some-Some.last.now.from c.args.groups c.in_ok-rest.rest c.in_ok-chunks.rest _ _ c.in_ok-chunks.chunks.items c.in_ok-rest.ensures.shared c.in_ok-chunks.ensures.opened
    c.requires.groups c.requires.order

pub put_all-requires-clause-room : goal.put_all-requires-clause-room
put_all-requires-clause-room g c =
    let rules = g.T.RangeValue.rules in
    let add = c.args.add.items in
    let shared = subst (λ (ps : List (Placed g.row.T.Denot)). AreSharedBefore c.in-Some-Some.first.now.from c.args.groups c.in_ok-rest.rest ps (grouped c.share_before.new.self)) c.in_ok-builder.ensures.ranges c.in_ok-rest.ensures.shared in
    let made = c.in_ok-chunks-2.ensures.ranges ∙ ap (λ (ps : List (Placed g.row.T.Denot)). updated rules (λ _. true) (flat ps) add) c.as_slice.ensures.value in
    let added = add_opened rules c.args.groups c.in_ok-rest.rest c.in_ok-chunks.rest (grouped c.share_before.new.self) c.in_ok-chunks.chunks.items c.in_ok-chunks-2.chunks.items add c.in-Some-Some.first.now c.in-Some-Some.last.now
    shared c.in_ok-chunks.ensures.opened c.requires.groups c.requires.order c.requires.added
    (subst (λ (xs : List (Ranged g.row.T.Denot)). slice_get xs 0 ≡ Some c.in-Some-Some.first.now) c.deref.ensures.value (sym c.in-Some-Some.ensures.value))
    (subst (λ (xs : List (Ranged g.row.T.Denot)). slice_get xs (length xs - 1) ≡ Some c.in-Some-Some.last.now) c.deref-2.ensures.value (sym c.in-Some-Some.ensures'.value))
    made c.in_ok-chunks-2.ensures.order in
    let k = added.room in
    let l = c.requires.room in
    omega (arith, k, l)

pub put_all-requires-clause-order : goal.put_all-requires-clause-order
put_all-requires-clause-order g c =
    let rules = g.T.RangeValue.rules in
    let add = c.args.add.items in
    let shared = subst (λ (ps : List (Placed g.row.T.Denot)). AreSharedBefore c.in-Some-Some.first.now.from c.args.groups c.in_ok-rest.rest ps (grouped c.share_before.new.self)) c.in_ok-builder.ensures.ranges c.in_ok-rest.ensures.shared in
    let made = c.in_ok-chunks-2.ensures.ranges ∙ ap (λ (ps : List (Placed g.row.T.Denot)). updated rules (λ _. true) (flat ps) add) c.as_slice.ensures.value in
    let added = add_opened rules c.args.groups c.in_ok-rest.rest c.in_ok-chunks.rest (grouped c.share_before.new.self) c.in_ok-chunks.chunks.items c.in_ok-chunks-2.chunks.items add c.in-Some-Some.first.now c.in-Some-Some.last.now
    shared c.in_ok-chunks.ensures.opened c.requires.groups c.requires.order c.requires.added
    (subst (λ (xs : List (Ranged g.row.T.Denot)). slice_get xs 0 ≡ Some c.in-Some-Some.first.now) c.deref.ensures.value (sym c.in-Some-Some.ensures.value))
    (subst (λ (xs : List (Ranged g.row.T.Denot)). slice_get xs (length xs - 1) ≡ Some c.in-Some-Some.last.now) c.deref-2.ensures.value (sym c.in-Some-Some.ensures'.value))
    made c.in_ok-chunks-2.ensures.order in
    added.order

pub share_all-requires-clause-room : goal.share_all-requires-clause-room
share_all-requires-clause-room g c =
    let rules = g.T.RangeValue.rules in
    let add = c.args.add.items in
    let shared = subst (λ (ps : List (Placed g.row.T.Denot)). AreSharedBefore c.in-Some-Some.first.now.from c.args.groups c.in_ok-rest.rest ps (grouped c.share_before.new.self)) c.in_ok-builder.ensures.ranges c.in_ok-rest.ensures.shared in
    let made = c.in_ok-chunks-2.ensures.ranges ∙ ap (λ (ps : List (Placed g.row.T.Denot)). updated rules (λ _. true) (flat ps) add) c.as_slice.ensures.value in
    let added = add_opened rules c.args.groups c.in_ok-rest.rest c.in_ok-chunks.rest (grouped c.share_before.new.self) c.in_ok-chunks.chunks.items c.in_ok-chunks-2.chunks.items add c.in-Some-Some.first.now c.in-Some-Some.last.now
    shared c.in_ok-chunks.ensures.opened c.requires.groups c.requires.order c.requires.added
    (subst (λ (xs : List (Ranged g.row.T.Denot)). slice_get xs 0 ≡ Some c.in-Some-Some.first.now) c.deref.ensures.value (sym c.in-Some-Some.ensures.value))
    (subst (λ (xs : List (Ranged g.row.T.Denot)). slice_get xs (length xs - 1) ≡ Some c.in-Some-Some.last.now) c.deref-2.ensures.value (sym c.in-Some-Some.ensures'.value))
    made c.in_ok-chunks-2.ensures.order in
    let put = ap (λ ps. length (flat ps)) c.in_ok-put_all.ensures.ranges
    ∙ (ap length (flat-append (grouped c.share_before.new.self) c.in_ok-chunks-2.chunks.items) ∙ length-append (flat (grouped c.share_before.new.self)) (flat c.in_ok-chunks-2.chunks.items)) in
    let k = added.room in
    let l = c.requires.room in
    omega (arith, put, k, l)

pub returns-clause-order : goal.returns-clause-order
returns-clause-order g c =
    let rules = g.T.RangeValue.rules in
    let add = c.args.add.items in
    let shared = subst (λ (ps : List (Placed g.row.T.Denot)). AreSharedBefore c.in-Some-Some.first.now.from c.args.groups c.in_ok-rest.rest ps (grouped c.share_before.new.self)) c.in_ok-builder.ensures.ranges c.in_ok-rest.ensures.shared in
    let made = c.in_ok-chunks-2.ensures.ranges ∙ ap (λ (ps : List (Placed g.row.T.Denot)). updated rules (λ _. true) (flat ps) add) c.as_slice.ensures.value in
    let added = add_opened rules c.args.groups c.in_ok-rest.rest c.in_ok-chunks.rest (grouped c.share_before.new.self) c.in_ok-chunks.chunks.items c.in_ok-chunks-2.chunks.items add c.in-Some-Some.first.now c.in-Some-Some.last.now
    shared c.in_ok-chunks.ensures.opened c.requires.groups c.requires.order c.requires.added
    (subst (λ (xs : List (Ranged g.row.T.Denot)). slice_get xs 0 ≡ Some c.in-Some-Some.first.now) c.deref.ensures.value (sym c.in-Some-Some.ensures.value))
    (subst (λ (xs : List (Ranged g.row.T.Denot)). slice_get xs (length xs - 1) ≡ Some c.in-Some-Some.last.now) c.deref-2.ensures.value (sym c.in-Some-Some.ensures'.value))
    made c.in_ok-chunks-2.ensures.order in
    let all = ap flat (c.in_ok-share_all.ensures.ranges ∙ ap (λ ps. ps ++ spread c.in_ok-chunks.rest) c.in_ok-put_all.ensures.ranges) in
    IfOk-weaker c.finish.result (λ made. spread made.0 ≡ grouped c.share_all.new.self) (λ made. first_fault rules (flat (spread made.0)) ≡ None)
    (λ made e. ap (first_fault rules) (ap flat e ∙ all) ∙ added.none) c.finish.ensures.ranges

pub returns-clause-ranges : goal.returns-clause-ranges
returns-clause-ranges g c =
    let rules = g.T.RangeValue.rules in
    let add = c.args.add.items in
    let shared = subst (λ (ps : List (Placed g.row.T.Denot)). AreSharedBefore c.in-Some-Some.first.now.from c.args.groups c.in_ok-rest.rest ps (grouped c.share_before.new.self)) c.in_ok-builder.ensures.ranges c.in_ok-rest.ensures.shared in
    let made = c.in_ok-chunks-2.ensures.ranges ∙ ap (λ (ps : List (Placed g.row.T.Denot)). updated rules (λ _. true) (flat ps) add) c.as_slice.ensures.value in
    let added = add_opened rules c.args.groups c.in_ok-rest.rest c.in_ok-chunks.rest (grouped c.share_before.new.self) c.in_ok-chunks.chunks.items c.in_ok-chunks-2.chunks.items add c.in-Some-Some.first.now c.in-Some-Some.last.now
    shared c.in_ok-chunks.ensures.opened c.requires.groups c.requires.order c.requires.added
    (subst (λ (xs : List (Ranged g.row.T.Denot)). slice_get xs 0 ≡ Some c.in-Some-Some.first.now) c.deref.ensures.value (sym c.in-Some-Some.ensures.value))
    (subst (λ (xs : List (Ranged g.row.T.Denot)). slice_get xs (length xs - 1) ≡ Some c.in-Some-Some.last.now) c.deref-2.ensures.value (sym c.in-Some-Some.ensures'.value))
    made c.in_ok-chunks-2.ensures.order in
    let all = ap flat (c.in_ok-share_all.ensures.ranges ∙ ap (λ ps. ps ++ spread c.in_ok-chunks.rest) c.in_ok-put_all.ensures.ranges) in
    IfOk-weaker c.finish.result (λ made. spread made.0 ≡ grouped c.share_all.new.self) (λ made. flat (spread made.0) ≡ updated rules (λ _. true) (flat (spread c.args.groups)) add)
    (λ made e. ap flat e ∙ (all ∙ sym added.goes)) c.finish.ensures.ranges
