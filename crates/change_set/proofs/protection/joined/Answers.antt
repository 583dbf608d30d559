use Rattle.std.proofs.Common.{◌+◌, get_or, ap, sym, subst, refl, drop, ◌∙◌}
use Rattle.std.proofs.lemmas.List.{take_all, take_more, drop_more}
use Rattle.change_desc.specs.Filter.{is_in}
use Rattle.change_set.specs.Protected.{AreSorted, StartBefore, Rising, Joins, pairs}
use Rattle.change_set.proofs.Runs.{start-none, start-before, joined-more}
use Rattle.change_set.proofs.protection.joined.Goals as goal

pub loop-range-init : goal.loop-range-init
loop-range-init c =
    rw (c.new-joined.ensures.items, c.deref-range-items.ensures.value)
    (record { apart = tt; same = λ p. refl; starts = start-none c.in_ok-sorted.sorted.items; rising = c.in_ok-sorted.ensures.rising })

pub join-requires : goal.join-requires
join-requires c =
    let s = c.deref-range-items.result.now in
    let i = c.loop-range.range-index in
    let e = drop_more s i (record { from = 0; to = 0 }) c.loop-range-test.true in
    let t = subst (StartBefore c.loop-range.joined.items) e c.loop-range.invariant.starts in
    record { apart = c.loop-range.invariant.apart; starts = t.0 }

pub loop-range-preserved : goal.loop-range-preserved
loop-range-preserved c =
    let s = c.deref-range-items.result.now in
    let i = c.loop-range.range-index in
    let x = get_or s i (record { from = 0; to = 0 }) in
    let old = c.loop-range.joined.items in
    let new = c.join.new.joined.items in
    let e = drop_more s i (record { from = 0; to = 0 }) c.loop-range-test.true in
    let t = subst (StartBefore old) e c.loop-range.invariant.starts in
    let r = subst Rising e c.loop-range.invariant.rising in
    let j : Joins old new (x.from, x.to) = c.in_ok-join.ensures in
    record {
      apart = j.apart;
      same = joined-more old new i s x j (take_more s i (record { from = 0; to = 0 }) c.loop-range-test.true) c.loop-range.invariant.same;
      starts = start-before old new x (drop (i + 1) s) j r.0 t.1;
      rising = r.1;
    }

pub returns : goal.returns
returns c =
    let s = c.deref-range-items.result.now in
    let h : AreSorted c.args.given.now s = subst (AreSorted c.args.given.now) (sym c.deref-range-items.ensures.value) c.in_ok-sorted.ensures in
    record {
      apart = c.loop-range.invariant.apart;
      same = λ p. c.loop-range.invariant.same p ∙ (ap (λ r. is_in (pairs r) p) (take_all c.loop-range.range-index s c.loop-range-test.false) ∙ h.same p);
    }
