use Rattle.std.proofs.Common.{◌≡◌, ◌+◌, ◌∷◌, ℕ, drop, ap, sym, subst, ◌∙◌}
use Rattle.std.proofs.lemmas.Result.{err_from_is_err_and}
use Rattle.change_desc.specs.Sections.{spelled, old_size}
use Rattle.change_desc.specs.Of.{then_also}
use Rattle.change_set.specs.Changes.{as_set}
use Rattle.change_set.specs.Totals.{IsOver, IsTooLong}
use Rattle.change_set.proofs.Walks.{next_item}
use Rattle.change_set.proofs.RunningTotals.{also-old}
use Rattle.change_set.proofs.Refused.{start-long, set-old, walk-over, walk-next, walk-long}
use Rattle.change_set.proofs.change_set.ChangeSet.of.Goals as goal

pub returns-then-len-max-clause-refused : goal.returns-then-len-max-clause-refused
returns-then-len-max-clause-refused c =
    λ n. start-long c.args.len c.args.max c.args.changes.now c.from.result (sym c.in_default.ensures) c.if-len-max.true c.from.ensures

pub with_change-requires : goal.with_change-requires
with_change-requires c =
    let s = c.args.changes.now in
    let i = c.rest.index in
    let x = c.index-changes-index.result in
    let e : drop i s ≡ x ∷ drop (i + 1) s = next_item s i x c.rest-test.true c.index-changes-index.is in
    subst (λ (n : ℕ). IsOver n x) (sym c.rest.invariant.old) (walk-over c.args.len c.args.max i c.rest.total s x c.rest.invariant e)

pub rest-preserved : goal.rest-preserved
rest-preserved c =
    let s = c.args.changes.now in
    let i = c.rest.index in
    let x = c.index-changes-index.result in
    let total = c.rest.total in
    let longer = c.in_ok-total.total in
    let e : drop i s ≡ x ∷ drop (i + 1) s = next_item s i x c.rest-test.true c.index-changes-index.is in
    let v : IsOver c.args.len x = walk-over c.args.len c.args.max i total s x c.rest.invariant e in
    let l : longer ≡ then_also spelled total (as_set c.args.len x) =
    c.in_ok-total.ensures.set ∙ ap (λ (n : ℕ). then_also spelled total (as_set n x)) c.rest.invariant.old in
    let o : old_size longer ≡ c.args.len =
    ap old_size l ∙ (also-old total (as_set c.args.len x) (set-old c.args.len x v ∙ sym c.rest.invariant.old) ∙ c.rest.invariant.old) in
    walk-next c.args.len c.args.max i total longer s x c.rest.invariant e l o c.in_ok-total.ensures.short

pub returns-in_err-total-clause-refused : goal.returns-in_err-total-clause-refused
returns-in_err-total-clause-refused c =
    let s = c.args.changes.now in
    let i = c.rest.index in
    let x = c.index-changes-index.result in
    let total = c.rest.total in
    let error = c.in_err-total.field-0.0 in
    let e : drop i s ≡ x ∷ drop (i + 1) s = next_item s i x c.rest-test.true c.index-changes-index.is in
    let p = err_from_is_err_and c.from_residual-in_err-total.result c.from_residual-in_err-total.ensures.1 in
    rw (p.1, p.2)
    (λ n. walk-long c.args.len c.args.max i total s x error c.rest.invariant e
    (subst (λ (k : ℕ). IsTooLong c.args.max (then_also spelled total (as_set k x)) error) c.rest.invariant.old (c.in_err-total.ensures.refused n)))
