use Rattle.std.proofs.Common.{◌≡◌, Ok, ap, subst, sym, ◌∙◌, arith}
use Rattle.std.proofs.lemmas.Result.{IfOk-weaker}
use Rattle.change_desc.specs.Filter.{filter_kept, filter_dropped}
use Rattle.change_desc.specs.Sections.{spelled, old_size}
use Rattle.transaction.specs.declared.draft.Draft.{Draft}
use Rattle.values.specs.declared.answers.Guarding.TheVariants.{Nothing, Protected}
use Rattle.values.specs.declared.val.Val.{Val}
use Rattle.filters.specs.Guards.{guarded, no_changes, with_parts}
use Rattle.filters.specs.PrivateParts.{AreParts}
use Rattle.filters.specs.Starts.{StartsIn, start_of}
use Rattle.filters.proofs.Halves.{dropped-parts, filtered-parts, halves-size}
use Rattle.filters.proofs.Reducing.{parts-by}
use Rattle.filters.proofs.guards.guarded.Goals as goal

pub with_parts-requires-clause-parts : goal.with_parts-requires-clause-parts
with_parts-requires-clause-parts g c =
    let p = c.in_ok-parts-in-Nothing.parts in
    let e = c.in_ok-parts-in-Nothing.ensures in
    subst (λ (d : Draft Val). AreParts d.changes p.kept p.dropped) c.deref.ensures (dropped-parts c.deref.result.now.changes p.kept p.dropped e.kept e.dropped)

pub filter-requires-clause-kept_fits : goal.filter-requires-clause-kept_fits
filter-requires-clause-kept_fits g c =
    let lent = c.deref-in-Protected in
    let fits = subst (StartsIn (start_of c.args.start.now)) (sym lent.ensures) c.requires.draft in
    omega (arith, halves-size c.as_slice.result.now lent.result.now.changes, fits.is_draft.starts, fits.short)

pub filter-requires-clause-dropped_fits : goal.filter-requires-clause-dropped_fits
filter-requires-clause-dropped_fits g c =
    let lent = c.deref-in-Protected in
    let fits = subst (StartsIn (start_of c.args.start.now)) (sym lent.ensures) c.requires.draft in
    omega (arith, halves-size c.as_slice.result.now lent.result.now.changes, fits.is_draft.starts, fits.short)

pub with_parts-requires-in-Protected-clause-parts : goal.with_parts-requires-in-Protected-clause-parts
with_parts-requires-in-Protected-clause-parts g c =
    let p = c.in_ok-parts-in-Protected.parts in
    let e = c.in_ok-parts-in-Protected.ensures in
    let lent = c.deref-in-Protected in
    subst (λ (d : Draft Val). AreParts d.changes p.kept p.dropped) lent.ensures
    (filtered-parts c.as_slice.result.now lent.result.now.changes p.kept p.dropped e.kept e.dropped e.kept_starts e.dropped_starts)

pub returns-in_ok-parts-in-Nothing-clause-draft : goal.returns-in_ok-parts-in-Nothing-clause-draft
returns-in_ok-parts-in-Nothing-clause-draft g c =
    let rules = g.M.Meanings.rules in
    let start = start_of c.args.start.now in
    let d = c.args.draft.value in
    let p = c.in_ok-parts-in-Nothing.parts in
    let e = c.in_ok-parts-in-Nothing.ensures in
    let same = c.deref.ensures in
    rw c.in-Nothing.is
    (IfOk-weaker c.with_parts.result (λ out. with_parts rules start p.kept p.dropped d ≡ Ok out.value) (λ out. guarded rules start Nothing d ≡ Ok out.value)
    (λ out h. parts-by rules start p.kept (no_changes (old_size d.changes)) p.dropped d.changes d (Ok out.value)
    (e.kept ∙ ap (λ (x : Draft Val). no_changes (old_size x.changes)) same) (e.dropped ∙ ap (λ (x : Draft Val). x.changes) same) h)
    c.with_parts.ensures.draft)

pub returns-in_ok-parts-in-Protected-clause-draft : goal.returns-in_ok-parts-in-Protected-clause-draft
returns-in_ok-parts-in-Protected-clause-draft g c =
    let rules = g.M.Meanings.rules in
    let start = start_of c.args.start.now in
    let d = c.args.draft.value in
    let p = c.in_ok-parts-in-Protected.parts in
    let e = c.in_ok-parts-in-Protected.ensures in
    let rs = c.in-Protected.ranges in
    let lent = c.deref-in-Protected in
    let kept = λ (x : Draft Val). filter_kept spelled rs x.changes in
    let dropped = λ (x : Draft Val). filter_dropped spelled rs x.changes in
    rw c.in-Protected.is
    (IfOk-weaker c.with_parts-in-Protected.result (λ out. with_parts rules start p.kept p.dropped d ≡ Ok out.value) (λ out. guarded rules start (Protected rs) d ≡ Ok out.value)
    (λ out h. parts-by rules start p.kept (kept d) p.dropped (dropped d) d (Ok out.value)
    (e.kept ∙ (ap (λ qs. filter_kept spelled qs lent.result.now.changes) c.as_slice.ensures ∙ ap kept lent.ensures))
    (e.dropped ∙ (ap (λ qs. filter_dropped spelled qs lent.result.now.changes) c.as_slice.ensures ∙ ap dropped lent.ensures)) h)
    c.with_parts-in-Protected.ensures.draft)
