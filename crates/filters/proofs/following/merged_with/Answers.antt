use Rattle.std.proofs.Common.{length, Some, ap, subst, ◌∙◌}
use Rattle.transaction.specs.Merging.{IsDraft, with_spec}
use Rattle.transaction.specs.Refusals.{specs_refusal}
use Rattle.std.specs.Prelude.{◌∷◌, []}
use Rattle.filters.specs.PrivateSteps.{Follow}
use Rattle.filters.specs.Starts.{start_of}
use Rattle.filters.proofs.Steps.{follow-step, next-accepted, only-memory}
use Rattle.filters.proofs.following.merged_with.Goals as goal

pub loop-spec-preserved : goal.loop-spec-preserved
loop-spec-preserved g c =
    let rules = g.M.Meanings.rules in
    let start = start_of c.args.start.now in
    let s = c.in-Some.spec in
    let d = c.loop-spec.draft.value in
    follow-step rules start c.args.draft.value c.args.specs.items d c.in-Ok.next.value s c.next.new.self.rest.items
    (subst (λ r. Follow rules start c.args.draft.value c.args.specs.items d r) c.in-Some.ensures.steps.0 c.loop-spec.invariant)
    (c.in-Ok.ensures.draft ∙ ap (λ n. with_spec start.kinds rules.map_effect n (Some d) s) c.len.ensures)
    (record { is_draft = subst (λ n. IsDraft n c.in-Ok.next.value) c.len.ensures c.in-Ok.ensures.is_draft; short = c.in-Ok.ensures.short })

pub returns-in-Err-clause-memory : goal.returns-in-Err-clause-memory
returns-in-Err-clause-memory g c =
    let rules = g.M.Meanings.rules in
    let start = start_of c.args.start.now in
    let s = c.in-Some.spec in
    let d = c.loop-spec.draft.value in
    let p = subst (λ r. Follow rules start c.args.draft.value c.args.specs.items d r) c.in-Some.ensures.steps.0 c.loop-spec.invariant in
    only-memory c.in-Err.error (specs_refusal c.len.result start.max start.kinds (Some d.changes) (s ∷ []))
    (ap (λ n. specs_refusal n start.max start.kinds (Some d.changes) (s ∷ [])) c.len.ensures ∙
    next-accepted (length start.document) start.max start.kinds d.changes s c.next.new.self.rest.items p.accepted)
    c.in-Err.ensures.refused
