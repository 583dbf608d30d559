use Rattle.std.proofs.Common.{◌≡◌, ◌≤◌, sym, ap, ◌∙◌, subst}
use Rattle.std.proofs.lemmas.Result.{IfOk-weaker}
use Rattle.change_desc.specs.Sections.{spelled, counted, old_size, new_size}
use Rattle.change_desc.proofs.Merges.{old_size-lengths, new_size-lengths}
use Rattle.transaction.specs.Merging.{IsDraft, followed}
use Rattle.transaction.proofs.Joins.{extras-inside, followed-is, is-draft, over-within}
use Rattle.transaction.proofs.draft.Draft.followed.Goals as goal

pub followed-requires-clause-inside : goal.followed-requires-clause-inside
followed-requires-clause-inside g c =
    extras-inside _ _ c.args.self c.extras-first.result c.extras-first.ensures
    (c.requires.meet ∙ (sym (old_size-lengths spelled c.args.next.changes) ∙ ap old_size (sym c.in_ok-over.ensures))) c.requires.inside

pub followed-requires-clause-next_inside : goal.followed-requires-clause-next_inside
followed-requires-clause-next_inside g c =
    extras-inside _ _ c.args.next c.extras-second.result c.extras-second.ensures
    (sym (new_size-lengths spelled c.args.next.changes) ∙ ap (new_size counted) (sym c.in_ok-over.ensures)) c.requires.next_inside

pub followed-requires-clause-within : goal.followed-requires-clause-within
followed-requires-clause-within g c =
    over-within c.args.frame.now.max c.in_ok-over.over c.args.next.changes c.in_ok-over.ensures (subst (λ n. n ≤ c.args.frame.now.max) c.requires.meet c.requires.short)
    c.requires.next_short

pub returns-clause-value : goal.returns-clause-value
returns-clause-value g c =
    let kinds = c.args.frame.now.kinds.now in
    let map_value = g.M.EffectMaps.map_value c.args.frame.now.maps.now in
    IfOk-weaker c.boxed.result (λ draft. draft.value ≡ c.of.result) (λ draft. draft.value ≡ followed kinds map_value c.args.self c.args.next)
    (λ draft is. is ∙ followed-is kinds map_value c.args.self c.args.next c.of.result c.in_ok-changes.changes c.extras-first.result
    c.extras-second.result c.in_ok-extras.extras c.in_ok-over.over c.extras-first.ensures c.extras-second.ensures c.in_ok-over.ensures c.in_ok-changes.ensures.both
    c.in_ok-extras.ensures.value c.of.ensures)
    c.boxed.ensures

pub returns-clause-is_draft : goal.returns-clause-is_draft
returns-clause-is_draft g c =
    IfOk-weaker c.boxed.result (λ draft. draft.value ≡ c.of.result) (λ draft. IsDraft (old_size c.args.self.changes) draft.value)
    (λ draft is. subst (IsDraft (old_size c.args.self.changes)) (sym is)
    (is-draft _ _ c.in_ok-changes.changes c.in_ok-extras.extras c.of.result c.of.ensures c.in_ok-changes.ensures.starts
    (ap (new_size counted) c.in_ok-over.ensures ∙ (new_size-lengths spelled c.args.next.changes ∙ sym c.in_ok-changes.ensures.ends)) c.in_ok-extras.ensures.inside))
    c.boxed.ensures
