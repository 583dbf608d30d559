use Rattle.std.proofs.Common.{◌≡◌, length, ◌∷◌, [], None, Some, sym, ap, subst, ◌∙◌}
use Rattle.std.proofs.lemmas.Result.{err_from_is_err_and}
use Rattle.change_desc.specs.Sections.{spelled, apply, new_size}
use Rattle.change_set.proofs.Sizes.{length-apply}
use Rattle.collab.specs.Lengths.{lengths_after, too_long}
use Rattle.collab.specs.Clients.{IsClient, client_lengths, crossed, pending_after, taken}
use Rattle.collab.proofs.Taking.{crossed-lengths}
use Rattle.collab.proofs.Texts.{sizes, past, none-first}
use Rattle.collab.proofs.client.Client.crossing.Goals as goal

pub returns-in-Some-clause-refused : goal.returns-in-Some-clause-refused
returns-in-Some-clause-refused c =
    let now = c.args.self.now in
    let u = c.args.update.now in
    let size : c.from.result ≡ length (apply u.changes now.confirmed) = c.from.ensures ∙ (c.new_len.ensures ∙ sym (length-apply u.changes now.confirmed c.requires.starts)) in
    λ n. past (length (apply u.changes now.confirmed)) (lengths_after (apply u.changes now.confirmed) (pending_after now u)) c.in-Some.error
    (subst (λ m. too_long (m ∷ []) ≡ Some c.in-Some.error) size (sym c.long.ensures ∙ c.in-Some.is))

pub returns-in_err-all-clause-refused : goal.returns-in_err-all-clause-refused
returns-in_err-all-clause-refused c =
    let now = c.args.self.now in
    let u = c.args.update.now in
    let h : IsClient now = subst IsClient c.self.view_is c.self.invariant.1 in
    let size : c.from.result ≡ new_size spelled u.changes = c.from.ensures ∙ c.new_len.ensures in
    let first : too_long (new_size spelled u.changes ∷ []) ≡ None = subst (λ n. too_long (n ∷ []) ≡ None) size (sym c.long.ensures ∙ c.in_default.is) in
    let same : too_long (client_lengths (taken now u)) ≡ too_long (sizes (crossed u.changes now.pending).updates) =
    ap too_long (crossed-lengths now u c.requires.other c.requires.starts h) ∙ none-first (new_size spelled u.changes) (sizes (crossed u.changes now.pending).updates) first in
    let p = err_from_is_err_and c.from_residual.result c.from_residual.ensures.1 in
    rw (p.1, p.2) (λ n. same ∙ (ap (λ us. too_long (sizes (crossed u.changes us).updates)) (sym (c.as_slice.ensures.value ∙ ap (λ x. x.pending) c.self.view_is)) ∙ c.in_err-all.ensures.refused n))

pub over-requires-clause-short : goal.over-requires-clause-short
over-requires-clause-short c =
    let now = c.args.self.now in
    let u = c.args.update.now in
    let h : IsClient now = subst IsClient c.self.view_is c.self.invariant.1 in
    let size : c.from.result ≡ new_size spelled u.changes = c.from.ensures ∙ c.new_len.ensures in
    let first : too_long (new_size spelled u.changes ∷ []) ≡ None = subst (λ n. too_long (n ∷ []) ≡ None) size (sym c.long.ensures ∙ c.in_default.is) in
    ap too_long (crossed-lengths now u c.requires.other c.requires.starts h) ∙
    (none-first (new_size spelled u.changes) (sizes (crossed u.changes now.pending).updates) first ∙
    (ap (λ us. too_long (sizes (crossed u.changes us).updates)) (sym (c.as_slice.ensures.value ∙ ap (λ x. x.pending) c.self.view_is)) ∙ c.in_ok-all.ensures.short))
