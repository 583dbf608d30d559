use Rattle.std.proofs.Common.{length, subst, sym, ap, ◌∙◌}
use Rattle.change_desc.specs.Sections.{spelled, new_size}
use Rattle.history.specs.declared.case.Case.{Case}
use Rattle.history.specs.declared.lists.Lists.{Lists}
use Rattle.history.specs.Histories.{IsHistory, LeadOn}
use Rattle.history.specs.Steps.{case_of, in_case}
use Rattle.history.proofs.Keeping.{Leads, led_from, lists-lead}
use Rattle.history.proofs.history.History.next.Goals as goal

pub in_case-requires-clause-done : goal.in_case-requires-clause-done
in_case-requires-clause-done c =
    subst (λ (v : Lists). LeadOn (length c.args.input.now.document.characters) v.done) (sym (c.deref-old.ensures ∙ c.self.view_is))
    (led_from (length c.args.input.now.document.characters) c.args.self.now (subst IsHistory c.self.view_is c.self.invariant) c.requires.leads).done

pub in_case-requires-clause-undone : goal.in_case-requires-clause-undone
in_case-requires-clause-undone c =
    subst (λ (v : Lists). LeadOn (length c.args.input.now.document.characters) v.undone) (sym (c.deref-old.ensures ∙ c.self.view_is))
    (led_from (length c.args.input.now.document.characters) c.args.self.now (subst IsHistory c.self.view_is c.self.invariant) c.requires.leads).undone

pub invariant_of-result : goal.invariant_of-result
invariant_of-result c =
    let h = c.args.self.now in
    let i = c.args.input.now in
    let l : Leads (new_size spelled i.changes) c.in_ok-next.next =
    lists-lead i c.requires.step h (led_from (length i.document.characters) h (subst IsHistory c.self.view_is c.self.invariant) c.requires.leads) c.in_ok-next.next
    (c.in_ok-next.ensures ∙
    (ap (λ (k : Case). in_case k c.deref-old.result.now i) c.case_of-case.ensures ∙ ap (λ (v : Lists). in_case (case_of v i) v i) (c.deref-old.ensures ∙ c.self.view_is))) in
    subst IsHistory (sym c.in_ok-lists-2.ensures.ok) (c.in_ok-lists.ensures.history (new_size spelled i.changes) l.done l.undone)
