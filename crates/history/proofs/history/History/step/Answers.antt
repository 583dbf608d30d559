use Rattle.std.proofs.Common.{◌≡◌, ℕ, true, false, length, subst, sym, ap, ◌∙◌}
use Rattle.std.proofs.lemmas.Result.{IfOk-weaker}
use Rattle.change_desc.specs.Sections.{new_size, spelled}
use Rattle.history.specs.Histories.{IsHistory, empty, leads_from}
use Rattle.history.specs.declared.lists.Lists.{Lists}
use Rattle.history.specs.Inputs.{StepView}
use Rattle.history.specs.Restoring.{Restores}
use Rattle.history.specs.Steps.{case_of, cut_to, in_case, start_of}
use Rattle.history.proofs.Keeping.{step-leads}
use Rattle.history.proofs.Returning.{next-restores}
use Rattle.history.proofs.history.History.step.Goals as goal

pub returns-then-leads_from-clause-leads : goal.returns-then-leads_from-clause-leads
returns-then-leads_from-clause-leads c =
    let h = c.args.self.now in
    let i = c.args.input.now in
    let e : true ≡ leads_from (length i.document.characters) h = sym c.if-leads_from.true ∙ (c.leads_from.ensures ∙ ap (λ (n : ℕ). leads_from n h) (c.len.ensures ∙ ap (λ (v : StepView). length v.document.characters) c.input.view_is)) in
    IfOk-weaker c.next.result (λ n. n ≡ cut_to i.min_depth (in_case (case_of h i) h i)) (λ n. leads_from (new_size spelled i.changes) n ≡ true)
    (step-leads i (record { starts = c.requires.starts; short = c.requires.short; new_short = c.requires.new_short; inside = c.requires.inside }) h
    (subst IsHistory c.self.view_is c.self.invariant) true e) c.next.ensures

pub returns-then-leads_from-clause-restores : goal.returns-then-leads_from-clause-restores
returns-then-leads_from-clause-restores c =
    let h = c.args.self.now in
    let i = c.args.input.now in
    let e : true ≡ leads_from (length i.document.characters) h = sym c.if-leads_from.true ∙ (c.leads_from.ensures ∙ ap (λ (n : ℕ). leads_from n h) (c.len.ensures ∙ ap (λ (v : StepView). length v.document.characters) c.input.view_is)) in
    IfOk-weaker c.next.result (λ n. n ≡ cut_to i.min_depth (in_case (case_of h i) h i)) (Restores (start_of h i) i)
    (next-restores i (record { starts = c.requires.starts; short = c.requires.short; new_short = c.requires.new_short; inside = c.requires.inside }) h true e) c.next.ensures

pub returns-clause-leads : goal.returns-clause-leads
returns-clause-leads c =
    let h = c.args.self.now in
    let i = c.args.input.now in
    let e : false ≡ leads_from (length i.document.characters) h = sym c.if-leads_from.false ∙ (c.leads_from.ensures ∙ ap (λ (n : ℕ). leads_from n h) (c.len.ensures ∙ ap (λ (v : StepView). length v.document.characters) c.input.view_is)) in
    let start : c.in_ok-start.start ≡ empty = c.in_ok-start.ensures in
    IfOk-weaker c.next-2.result (λ n. n ≡ cut_to i.min_depth (in_case (case_of c.in_ok-start.start i) c.in_ok-start.start i)) (λ n. leads_from (new_size spelled i.changes) n ≡ true)
    (λ n f. step-leads i (record { starts = c.requires.starts; short = c.requires.short; new_short = c.requires.new_short; inside = c.requires.inside }) h
    (subst IsHistory c.self.view_is c.self.invariant) false e n (f ∙ ap (λ (v : Lists). cut_to i.min_depth (in_case (case_of v i) v i)) start)) c.next-2.ensures

pub returns-clause-restores : goal.returns-clause-restores
returns-clause-restores c =
    let h = c.args.self.now in
    let i = c.args.input.now in
    let e : false ≡ leads_from (length i.document.characters) h = sym c.if-leads_from.false ∙ (c.leads_from.ensures ∙ ap (λ (n : ℕ). leads_from n h) (c.len.ensures ∙ ap (λ (v : StepView). length v.document.characters) c.input.view_is)) in
    let start : c.in_ok-start.start ≡ empty = c.in_ok-start.ensures in
    IfOk-weaker c.next-2.result (λ n. n ≡ cut_to i.min_depth (in_case (case_of c.in_ok-start.start i) c.in_ok-start.start i)) (Restores (start_of h i) i)
    (λ n f. next-restores i (record { starts = c.requires.starts; short = c.requires.short; new_short = c.requires.new_short; inside = c.requires.inside }) h false e n
    (f ∙ ap (λ (v : Lists). cut_to i.min_depth (in_case (case_of v i) v i)) start)) c.next-2.ensures
