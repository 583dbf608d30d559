use Rattle.std.proofs.Common.{◌≡◌, ap, subst, sym, ◌∙◌, arith}
use Rattle.change_desc.specs.Sections.{Sections, spelled, apply, invert, old_size, IsSet}
use Rattle.change_desc.specs.Laws.{LeadsBack}
use Rattle.change_desc.proofs.Applies.{invert-apply}
use Rattle.change_set.proofs.Walks.{inverted-all, inverted-is}
use Rattle.change_set.proofs.change_set.ChangeSet.invert.Goals as goal

pub invariant_of-result : goal.invariant_of-result
invariant_of-result c =
    let s = c.as_slice-section-items.result.now in
    let doc = c.args.document.now.characters in
    let h : IsSet spelled s = subst (IsSet spelled) (sym c.as_slice-section-items.ensures) c.self.invariant in
    inverted-all s c.loop-section.sections.items doc c.loop-section.cursor c.loop-section.section-index (omega arith) c.loop-section.invariant.gives h
    (ap old_size c.as_slice-section-items.ensures ∙ (ap old_size c.self.view_is ∙ c.requires))

pub returns-clause-leads_back : goal.returns-clause-leads_back
returns-clause-leads_back c =
    let s = c.as_slice-section-items.result.now in
    let doc = c.args.document.now.characters in
    let t = c.loop-section.sections.items in
    let v : s ≡ c.args.self.now = c.as_slice-section-items.ensures ∙ c.self.view_is in
    let w : t ≡ invert s doc = inverted-is s t doc c.loop-section.cursor c.loop-section.section-index (omega arith) c.loop-section.invariant.gives in
    subst (λ (r : Sections). LeadsBack r t doc) v (ap (λ (b : Sections). apply b (apply s doc)) w ∙ invert-apply s doc (ap old_size v ∙ c.requires))
