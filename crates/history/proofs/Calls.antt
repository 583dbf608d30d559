-- What calls need of the lists that they are given.
use Rattle.std.proofs.Common.{◌≡◌, ℕ, List, [], ◌∷◌, length, Some, sym, ap, subst, ◌∙◌}
use Rattle.change_desc.specs.declared.section.Section.{Section}
use Rattle.change_desc.specs.Sections.{spelled, lengths, old_size}
use Rattle.change_desc.proofs.Merges.{old_size-lengths}
use Rattle.history.specs.declared.item.ChangeItem.{ChangeItem}
use Rattle.history.specs.declared.item.Item.{Item}
use Rattle.history.specs.declared.item.Item.TheVariants.{Change, Select}
use Rattle.history.specs.Inputs.{StepView}
use Rattle.history.specs.Histories.{LeadOn}
use Rattle.history.specs.Joining.{first_change}
use Rattle.history.specs.Steps.{IsStep}

pub over-leads : (i : StepView) → IsStep i → (over : List (Section ℕ)) → over ≡ lengths spelled i.changes → (items all : List Item) → items ≡ all →
    LeadOn (length i.document.characters) all → LeadOn (old_size over) items
over-leads i s over o items all e l =
    subst (λ n. LeadOn n items) (sym (ap old_size o ∙ (old_size-lengths spelled i.changes ∙ s.starts))) (subst (LeadOn (length i.document.characters)) (sym e) l)

-- the newest item, where it is a Change, starts where the list does
pub first-starts : (len : ℕ) (items : List Item) (c : ChangeItem) → LeadOn len items → first_change items ≡ Some c → len ≡ old_size c.changes
first-starts len [] c h e = cc
first-starts len (Select s ∷ items) c h e = cc
first-starts len (Change d ∷ items) c h e =
    let same : d ≡ c = cc in
    sym h.0 ∙ ap (λ (x : ChangeItem). old_size x.changes) same
