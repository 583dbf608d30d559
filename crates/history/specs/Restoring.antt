-- What an undo or redo gives back.
use Rattle.std.specs.Prelude.{◌≡◌, ℕ, cond, pos, ◌≤ℤ◌, List, Option, Some, option_map}
use Rattle.change_desc.specs.Sections.{apply}
use Rattle.history.specs.declared.case.Case.TheVariants.{Undo, Redo, Recorded}
use Rattle.history.specs.declared.item.ChangeItem.{ChangeItem}
use Rattle.history.specs.declared.item.Item.{Item}
use Rattle.history.specs.declared.lists.Lists.{Lists}
use Rattle.history.specs.Inputs.{StepView}
use Rattle.history.specs.Items.{newest_change}
use Rattle.history.specs.Joining.{joins}
use Rattle.history.specs.Steps.{case_of}

-- the text that the newest Change of a list, if there is one, gives on a text
abbrev pub given_by : List Item → List ℕ → Option (List ℕ)
given_by items text = option_map (λ (c : ChangeItem). apply c.changes text) (newest_change items)

abbrev pub old_text : StepView → List ℕ
old_text i = i.document.characters

abbrev pub new_text : StepView → List ℕ
new_text i = apply i.changes i.document.characters

-- what the newest Change that can be undone gives on the new text, after a step that was recorded: the old text, or what the
-- Change that it joined gave on the old text
abbrev pub before_group : Lists → StepView → Option (List ℕ)
before_group h i = cond (joins h i) (given_by h.done (old_text i)) (Some (old_text i))

-- Restores: after a step that started from one history and led to another, the newest Change gives the old text on the new one.
-- Of what can be undone that needs a depth of at least 1.
pub record Restores (start : Lists) (i : StepView) (end : Lists) : Type 0 where
  pub recorded : case_of start i ≡ Recorded → pos 1 ≤ℤ i.min_depth → given_by end.done (new_text i) ≡ before_group start i
  pub undone : case_of start i ≡ Undo → given_by end.undone (new_text i) ≡ Some (old_text i)
  pub redone : case_of start i ≡ Redo → pos 1 ≤ℤ i.min_depth → given_by end.done (new_text i) ≡ Some (old_text i)
