-- What a history is told of a step of its document (manual: Transaction). Times are in milliseconds.
use Rattle.std.specs.Prelude.{ℕ, ℤ, Bool, List, Option}
use Rattle.line_tree.specs.Text.{TextView}
use Rattle.change_desc.specs.declared.section.Section.{Section}
use Rattle.cm_plain.specs.declared.kept_effect.KeptEffect.{KeptEffect}
use Rattle.selection.specs.Selections.{SelectionView}
use Rattle.history.specs.declared.isolation.Isolation.{Isolation}

-- Step input: the changes of the start document, what undoes the effects of the step there, the start document and the selection
-- in it; the selection in the new document, if the step gives one; how many Changes are kept, and the delay of a new group; what is
-- annotated.
pub record StepView : Type 0 where
  pub changes : List (Section (List ℕ))
  pub effects : List KeptEffect
  pub document : TextView
  pub selection : SelectionView
  pub given : Option SelectionView
  pub min_depth : ℤ
  pub delay : ℤ
  pub time : Option ℤ
  pub user_event : Option (List ℕ)
  pub add_to_history : Option Bool
  pub isolate : Option Isolation
  pub from_history : Option ℤ
