-- What a history is told of a transaction, where the start document may be of any height, and which transactions have nothing for it.
use Rattle.std.specs.Prelude.{◌≡◌, ℕ, ℤ, List, [], true, false, None, codes, refl}
use Rattle.std.proofs.Common.{ap, ◌∙◌}
use Rattle.change_desc.specs.Ranges.{changes_nothing}
use Rattle.history.specs.declared.case.Case.{Case}
use Rattle.history.specs.declared.case.Case.TheVariants.{Undo, Redo, UndoSelection, RedoSelection, Unchanged, Unrecorded, Recorded}
use Rattle.history.specs.declared.lists.Lists.{Lists}
use Rattle.history.specs.Inputs.{StepView}
use Rattle.history.specs.Steps.{case_of, cut_to, in_case, start_of, step}
use Rattle.values.specs.Views.{TransactionView}
use Rattle.values.specs.Updating.{history_input, number_note}

-- the same as what the table tells, but for the height of the start document
pub record IsInput (t : TransactionView) (bounds : ℤ × ℤ) (i : StepView) : Type 0 where
  pub document : i.document.characters ≡ t.start
  pub same : record i { document = record { characters = t.start; height = 0 } } ≡ history_input t bounds

-- Nothing for a history: the transaction changes nothing, has no effect to undo, gives no selection, and has no number under
-- 'fromHistory'.
pub record HasNothingForHistory (t : TransactionView) : Type 0 where
  pub changes : changes_nothing t.changes ≡ true
  pub effects : t.inverted ≡ []
  pub given : t.given ≡ false
  pub from : number_note (codes "fromHistory") t ≡ None

-- with a start document of these characters
abbrev with_characters : StepView → List ℕ → StepView
with_characters i cs = record i { document = record { characters = cs; height = 0 } }

-- a step reads the characters of its start document alone
case-characters : (c : Case) (h : Lists) (i : StepView) → in_case c h i ≡ in_case c h (with_characters i i.document.characters)
case-characters Undo h i = refl
case-characters Redo h i = refl
case-characters UndoSelection h i = refl
case-characters RedoSelection h i = refl
case-characters Unchanged h i = refl
case-characters Unrecorded h i = refl
case-characters Recorded h i = refl

pub step-characters : (h : Lists) (i : StepView) → step h i ≡ step h (with_characters i i.document.characters)
step-characters h i = ap (cut_to i.min_depth) (case-characters (case_of (start_of h i) i) (start_of h i) i)

pub step-input : (h : Lists) (t : TransactionView) (bounds : ℤ × ℤ) (i : StepView) → IsInput t bounds i → step h i ≡ step h (history_input t bounds)
step-input h t bounds i is = step-characters h i ∙ (ap (λ cs. step h (with_characters i cs)) is.document ∙ ap (step h) is.same)
