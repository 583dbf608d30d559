-- What rules are shown, as plain data: documents are lists of characters, sets lists of ranges, histories their lists of items.
use Rattle.std.specs.Prelude.{◌≡◌, ℕ, ◌≤◌, Bool, List, length, Option, Some, None, IfSome}
use Rattle.std.specs.List.{AllByRecursion}
use Rattle.line_tree.specs.Text.{max_len}
use Rattle.change_desc.specs.declared.section.Section.{Section}
use Rattle.change_desc.specs.Sections.{apply, counted, new_size, old_size}
use Rattle.cm_plain.specs.declared.kept_effect.KeptEffect.{KeptEffect}
use Rattle.selection.specs.Selections.{SelectionView, IsSelection, LieIn}
use Rattle.transaction.specs.declared.annotation.Annotation.{Annotation}
use Rattle.values.specs.declared.val.Val.{Val}
use Rattle.values.specs.declared.shown_effect.ShownEffect.{ShownEffect}
use Rattle.values.specs.InRange.{AreInRange, IsShownInRange, IsKeptInRange, IsNoteInRange}

-- What a rule reads: the document and the selection, each if it is declared, and the values of the declared facets and fields
-- in the order of their declaration, none for an absent field.
pub record DepsView : Type 0 where
  pub document : Option (List ℕ)
  pub selection : Option SelectionView
  pub values : List (Option Val)

-- no document that is shown is too long
abbrev pub IsShort : Option (List ℕ) → Type 0
IsShort None = Unit {0}
IsShort (Some document) = length document ≤ max_len

-- a selection that is shown with its document lies in it, and one that is shown without lies in a document that isn't too long
abbrev pub IsInside : Option (List ℕ) → Option SelectionView → Type 0
IsInside document None = Unit {0}
IsInside None (Some selection) = LieIn max_len selection.ranges
IsInside (Some document) (Some selection) = LieIn (length document) selection.ranges

-- what each rule may rely on in what it reads
pub record AreDeps (d : DepsView) : Type 0 where
  pub short : IsShort d.document
  pub is_selection : IfSome d.selection IsSelection
  pub inside : IsInside d.document d.selection
  pub in_range : AreInRange d.values

-- Transaction: what a rule is shown of one. The changes lead from the start document to the new one, and each selection lies in
-- its document; whether the new selection was given; the listened effects and what undoes effects, in order; the annotations.
pub record TransactionView : Type 0 where
  pub changes : List (Section (List ℕ))
  pub start : List ℕ
  pub document : List ℕ
  pub start_selection : SelectionView
  pub selection : SelectionView
  pub given : Bool
  pub effects : List ShownEffect
  pub inverted : List KeptEffect
  pub annotations : List Annotation

-- what each rule may rely on in a transaction that it is shown
pub record IsTransaction (t : TransactionView) : Type 0 where
  pub starts : old_size t.changes ≡ length t.start
  pub document : t.document ≡ apply t.changes t.start
  pub short : length t.start ≤ max_len
  pub new_short : length t.document ≤ max_len
  pub start_is_selection : IsSelection t.start_selection
  pub is_selection : IsSelection t.selection
  pub start_inside : LieIn (length t.start) t.start_selection.ranges
  pub inside : LieIn (length t.document) t.selection.ranges
  pub effects : AllByRecursion IsShownInRange t.effects
  pub inverted : AllByRecursion IsKeptInRange t.inverted
  pub annotations : AllByRecursion IsNoteInRange t.annotations

-- changes between two documents that are not too long
pub record AreWithin (changes : List (Section ℕ)) : Type 0 where
  pub short : old_size changes ≤ max_len
  pub new_short : new_size counted changes ≤ max_len
