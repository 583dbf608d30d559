-- What a transaction may be that is made of a document and a selection (Reference Manual, Transaction).
use Rattle.std.specs.Prelude.{◌≡◌, false, ◌⊎◌, ⊤}
use Rattle.change_desc.specs.Sections.{lengths, spelled}
use Rattle.selection.specs.Selections.{SelectionView, moved_selection, single_of}
use Rattle.values.specs.Views.{IsTransaction, TransactionView}
use Rattle.facet_slots.specs.Scenes.{SceneView}
use Rattle.facet_slots.specs.Stepping.{Transition, Enter, Update}

-- a selection, whole or its main range alone
abbrev pub IsWholeOrCut : SelectionView → SelectionView → Type 0
IsWholeOrCut selection whole = (selection ≡ whole) ⊎ (selection ≡ single_of whole)

-- Made: it starts in the document and the selection. Where no selection is given, the new one is the old one, mapped; it is
-- whole, or cut to its main range.
pub record IsMade (scene : SceneView) (t : TransactionView) : Type 0 where
  pub is : IsTransaction t
  pub start : t.start ≡ scene.document
  pub start_selection : t.start_selection ≡ scene.selection
  pub selection : t.given ≡ false → IsWholeOrCut t.selection (moved_selection (lengths spelled t.changes) t.start_selection)

-- a transition of a document and a selection
abbrev pub IsMadeIn : SceneView → Transition → Type 0
IsMadeIn scene Enter = ⊤
IsMadeIn scene (Update t) = IsMade scene t
