-- What a command looks at, and the spec of what it does (manual: StateCommand, TransactionSpec).
use Rattle.std.specs.Prelude.{ℕ, Bool, true, false, ℤ, List, [], Option, Some, codes, option_map}
use Rattle.std.specs.Option.{option_copied, option_to_list}
use Rattle.cm_plain.specs.declared.plain.Plain.TheVariants as plain
use Rattle.change_set.specs.declared.change.Change.{Change}
use Rattle.selection.specs.Selections.{SelectionView}
use Rattle.transaction.specs.declared.annotation.Annotation.{Annotation}
use Rattle.transaction.specs.declared.spec.Spec.{Spec}
use Rattle.transaction.specs.declared.spec.SelectionSpec.{SelectionSpec}
use Rattle.history.specs.declared.lists.Lists.{Lists}
use Rattle.values.specs.declared.val.Val.{Val}
use Rattle.commands.specs.declared.edit_scene.EditScene.{EditScene}

-- Scene: the characters of a document, its selection, whether it is read only, its history, if it has one, and the time of the
-- command, if it is given.
pub record SceneView : Type 0 where
  pub document : List ℕ
  pub selection : SelectionView
  pub read_only : Bool
  pub history : Option Lists
  pub time : Option ℤ

abbrev pub shown_scene : EditScene → SceneView
shown_scene s =
    record { document = s.doc.now.characters; selection = s.selection.now; read_only = s.read_only; history = option_copied s.history; time = s.time }

abbrev pub time_note : ℤ → Annotation
time_note time = record { kind = codes "time"; value = plain.Int time }

-- a given time as an annotation
abbrev pub time_notes : Option ℤ → List Annotation
time_notes time = option_to_list (option_map time_note time)

-- Editing: changes of a scene's document and a selection, if one is given, under a user event.
abbrev pub editing : SceneView → List Change → Option SelectionSpec → (event : List ℕ) → Spec Val
editing s changes selection event =
    record { changes = changes; selection = selection; effects = []; annotations = time_notes s.time; user_event = Some event; sequential = false; filter = true }
