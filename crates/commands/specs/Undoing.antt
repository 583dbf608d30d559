-- The commands that go over the history (manual: undo, redo, undoSelection, redoSelection).
use Rattle.std.specs.Prelude.{ℕ, Bool, true, false, cond, ◌&&◌, ℤ, pos, List, [], ◌∷◌, ◌++◌, map, length, is_none, Option, Some, None, codes, option_map}
use Rattle.std.specs.Option.{option_and_then, option_map_or, option_to_list}
use Rattle.cm_plain.specs.declared.kept_effect.KeptEffect.{KeptEffect}
use Rattle.cm_plain.specs.declared.plain.Plain.TheVariants as plain
use Rattle.change_set.specs.declared.change.Change.TheVariants.{Set}
use Rattle.transaction.specs.declared.annotation.Annotation.{Annotation}
use Rattle.transaction.specs.declared.effect.Effect.{Effect}
use Rattle.transaction.specs.declared.effect.Effect.TheVariants.{Kind}
use Rattle.transaction.specs.declared.spec.Spec.{Spec}
use Rattle.history.specs.declared.item.Item.{Item}
use Rattle.history.specs.declared.lists.Lists.{Lists}
use Rattle.history.specs.declared.restore.Restore.{Restore}
use Rattle.history.specs.Histories.{empty, leads_from}
use Rattle.history.specs.Items.{is_change}
use Rattle.history.specs.Reading.{restored_change, restored_item}
use Rattle.values.specs.declared.val.Val.{Val}
use Rattle.values.specs.declared.val.Val.TheVariants as val
use Rattle.commands.specs.Editing.{SceneView, editing, time_notes}

-- the history that counts: a scene's own, where it leads from the document, else one without items
abbrev pub history_of : SceneView → Lists
history_of s = option_map_or (λ (h : Lists). cond (leads_from (length s.document) h) h empty) s.history empty

-- a kept effect as one that is sent
abbrev pub sent : KeptEffect → Effect Val
sent e = Kind e.id (val.Plain e.value)

abbrev pub from_history : ℤ → Annotation
from_history number = record { kind = codes "fromHistory"; value = plain.Int number }

-- Restoring: the changes, effects and selection of an item, which no filter is asked about, with the number that says which list
-- it comes from.
abbrev pub restoring : SceneView → (event : List ℕ) → Restore → Spec Val
restoring s event r =
    record {
      changes = map Set (option_to_list r.changes);
      selection = Some (record { ranges = r.selection.ranges; main = r.selection.main });
      effects = map sent r.effects;
      annotations = time_notes s.time ++ from_history r.number ∷ [];
      user_event = Some event;
      sequential = false;
      filter = false;
    }

-- Undo, redo: the newest Change of a list; none where the document is read only.
abbrev pub undo_spec : SceneView → Option (Spec Val)
undo_spec s = cond s.read_only None (option_map (restoring s (codes "undo")) (restored_change (pos 0) (history_of s).done))

abbrev pub redo_spec : SceneView → Option (Spec Val)
redo_spec s = cond s.read_only None (option_map (restoring s (codes "redo")) (restored_change (pos 1) (history_of s).undone))

-- an item of either sort under the user event of its sort: a Select, which has no changes; a Change, unless the document is read
-- only
abbrev pub restoring_item : SceneView → (change select : List ℕ) → Restore → Option (Spec Val)
restoring_item s change select r = cond (is_none r.changes) (Some (restoring s select r)) (cond s.read_only None (Some (restoring s change r)))

-- Undo selection, redo selection: the newest item of a list.
abbrev pub undo_selection_spec : SceneView → Option (Spec Val)
undo_selection_spec s =
    option_and_then (restoring_item s (codes "undo") (codes "select.undo")) (restored_item (pos 0) (pos 2) (history_of s).done)

abbrev pub redo_selection_spec : SceneView → Option (Spec Val)
redo_selection_spec s =
    option_and_then (restoring_item s (codes "redo") (codes "select.redo")) (restored_item (pos 1) (pos 3) (history_of s).undone)

-- no item of a list can be restored: there is none, or the newest is a Change and the document is read only
abbrev pub has_no_item : (read_only : Bool) → List Item → Bool
has_no_item read_only [] = true
has_no_item read_only (item ∷ items) = read_only && is_change item
