-- The commands that select (manual: cursorCharLeft, selectCharLeft, selectAll and others).
use Rattle.std.specs.Prelude.{ℕ, Bool, cond, ◌||◌, List, [], ◌∷◌, map, length, Option, Some, None, codes}
use Rattle.selection.specs.declared.range.Range.{Range}
use Rattle.selection.specs.Ranges.{low, high, is_empty}
use Rattle.selection.specs.Selections.{normal_form}
use Rattle.transaction.specs.declared.spec.Spec.{Spec}
use Rattle.history.specs.Selecting.{same_selection}
use Rattle.values.specs.declared.val.Val.{Val}
use Rattle.term_keys.specs.declared.key.Move.{Move}
use Rattle.term_keys.specs.declared.key.Move.TheVariants as moves
use Rattle.cursor_moves.specs.Moves.{moved}
use Rattle.commands.specs.Editing.{SceneView, editing}

-- the end of a range to which a move left or right goes, or where another move goes from its head
abbrev pub collapsed : List ℕ → Move → Range → ℕ
collapsed text moves.Left r = low r
collapsed text moves.Right r = high r
collapsed text direction r = moved text direction r.head

-- Moved head: where the move goes from the head; without extending, a move left or right of a range that isn't empty goes to
-- that end of it.
abbrev pub moved_head : List ℕ → Move → (extend : Bool) → Range → ℕ
moved_head text direction extend r = cond (extend || is_empty r) (moved text direction r.head) (collapsed text direction r)

-- a range whose head is moved: its anchor stays where it is extended, else it is a cursor
abbrev pub with_head : (extend : Bool) → Range → (head : ℕ) → Range
with_head extend r head = record { anchor = cond extend r.anchor head; head = head }

abbrev pub moved_range : List ℕ → Move → (extend : Bool) → Range → Range
moved_range text direction extend r = with_head extend r (moved_head text direction extend r)

-- a selection of these ranges, as a spec
abbrev pub selection_spec : SceneView → List Range → (main : ℕ) → Spec Val
selection_spec s ranges main = editing s [] (Some (record { ranges = ranges; main = main })) (codes "select")

-- Selecting: a selection of these ranges; none where it is the scene's own.
abbrev pub selecting : SceneView → List Range → (main : ℕ) → Option (Spec Val)
selecting s ranges main = cond (same_selection (normal_form ranges main) s.selection) None (Some (selection_spec s ranges main))

-- Move: each range is moved.
abbrev pub move_spec : SceneView → Move → (extend : Bool) → Option (Spec Val)
move_spec s direction extend = selecting s (map (moved_range s.document direction extend) s.selection.ranges) s.selection.main

-- Select all: one range over the document.
abbrev pub select_all_spec : SceneView → Option (Spec Val)
select_all_spec s = selecting s (record { anchor = 0; head = length s.document } ∷ []) 0
