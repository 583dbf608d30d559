-- The commands that insert (manual: EditorState.replaceSelection, insertNewline).
use Rattle.std.specs.Prelude.{ℕ, ◌+◌, ◌-◌, min, cond, List, [], ◌∷◌, map, length, Option, Some, None, codes}
use Rattle.line_tree.specs.Text.{line_feed}
use Rattle.change_set.specs.declared.change.Change.{Change}
use Rattle.change_set.specs.declared.change.Change.TheVariants.{Span}
use Rattle.selection.specs.declared.range.Range.{Range}
use Rattle.selection.specs.Ranges.{low, high, cursor}
use Rattle.transaction.specs.declared.spec.Spec.{Spec}
use Rattle.values.specs.declared.val.Val.{Val}
use Rattle.values.specs.InRange.{max_u32}
use Rattle.commands.specs.Editing.{SceneView, editing}

-- a range replaced by a text
abbrev pub replacing : (text : List ℕ) → Range → Change
replacing text r = Span (low r) (high r) text

-- the cursor after the text that takes a range's place, where so many characters are put in up to there, and so many before the
-- range are taken out; the greatest number of 32 bits where it would be more
abbrev pub cursor_after : (put taken : ℕ) → Range → Range
cursor_after put taken r = cursor (min (low r - taken + put) max_u32)

-- Cursors: one after each text of a length, where so many characters are put in and so many taken out before the first range.
abbrev pub cursors_after : (len put taken : ℕ) → List Range → List Range
cursors_after len put taken [] = []
cursors_after len put taken (r ∷ rs) = cursor_after (put + len) taken r ∷ cursors_after len (put + len) (taken + (high r - low r)) rs

-- Insertion: a text in place of each range, with a cursor after each.
abbrev pub insertion : SceneView → (text event : List ℕ) → Spec Val
insertion s text event =
    editing s (map (replacing text) s.selection.ranges)
    (Some (record { ranges = cursors_after (length text) 0 0 s.selection.ranges; main = s.selection.main })) event

-- an insertion; none where the document is read only
abbrev pub allowed_insertion : SceneView → (text event : List ℕ) → Option (Spec Val)
allowed_insertion s text event = cond s.read_only None (Some (insertion s text event))

-- Insert: a text that is typed.
abbrev pub insert_spec : SceneView → (text : List ℕ) → Option (Spec Val)
insert_spec s text = allowed_insertion s text (codes "input.type")

-- Newline: a break.
abbrev pub newline_spec : SceneView → Option (Spec Val)
newline_spec s = allowed_insertion s (line_feed ∷ []) (codes "input")
