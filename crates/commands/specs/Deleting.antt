-- The commands that delete (manual: deleteCharBackward, deleteCharForward).
use Rattle.std.specs.Prelude.{ℕ, min, max, Bool, cond, ◌&&◌, ◌||◌, eqb, List, [], map, length, Option, Some, None, codes}
use Rattle.std.specs.List.{list_all}
use Rattle.change_set.specs.declared.change.Change.{Change}
use Rattle.change_set.specs.declared.change.Change.TheVariants.{Span}
use Rattle.selection.specs.declared.range.Range.{Range}
use Rattle.selection.specs.Ranges.{is_empty}
use Rattle.transaction.specs.declared.spec.Spec.{Spec}
use Rattle.values.specs.declared.val.Val.{Val}
use Rattle.cursor_moves.specs.Moves.{before, after}
use Rattle.commands.specs.declared.side.Side.{Side}
use Rattle.commands.specs.declared.side.Side.TheVariants.{Back, Forward}
use Rattle.commands.specs.Editing.{SceneView, editing}

-- the last place of a text on a side
abbrev pub edge : Side → List ℕ → ℕ
edge Back text = 0
edge Forward text = length text

-- the place next to a cursor on a side: over a cluster or a break
abbrev pub beside : Side → List ℕ → (place : ℕ) → ℕ
beside Back text place = before text place
beside Forward text place = after text place

abbrev pub delete_event : Side → List ℕ
delete_event Back = codes "delete.backward"
delete_event Forward = codes "delete.forward"

-- the range is a cursor, and nothing stands on that side of it
abbrev pub has_nothing : Side → List ℕ → Range → Bool
has_nothing side text r = is_empty r && eqb r.head (edge side text)

-- the other end of what is deleted at a range: its anchor, or the place next to a cursor
abbrev pub other_end : Side → List ℕ → Range → ℕ
other_end side text r = cond (is_empty r) (beside side text r.head) r.anchor

-- Deleted: the range, or what stands next to a cursor on that side.
abbrev pub deleted : Side → List ℕ → Range → Change
deleted side text r = Span (min (other_end side text r) r.head) (max (other_end side text r) r.head) []

-- Delete: what is deleted at each range, without a selection; none where the document is read only, or where nothing stands on
-- that side of any range, all of which are cursors.
abbrev pub delete_spec : Side → SceneView → Option (Spec Val)
delete_spec side s =
    cond (s.read_only || list_all (has_nothing side s.document) s.selection.ranges) None
    (Some (editing s (map (deleted side s.document) s.selection.ranges) None (delete_event side)))

-- what the commands of the two sides send
abbrev pub delete_back_spec : SceneView → Option (Spec Val)
delete_back_spec s = delete_spec Back s

abbrev pub delete_forward_spec : SceneView → Option (Spec Val)
delete_forward_spec s = delete_spec Forward s
