-- Where changes that aren't recorded move the items of a list (manual: Transaction.addToHistory).
use Rattle.std.specs.Prelude.{ℕ, Bool, true, false, cond, not, ◌&&◌, ◌==◌, ltb, List, [], ◌∷◌, length}
use Rattle.line_tree.specs.Text.{max_len}
use Rattle.change_desc.specs.declared.section.Section.{Section}
use Rattle.change_desc.specs.Sections.{spelled, counted, lengths, new_size}
use Rattle.change_desc.specs.Map.{map_over}
use Rattle.change_desc.specs.Ranges.{changes_nothing}
use Rattle.kept_effects.specs.MappedValues.{moved_effects}
use Rattle.selection.specs.Selections.{moved_selection}
use Rattle.history.specs.declared.item.ChangeItem.{ChangeItem}
use Rattle.history.specs.declared.item.SelectItem.{SelectItem}
use Rattle.history.specs.declared.item.Item.{Item}
use Rattle.history.specs.declared.item.Item.TheVariants.{Change, Select}

-- a Change's changes over the new document
abbrev pub changes_over : List (Section ℕ) → ChangeItem → List (Section (List ℕ))
changes_over over c = map_over spelled c.changes over false

-- the changes as they stand after a Change, in the document that it leads to
abbrev pub over_after : List (Section ℕ) → ChangeItem → List (Section ℕ)
over_after over c = map_over counted over (lengths spelled c.changes) true

-- Moved Change: its changes over the new document, and its effects and selection over the changes as they stand after it.
abbrev pub moved_change : List (Section ℕ) → ChangeItem → ChangeItem
moved_change over c =
    let after = over_after over c in
    record { changes = changes_over over c; effects = moved_effects after c.effects; selection = moved_selection after c.selection }

-- Moved Select: it is never dropped.
abbrev pub moved_select : List (Section ℕ) → SelectItem → SelectItem
moved_select over s = record { selection = moved_selection over s.selection; time = s.time; user_event = s.user_event }

-- it would lead to a document that is too long
abbrev pub is_too_long : List (Section ℕ) → ChangeItem → Bool
is_too_long over c = ltb max_len (new_size spelled (changes_over over c))

-- no change and no effect is left
abbrev pub is_idle : ChangeItem → Bool
is_idle c = changes_nothing c.changes && length c.effects == 0

-- before others, unless nothing is left of it
abbrev pub put_kept : ChangeItem → List Item → List Item
put_kept c items = cond (is_idle c) items (Change c ∷ items)

-- Moved items: the newest over the changes, each next over the changes as they stand after the one before it. A Change of which
-- nothing is left is dropped, and from the first that would lead to a document that is too long the rest of the list.
abbrev pub items_over : List (Section ℕ) → List Item → List Item
items_over over [] = []
items_over over (Select s ∷ items) = Select (moved_select over s) ∷ items_over over items
items_over over (Change c ∷ items) = cond (is_too_long over c) [] (put_kept (moved_change over c) (items_over (over_after over c) items))

-- whether the newest item stays
abbrev pub newest_stays : List (Section ℕ) → List Item → Bool
newest_stays over [] = false
newest_stays over (item ∷ items) = not (length (items_over over (item ∷ [])) == 0)
