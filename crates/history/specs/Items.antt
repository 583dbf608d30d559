-- The items of a history (manual: history, undo, undoSelection).
use Rattle.std.specs.Prelude.{ℕ, zero, suc, Bool, true, false, List, [], ◌∷◌, Option, Some, None}
use Rattle.std.specs.List.{count_by}
use Rattle.history.specs.declared.item.ChangeItem.{ChangeItem}
use Rattle.history.specs.declared.item.Item.{Item}
use Rattle.history.specs.declared.item.Item.TheVariants.{Change, Select}

abbrev pub is_change : Item → Bool
is_change (Change c) = true
is_change (Select s) = false

-- the newest Change of a list, which is newest first
abbrev pub newest_change : List Item → Option ChangeItem
newest_change [] = None
newest_change (Change c ∷ items) = Some c
newest_change (Select s ∷ items) = newest_change items

-- the items older than the newest Change
abbrev pub older : List Item → List Item
older [] = []
older (Change c ∷ items) = items
older (Select s ∷ items) = older items

-- whether a list begins with a Change, or with a Select
abbrev pub begins_with_change : List Item → Bool
begins_with_change (Change c ∷ items) = true
begins_with_change _ = false

abbrev pub begins_with_select : List Item → Bool
begins_with_select (Select s ∷ items) = true
begins_with_select _ = false

-- how many Changes a list has
abbrev pub change_count : List Item → ℕ
change_count items = count_by is_change items

-- Kept Changes: so many of the newest; the next Change and all older items go.
abbrev pub keep_changes : ℕ → List Item → List Item
keep_changes count [] = []
keep_changes count (Select s ∷ items) = Select s ∷ keep_changes count items
keep_changes zero (Change c ∷ items) = []
keep_changes (suc count) (Change c ∷ items) = Change c ∷ keep_changes count items

-- how many Selects may stand in a row
abbrev pub most_selects : ℕ
most_selects = 200

-- Kept Selects: of each row of them the newest; in the first row there is room for so many.
abbrev pub keep_selects : (room : ℕ) → List Item → List Item
keep_selects room [] = []
keep_selects room (Change c ∷ items) = Change c ∷ keep_selects most_selects items
keep_selects zero (Select s ∷ items) = keep_selects zero items
keep_selects (suc room) (Select s ∷ items) = Select s ∷ keep_selects room items
