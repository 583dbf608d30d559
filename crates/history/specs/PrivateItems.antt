-- One item by itself. Private.
use Rattle.std.specs.Prelude.{ℕ, zero, suc, Bool, true, false, Option, Some, None}
use Rattle.history.specs.declared.item.ChangeItem.{ChangeItem}
use Rattle.history.specs.declared.item.SelectItem.{SelectItem}
use Rattle.history.specs.declared.item.Item.{Item}
use Rattle.history.specs.declared.item.Item.TheVariants.{Change, Select}
use Rattle.history.specs.Items.{most_selects}

-- it as a Change, or as a Select, if it is one
abbrev pub change_of : Item → Option ChangeItem
change_of (Change c) = Some c
change_of (Select s) = None

abbrev pub select_of : Item → Option SelectItem
select_of (Change c) = None
select_of (Select s) = Some s

-- how many more Selects may stand in a row after an item, where there was room for so many before it, and whether it stays
abbrev pub room_after : (room : ℕ) → (is_change : Bool) → ℕ × Bool
room_after room true = (most_selects, true)
room_after zero false = (0, false)
room_after (suc room) false = (room, true)
