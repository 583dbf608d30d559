-- What a history gives back to be undone or done again (manual: undo, redo, undoSelection, redoSelection).
use Rattle.std.specs.Prelude.{ℤ, List, [], ◌∷◌, Option, Some, None, option_map}
use Rattle.history.specs.declared.item.ChangeItem.{ChangeItem}
use Rattle.history.specs.declared.item.SelectItem.{SelectItem}
use Rattle.history.specs.declared.item.Item.{Item}
use Rattle.history.specs.declared.item.Item.TheVariants.{Change, Select}
use Rattle.history.specs.declared.restore.Restore.{Restore}
use Rattle.history.specs.Items.{newest_change}

-- a Change, by the number of its undo or redo
abbrev pub of_change : (number : ℤ) → ChangeItem → Restore
of_change number c = record { changes = Some c.changes; effects = c.effects; selection = c.selection; number = number }

abbrev pub of_select : (number : ℤ) → SelectItem → Restore
of_select number s = record { changes = None; effects = []; selection = s.selection; number = number }

-- Restored Change: the newest one of a list, if there is one.
abbrev pub restored_change : (number : ℤ) → List Item → Option Restore
restored_change number items = option_map (of_change number) (newest_change items)

-- Restored item: the newest one of a list, if there is one.
abbrev pub restored_item : (change select : ℤ) → List Item → Option Restore
restored_item change select [] = None
restored_item change select (Change c ∷ items) = Some (of_change change c)
restored_item change select (Select s ∷ items) = Some (of_select select s)
