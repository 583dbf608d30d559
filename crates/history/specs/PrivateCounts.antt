-- What each chain and each list keeps of its items. Private: contracts see the list of items alone.
use Rattle.std.specs.Prelude.{◌≡◌, ℕ, ◌+◌, ◌≤◌, Bool, true, ◌&&◌, leb, List, [], ◌∷◌, length, take}
use Rattle.history.specs.declared.item.Item.{Item}
use Rattle.history.specs.declared.item.Item.TheVariants.{Change, Select}
use Rattle.history.specs.declared.chain.Counts.{Counts}
use Rattle.history.specs.Items.{change_count, most_selects}

-- how many Selects stand in the first row: those before the first Change
abbrev pub first_row : List Item → ℕ
first_row [] = 0
first_row (Change c ∷ items) = 0
first_row (Select s ∷ items) = first_row items + 1

-- whether no row has more Selects than may stand in one
abbrev pub rows_fit : List Item → Bool
rows_fit [] = true
rows_fit (Change c ∷ items) = rows_fit items
rows_fit (Select s ∷ items) = leb (first_row items + 1) most_selects && rows_fit items

-- what a chain keeps of its items
pub record IsCounted (items : List Item) (c : Counts) : Type 0 where
  pub len : c.len ≡ length items
  pub row : c.row ≡ first_row items
  pub fit : c.rows_fit ≡ rows_fit items
  pub short_row : c.row ≤ c.len

-- what a list keeps of the items that its chain has and it itself: how many it has, the newest, and how many of them are Changes
pub record IsCut (items : List Item) (len count : ℕ) : Type 0 where
  pub few : len ≤ length items
  pub changes : count ≡ change_count (take len items)
  pub few_changes : count ≤ len

-- with one more item before the others
abbrev pub counted_with : Item → Counts → Counts
counted_with (Change c) n = record { len = n.len + 1; row = 0; rows_fit = n.rows_fit }
counted_with (Select s) n = record { len = n.len + 1; row = n.row + 1; rows_fit = leb (n.row + 1) most_selects && n.rows_fit }
