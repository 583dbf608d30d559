-- The widgets and replacements of a block, in the order in which their texts stand.
use Rattle.std.specs.Prelude.{ℕ, ◌-◌, ℤ, pos, int_lt, int_le, Bool, false, ◌&&◌, ◌||◌, ◌==◌, nat_lt, nat_le, List, [], ◌∷◌, flat_map, Option, Some, None, if◌then◌else◌}
use Rattle.range_set.specs.declared.ranged.Ranged.{Ranged}
use Rattle.decoration.specs.declared.deco.Deco.{Deco}
use Rattle.decoration.specs.declared.deco.Deco.TheVariants.{Widget, Replace}
use Rattle.decoration.specs.declared.style.Style.{Style}
use Rattle.stable_order.specs.StableSort.{stable_sort}
use Rattle.pieces.specs.Piece.{PieceView}
use Rattle.pieces.specs.Shading.{touching}
use Rattle.pieces.specs.Styles.{over}

-- a widget, which has a side, or a replacement: where it starts and ends, its text and its style
pub record ItemView : Type 0 where
  pub place : ℕ
  pub to : ℕ
  pub side : Option ℤ
  pub text : List ℕ
  pub style : Style

-- the rank of an item among those of its place: a widget's side, and a replacement after all widgets
abbrev pub rank : Option ℤ → ℤ
rank (Some side) = side
rank None = pos 10001

abbrev pub item_before : ItemView → ItemView → Bool
item_before a b = nat_lt a.place b.place || (a.place == b.place && int_lt (rank a.side) (rank b.side))

-- a widget whose side is at most 0, after which the cursor at its place stands
abbrev pub is_before_cursor : Option ℤ → Bool
is_before_cursor (Some side) = int_le side (pos 0)
is_before_cursor None = false

-- The piece of an item: its text in the block's style with its own over it.
abbrev pub item_piece : ℕ → Style → ItemView → PieceView
item_piece from line x = record { place = x.place - from; text = x.text; style = over line x.style; before_cursor = is_before_cursor x.side }

-- the item of a decoration, if it is a widget that doesn't stand before the block or a replacement that isn't empty
abbrev pub item_in : ℕ → Deco → (place to : ℕ) → List ItemView
item_in from (Widget w) place to =
    if nat_le from place then record { place = place; to = place; side = Some w.side; text = w.text; style = w.style } ∷ [] else []
item_in from (Replace r) place to =
    if nat_lt place to then record { place = place; to = to; side = None; text = r.text; style = r.style } ∷ [] else []
item_in from d place to = []

abbrev pub item_of : ℕ → Ranged Deco → List ItemView
item_of from d = item_in from d.value d.from d.to

-- the items of a set
abbrev pub set_items : ℕ → ℕ → List (Ranged Deco) → List ItemView
set_items from to set = flat_map (item_of from) (touching from to set)

-- Items in order: by place; at one place widgets by their sides, and then the replacements; of equal ones those of a higher
-- layer first, and in one layer by the order of the set.
abbrev pub items_of : ℕ → ℕ → List (List (Ranged Deco)) → List ItemView
items_of from to layers = stable_sort item_before (flat_map (set_items from to) layers)
