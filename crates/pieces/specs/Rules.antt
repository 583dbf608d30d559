-- The rules by which a block shows its characters and the texts of its items.
use Rattle.std.specs.Prelude.{ℕ, ◌+◌, ◌-◌, Bool, not, ◌&&◌, nat_le, nat_lt, List, [], ◌∷◌, ◌++◌, length, take, drop, map, if◌then◌else◌}
use Rattle.std.specs.List.{list_any}
use Rattle.line_tree.specs.Text.{slice}
use Rattle.cells.specs.Layout.{clusters}
use Rattle.pieces.specs.Piece.{PieceView, PiecesView}
use Rattle.range_set.specs.declared.ranged.Ranged.{Ranged}
use Rattle.decoration.specs.declared.deco.Deco.{Deco}
use Rattle.selection.specs.declared.range.Range.{Range}
use Rattle.pieces.specs.Shading.{block_style}
use Rattle.pieces.specs.Items.{ItemView, item_piece, items_of}
use Rattle.pieces.specs.Pieces.{BlockView, block_of, cluster_piece}

-- a character with its place in the document
pub record Placed : Type 0 where
  pub place : ℕ
  pub character : ℕ

-- Hidden: a character in the range of a replacement.
abbrev pub hides : ℕ → ItemView → Bool
hides p x = nat_le x.place p && nat_lt p x.to

abbrev pub is_hidden : List ItemView → ℕ → Bool
is_hidden items p = list_any (hides p) items

-- the characters from place p on that aren't hidden
unfoldable pub shown : (ℕ → Bool) → ℕ → List ℕ → List Placed
shown hidden p [] = []
shown hidden p (c ∷ cs) = (if hidden p then [] else record { place = p; character = c } ∷ []) ++ shown hidden (p + 1) cs

abbrev pub reaches_past : ℕ → ItemView → Bool
reaches_past p x = nat_lt p x.to

-- Drawn: the items whose texts are shown. They start in the block, and none that stands before one in order reaches past its
-- place: it would be strictly inside that one, or not the first replacement that starts at its place.
unfoldable pub drawn_items : ℕ → List ItemView → List ItemView → List ItemView
drawn_items from before [] = []
drawn_items from before (x ∷ xs) =
    (if nat_le from x.place && not (list_any (reaches_past x.place) before) then x ∷ [] else []) ++ drawn_items from (x ∷ before) xs

-- a cluster has the place and the style of its first character
abbrev pub first_piece : BlockView → List Placed → List ℕ → List PieceView
first_piece b [] cluster = []
first_piece b (c ∷ cs) cluster = cluster_piece b.style_of (c.place - b.from) cluster ∷ []

unfoldable pub by_placed : BlockView → List (List ℕ) → List Placed → List PieceView
by_placed b [] run = []
by_placed b (cluster ∷ clusters) run = first_piece b run cluster ++ by_placed b clusters (drop (length cluster) run)

abbrev pub character_of : Placed → ℕ
character_of c = c.character

-- Clusters are found in each longest run of shown characters between which no other piece stands.
abbrev pub run_clusters : BlockView → List Placed → List PieceView
run_clusters b run = by_placed b (clusters (map character_of run)) run

-- the clusters up to the place of each item, the item, and the clusters after the last one
unfoldable pub parted : BlockView → (ℕ → Bool) → ℕ → List ℕ → List ItemView → List PieceView
parted b hidden p cs [] = run_clusters b (shown hidden p cs)
parted b hidden p cs (x ∷ xs) =
    run_clusters b (shown hidden p (take (x.place - p) cs)) ++ item_piece b.from b.style x ∷ parted b hidden x.place (drop (x.place - p) cs) xs

-- Ruled: the shown characters of the block by clusters, parted by the drawn items.
abbrev pub ruled : BlockView → List ItemView → List PieceView
ruled b items = parted b (is_hidden items) b.from (slice b.from b.to b.text) (drawn_items b.from [] items)

-- Pieces: those of the block of a text from one place to another, and the block's style.
abbrev pub pieces_of : List ℕ → (from to : ℕ) → List (List (Ranged Deco)) → List Range → PiecesView
pieces_of text from to layers ranges =
    record { style = block_style from layers; start = 0; pieces = ruled (block_of text from to layers ranges) (items_of from to layers) }
