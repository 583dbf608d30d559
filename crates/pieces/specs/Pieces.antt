-- A block, its clusters, and what is shown of it item by item. Its pieces by the rules are those of Rules.
use Rattle.std.specs.Prelude.{ℕ, ◌+◌, ◌-◌, nat_le, min, max, false, List, [], ◌∷◌, ◌++◌, length, if◌then◌else◌}
use Rattle.range_set.specs.declared.ranged.Ranged.{Ranged}
use Rattle.decoration.specs.declared.deco.Deco.{Deco}
use Rattle.decoration.specs.declared.style.Style.{Style}
use Rattle.selection.specs.declared.range.Range.{Range}
use Rattle.line_tree.specs.Text.{slice}
use Rattle.cells.specs.Layout.{clusters}
use Rattle.pieces.specs.Piece.{PieceView}
use Rattle.pieces.specs.Shading.{block_style, style_at, style_ranges}
use Rattle.pieces.specs.Items.{ItemView, item_piece}

-- a cluster has the style of its first character
abbrev pub cluster_piece : (ℕ → Style) → ℕ → List ℕ → PieceView
cluster_piece style_of p cluster = record { place = p; text = cluster; style = style_of p; before_cursor = false }

-- clusters one after the other, the first of which stands at the place p of the block
unfoldable pub by_clusters : (ℕ → Style) → ℕ → List (List ℕ) → List PieceView
by_clusters style_of p [] = []
by_clusters style_of p (cluster ∷ clusters) = cluster_piece style_of p cluster ∷ by_clusters style_of (p + length cluster) clusters

-- a block: the text that it is of, where it starts and ends, its style, and that of the character at each place from its start
pub record BlockView : Type 0 where
  pub text : List ℕ
  pub from : ℕ
  pub to : ℕ
  pub style : Style
  pub style_of : ℕ → Style

-- the clusters of the block's characters from the place `at` of the document to before the place `end`
abbrev pub run : BlockView → (at end : ℕ) → List PieceView
run b at end = by_clusters b.style_of (at - b.from) (clusters (slice at (min end b.to) b.text))

-- the characters before an item and its text, unless a replacement before it hides it
abbrev pub up_to : BlockView → (at : ℕ) → ItemView → List PieceView
up_to b at x = if nat_le at x.place then run b at x.place ++ item_piece b.from b.style x ∷ [] else []

-- for private clauses: what is shown from the place `at` of the document on, where items stand between the characters, each hides what it replaces,
-- and none shows its text that starts before `at`
unfoldable pub walked : BlockView → (at : ℕ) → List ItemView → List PieceView
walked b at [] = run b at b.to
walked b at (x ∷ xs) = up_to b at x ++ walked b (max at x.to) xs

-- the block of a text from one place to another, under the layers and the ranges of the selection
abbrev pub block_of : List ℕ → (from to : ℕ) → List (List (Ranged Deco)) → List Range → BlockView
block_of text from to layers ranges =
    let style = block_style from layers in
    record { text = text; from = from; to = to; style = style; style_of = λ p. style_at style (style_ranges from to layers ranges) (from + p) }
