-- The cell group that each character of a block stands in.
use Rattle.std.specs.Prelude.{◌≡◌, ◌≢◌, ℕ, suc, ◌==◌, false, true, List, [], ◌∷◌, map, replicate}
use Rattle.std.specs.List.{list_any, flat_map, All}
use Rattle.unicode_width.specs.Width.{str_width}
use Rattle.cells.specs.Layout.{blank, dot, first, is_control, rests}
use Rattle.pieces.specs.Piece.{PieceView}
use Rattle.decoration.specs.declared.style.Style.{Style}
use Rattle.line_rows.specs.declared.rows.StyledCell.{StyledCell}
use Rattle.line_rows.specs.Groups.{in_style}

-- the characters of pieces, in their order
abbrev pub block_text : List PieceView → List ℕ
block_text pieces = flat_map (λ (piece : PieceView). piece.text) pieces

-- Standing in a group: which characters stand in a cell group, and which groups fill the columns after it.
pub data StandsIn : List ℕ → List StyledCell → List (List StyledCell) → Type 0 where
  -- a cluster without control characters: its first cell shows exactly its characters, and so many further columns follow
  cluster : (style : Style) (text : List ℕ) (after : ℕ) → list_any is_control text ≡ false → str_width false text ≡ suc after
      → StandsIn text (map (in_style style) (first text after ∷ rests 1 after)) []
  -- such a cluster without columns: a group that has no cell
  no_columns : (text : List ℕ) → list_any is_control text ≡ false → str_width false text ≡ 0 → StandsIn text [] []
  -- a control character that is no tab: a dot
  control : (style : Style) (c : ℕ) → is_control c ≡ true → (c == 9) ≡ false → StandsIn (c ∷ []) (in_style style dot ∷ []) []
  -- a tab: its first blank, and each further blank is a group that fills a column
  tab : (style : Style) (more : ℕ) → StandsIn (9 ∷ []) (in_style style blank ∷ []) (replicate more (in_style style blank ∷ []))

-- characters that follow one another, the group that they stand in, and the groups that fill the columns after it
pub record PartView : Type 0 where
  pub characters : List ℕ
  pub group : List StyledCell
  pub filling : List (List StyledCell)

-- Standing once: a text is cut into parts, one after the other and none empty, so that each character is in exactly one part;
-- each part stands in a group of its own, in the same order; and there is no other group but the further blanks of tabs.
pub record StandOnce (text : List ℕ) (groups : List (List StyledCell)) : Type 0 where
  pub parts : List PartView
  pub all_characters : flat_map (λ (part : PartView). part.characters) parts ≡ text
  pub none_empty : All (λ (part : PartView). part.characters ≢ []) parts
  pub all_groups : flat_map (λ (part : PartView). part.group ∷ part.filling) parts ≡ groups
  pub each : All (λ (part : PartView). StandsIn part.characters part.group part.filling) parts
