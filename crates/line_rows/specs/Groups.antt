-- The cell groups of a block, and what a row shows of them.
use Rattle.std.specs.Prelude.{◌≡◌, ℕ, ◌+◌, ◌||◌, List, [], ◌∷◌, ◌++◌, length, map, if◌then◌else◌}
use Rattle.std.specs.List.{list_any, All}
use Rattle.cells.specs.Layout.{Shown, blank, cells_of, cluster_cells, clusters, is_control, is_tab}
use Rattle.pieces.specs.Piece.{PieceView}
use Rattle.decoration.specs.declared.style.Style.{Style}
use Rattle.line_rows.specs.declared.rows.StyledCell.{StyledCell}

abbrev pub in_style : Style → Shown → StyledCell
in_style style cell = record { cell = cell; style = style }

abbrev pub alone : Shown → List Shown
alone cell = cell ∷ []

-- The groups of a cluster that begins in column `at`: all its cells are one group. Of a tab each blank is a group, and of control
-- characters each point.
unfoldable pub cluster_groups : ℕ → ℕ → List ℕ → List (List Shown)
cluster_groups tab at cluster =
    if is_tab cluster || list_any is_control cluster then map alone (cluster_cells tab at cluster) else cluster_cells tab at cluster ∷ []

-- the groups of clusters, of which each begins where the one before ended
unfoldable pub text_groups : ℕ → ℕ → List (List ℕ) → List (List Shown)
text_groups tab at [] = []
text_groups tab at (cluster ∷ clusters) = cluster_groups tab at cluster ++ text_groups tab (at + length (cluster_cells tab at cluster)) clusters

-- Cell groups: those of a block's pieces, each in its piece's style.
unfoldable pub groups_of : ℕ → ℕ → List PieceView → List (List StyledCell)
groups_of tab at [] = []
groups_of tab at (piece ∷ pieces) =
    map (map (in_style piece.style)) (text_groups tab at (clusters piece.text)) ++ groups_of tab (at + length (cells_of tab at piece.text)) pieces

-- the cells of groups
unfoldable pub cells_in : List (List StyledCell) → List StyledCell
cells_in [] = []
cells_in (group ∷ groups) = group ++ cells_in groups

abbrev pub IsBlank : StyledCell → Type 0
IsBlank c = c.cell ≡ blank

-- Whole groups: a row shows some of the groups, one after the other, each once and with all its cells; what stands before and
-- after these is blank.
pub record ShowsWhole (groups : List (List StyledCell)) (row : List StyledCell) : Type 0 where
  pub before : List (List StyledCell)
  pub shown : List (List StyledCell)
  pub after : List (List StyledCell)
  pub start : List StyledCell
  pub end : List StyledCell
  pub in_order : groups ≡ before ++ shown ++ after
  pub cells : row ≡ start ++ cells_in shown ++ end
  pub blank_start : All IsBlank start
  pub blank_end : All IsBlank end
