-- One cell, or one piece, further in a row.
use Rattle.std.proofs.Common.{◌≡◌, ℕ, ◌+◌, List, [], ◌∷◌, ◌++◌, length, drop, sym, ap, ◌∙◌, append_assoc, append-nil, get_or, ◌<◌, ◌≤◌, ◌-◌, ◌&&◌, nat_le, nat_lt, max, Bool, true, false, refl, arith, replicate, length-append, if◌then◌else◌}
use Rattle.std.proofs.lemmas.Bool.Decides.{nat_tests}
use Rattle.std.proofs.lemmas.List.{length-replicate}
use Rattle.std.proofs.lemmas.List.{drop_more, drop_all}
use Rattle.cells.specs.Layout.{Shown, blank, cells_of}
use Rattle.pieces.specs.Piece.{PieceView, PiecesView}
use Rattle.line_rows.specs.Row.{in_window, pieces_in_window, row_of, shown_cell, whole_or_blank}
use Rattle.decoration.specs.declared.style.Style.{Style}
use Rattle.line_rows.specs.declared.rows.StyledCell.{StyledCell}

pub window_step : (left cols : ℕ) (style : Style) (at : ℕ) (cell : Shown) (left_over cells : List Shown) (done more all : List StyledCell) → left_over ≡ cell ∷ cells → more ≡ done ++ shown_cell left cols style at cell → done ++ in_window left cols style at left_over ≡ all → more ++ in_window left cols style (at + 1) cells ≡ all
unfolding in_window
window_step left cols style at cell left_over cells done more all taken adds goes =
    rw adds (append_assoc done _ _ ∙ (rw taken at goes))

pub window_end : (left cols : ℕ) (style : Style) (at : ℕ) (left_over : List Shown) (done all : List StyledCell) → left_over ≡ [] → done ++ in_window left cols style at left_over ≡ all → done ≡ all
unfolding in_window
window_end left cols style at left_over done all none goes = sym (append-nil done) ∙ (rw none at goes)

pub pieces_step : (tab left cols at : ℕ) (piece : PieceView) (pieces : List PieceView) (index count : ℕ) (cells : List Shown) (done more all : List StyledCell) → index < length pieces → piece ≡ get_or pieces index piece → cells ≡ cells_of tab at piece.text → count ≡ length cells → more ≡ done ++ in_window left cols piece.style at cells → done ++ pieces_in_window tab left cols at (drop index pieces) ≡ all → more ++ pieces_in_window tab left cols (at + count) (drop (index + 1) pieces) ≡ all
unfolding pieces_in_window
pieces_step tab left cols at piece pieces index count cells done more all inside is laid long adds goes =
    let next : drop index pieces ≡ piece ∷ drop (index + 1) pieces =
    drop_more pieces index piece inside ∙ ap (λ (x : PieceView). x ∷ drop (index + 1) pieces) (sym is) in
    rw (adds, long, laid) (append_assoc done _ _ ∙ (rw next at goes))

pub pieces_end : (tab left cols at : ℕ) (pieces : List PieceView) (index : ℕ) (done all : List StyledCell) → length pieces ≤ index → done ++ pieces_in_window tab left cols at (drop index pieces) ≡ all → done ≡ all
unfolding pieces_in_window
pieces_end tab left cols at pieces index done all past goes = sym (append-nil done) ∙ (rw (drop_all index pieces past) at goes)

-- past the right edge nothing is shown
pub past_edge : (left cols at : ℕ) → left + cols ≤ at → (nat_le left at && nat_lt (at - left) cols) ≡ false
past_edge left cols at past = grind (arith, nat_tests)

cells_past : (left cols : ℕ) (style : Style) (at : ℕ) (cells : List Shown) → left + cols ≤ at → in_window left cols style at cells ≡ []
unfolding in_window
cells_past left cols style at [] past = refl
cells_past left cols style at (cell ∷ cells) past = rw (past_edge left cols at past) (cells_past left cols style (at + 1) cells (omega arith))

pub pieces_past : (tab left cols at : ℕ) (pieces : List PieceView) → left + cols ≤ at → pieces_in_window tab left cols at pieces ≡ []
unfolding pieces_in_window
pieces_past tab left cols at [] past = refl
pieces_past tab left cols at (piece ∷ pieces) past =
    rw (cells_past left cols piece.style at (cells_of tab at piece.text) past) (pieces_past tab left cols (at + length (cells_of tab at piece.text)) pieces (omega arith))

-- before the left edge nothing is shown
before_edge : (left cols at : ℕ) → at < left → (nat_le left at && nat_lt (at - left) cols) ≡ false
before_edge left cols at before = grind (arith, nat_tests)

pub cells_before : (left cols : ℕ) (style : Style) (at : ℕ) (cells : List Shown) → at + length cells ≤ left → in_window left cols style at cells ≡ []
unfolding in_window
cells_before left cols style at [] before = refl
cells_before left cols style at (cell ∷ cells) before = rw (before_edge left cols at (omega arith)) (cells_before left cols style (at + 1) cells (omega arith))

-- so a row is whole once it came to the edge
pub edge_end : (tab left cols at : ℕ) (pieces : List PieceView) (done all : List StyledCell) → left + cols ≤ at → done ++ pieces_in_window tab left cols at pieces ≡ all → done ≡ all
edge_end tab left cols at pieces done all past goes = sym (append-nil done) ∙ (rw (pieces_past tab left cols at pieces past) at goes)

-- how many columns of the window are left from column `at` on
abbrev room : ℕ → ℕ → ℕ → ℕ
room left cols at = left + cols - max at left

shown_room : (left cols : ℕ) (style : Style) (at : ℕ) (cell : Shown) → length (shown_cell left cols style at cell) + room left cols (at + 1) ≤ room left cols at
shown_room left cols style at cell = by (nat_le left at && nat_lt (at - left) cols) refl where
  shows : (left cols at : ℕ) → (nat_le left at && nat_lt (at - left) cols) ≡ true → (left ≤ at) × (at < left + cols)
  shows left cols at holds = (grind (arith, nat_tests), grind (arith, nat_tests))

  by : (b : Bool) → (nat_le left at && nat_lt (at - left) cols) ≡ b → length {A = StyledCell} (if b then (record { cell = whole_or_blank cols (at - left) cell; style = style }) ∷ [] else []) + room left cols (at + 1) ≤ room left cols at
  by true holds = let inside = shows left cols at holds in omega (arith, inside.0, inside.1)
  by false other = omega arith

cells_room : (left cols : ℕ) (style : Style) (at : ℕ) (cells : List Shown) → length (in_window left cols style at cells) + room left cols (at + length cells) ≤ room left cols at
unfolding in_window
cells_room left cols style at [] = omega arith
cells_room left cols style at (cell ∷ cells) =
    let here = shown_room left cols style at cell in
    let more = cells_room left cols style (at + 1) cells in
    let whole = length-append (shown_cell left cols style at cell) (in_window left cols style (at + 1) cells) in
    let same : at + 1 + length cells ≡ at + length (cell ∷ cells) = omega arith in
    omega (arith, here, whole, rw same at more)

pieces_room : (tab left cols at : ℕ) (pieces : List PieceView) → length (pieces_in_window tab left cols at pieces) ≤ room left cols at
unfolding pieces_in_window
pieces_room tab left cols at [] = omega arith
pieces_room tab left cols at (piece ∷ pieces) =
    let cells = cells_of tab at piece.text in
    omega (
      arith,
      cells_room left cols piece.style at cells,
      pieces_room tab left cols (at + length cells) pieces,
      length-append (in_window left cols piece.style at cells) (pieces_in_window tab left cols (at + length cells) pieces),
    )

-- a row has exactly as many cells as the window has columns
pub length-row : (tab cols left : ℕ) (p : PiecesView) → length (row_of tab cols left p) ≡ cols
length-row tab cols left p =
    let shown = pieces_in_window tab left cols p.start p.pieces in
    let bare : StyledCell = record { cell = blank; style = p.style } in
    omega (arith, pieces_room tab left cols p.start p.pieces, length-append shown (replicate (cols - length shown) bare), length-replicate (cols - length shown) bare)

-- the next of a list's items, and those after it
pub drop_item : {X : Type 0} (xs : List X) (i : ℕ) (x : X) → i < length xs → x ≡ get_or xs i x → drop i xs ≡ x ∷ drop (i + 1) xs
drop_item {X} xs i x inside is = drop_more xs i x inside ∙ ap (λ (y : X). y ∷ drop (i + 1) xs) (sym is)
