-- The runs of a laid row have no control characters.
use Rattle.std.proofs.Common.{◌≡◌, ℕ, zero, suc, ◌+◌, ◌-◌, ◌%◌, ◌==◌, Bool, true, false, ◌||◌, ◌&&◌, List, [], ◌∷◌, ◌++◌, length, replicate, refl, rules, ap, ◌∙◌, if◌then◌else◌}
use Rattle.std.specs.Prelude.{nat_le, nat_lt}
use Rattle.std.specs.Global.{Vec}
use Rattle.std.specs.List.{list_any}
use Rattle.std.proofs.lemmas.List.Folds.{list_any-append, list_any_none}
use Rattle.cells.specs.Layout.{Shown, blank, cells_of, cluster_cells, clusters, dot, first, further, is_control, is_tab, is_whole, lay, rests, wide}
use Rattle.pieces.specs.Piece.{PieceView, PiecesView}
use Rattle.pieces.specs.Styles.{same_style}
use Rattle.decoration.specs.declared.style.Style.{Style}
use Rattle.line_rows.specs.declared.rows.StyledCell.{StyledCell}
use Rattle.line_rows.specs.Row.{in_window, pieces_in_window, row_of, shown_cell}
use Rattle.line_rows.specs.Run.{RunView, cell_text, is_bare, joined, joined_from, longer, onto_kept, run_of, trimmed}
use Rattle.term_bytes.specs.Reading.{AreLaid, IsLaid, has_control, row_has_control, run_has_control}

abbrev in_cell : Shown → Bool
in_cell blank = false
in_cell (first cluster after) = list_any is_control cluster
in_cell (further before after) = false

abbrev in_styled : StyledCell → Bool
in_styled c = in_cell c.cell

-- neither of two tests holds
pub neither : (a b : Bool) → a || b ≡ false → (a ≡ false) × (b ≡ false)
neither true b none = absurd (search (rules, none))
neither false b none = (refl, none)

both_none : {X : Type 0} (p : X → Bool) (xs ys : List X) → list_any p xs ≡ false → list_any p ys ≡ false → list_any p (xs ++ ys) ≡ false
both_none p xs ys one two = list_any-append p xs ys ∙ rw (one, two) refl

more_none : {X : Type 0} (p : X → Bool) (x : X) (xs : List X) → p x ≡ false → list_any p xs ≡ false → list_any p (x ∷ xs) ≡ false
more_none p x xs one two = rw (one, two) refl

-- of two lists without, the one that a test takes
pick_none : {X : Type 0} (p : X → Bool) (b : Bool) (xs ys : List X) → list_any p xs ≡ false → list_any p ys ≡ false → list_any p (if b then xs else ys) ≡ false
pick_none p true xs ys one two = one
pick_none p false xs ys one two = two

copies_none : {X : Type 0} (p : X → Bool) (x : X) (n : ℕ) → p x ≡ false → list_any p (replicate n x) ≡ false
copies_none p x zero none = refl
copies_none p x (suc n) none = more_none p x (replicate n x) none (copies_none p x n none)

rests_none : (before more : ℕ) → list_any in_cell (rests before more) ≡ false
rests_none before zero = refl
rests_none before (suc more) = rests_none (before + 1) more

wide_none : (cluster : List ℕ) (width : ℕ) → list_any is_control cluster ≡ false → list_any in_cell (wide cluster width) ≡ false
wide_none cluster width none =
    pick_none in_cell (width == 0) [] (first cluster (width - 1) ∷ rests 1 (width - 1)) refl (more_none in_cell (first cluster (width - 1)) (rests 1 (width - 1)) none (rests_none 1 (width - 1)))

cluster_none_by : (tabbed has : Bool) (blanks width : ℕ) (cluster : List ℕ) → list_any is_control cluster ≡ has → list_any in_cell (if tabbed then replicate blanks blank else if has then replicate (length cluster) dot else wide cluster width) ≡ false
cluster_none_by true has blanks width cluster is = copies_none in_cell blank blanks refl
cluster_none_by false true blanks width cluster is = copies_none in_cell dot (length cluster) refl
cluster_none_by false false blanks width cluster is = wide_none cluster width is

cluster_none : (tab at : ℕ) (cluster : List ℕ) → list_any in_cell (cluster_cells tab at cluster) ≡ false
unfolding cluster_cells
cluster_none tab at cluster = cluster_none_by (is_tab cluster) (list_any is_control cluster) (tab - at % tab) _ cluster refl

lay_none : (clusters : List (List ℕ)) (tab at : ℕ) → list_any in_cell (lay tab at clusters) ≡ false
unfolding lay
lay_none [] tab at = refl
lay_none (cluster ∷ clusters) tab at =
    both_none in_cell (cluster_cells tab at cluster) (lay tab (at + length (cluster_cells tab at cluster)) clusters) (cluster_none tab at cluster) (lay_none clusters tab (at + length (cluster_cells tab at cluster)))

whole_none : (whole : Bool) (cell : Shown) → in_cell cell ≡ false → in_cell (if whole then cell else blank) ≡ false
whole_none true cell none = none
whole_none false cell none = refl

cell_none : (left cols : ℕ) (style : Style) (column : ℕ) (cell : Shown) → in_cell cell ≡ false → list_any in_styled (shown_cell left cols style column cell) ≡ false
cell_none left cols style column cell none =
    let c : StyledCell = record { cell = if is_whole cols (column - left) cell then cell else blank; style = style } in
    pick_none in_styled (nat_le left column && nat_lt (column - left) cols) (c ∷ []) [] (more_none in_styled c [] (whole_none (is_whole cols (column - left) cell) cell none) refl) refl

window_none : (cells : List Shown) (left cols : ℕ) (style : Style) (at : ℕ) → list_any in_cell cells ≡ false → list_any in_styled (in_window left cols style at cells) ≡ false
unfolding in_window
window_none [] left cols style at none = refl
window_none (cell ∷ cells) left cols style at none =
    let parts = neither (in_cell cell) (list_any in_cell cells) none in
    both_none in_styled (shown_cell left cols style at cell) (in_window left cols style (at + 1) cells) (cell_none left cols style at cell parts.0) (window_none cells left cols style (at + 1) parts.1)

pieces_none : (pieces : List PieceView) (tab left cols at : ℕ) → list_any in_styled (pieces_in_window tab left cols at pieces) ≡ false
unfolding pieces_in_window clusters
pieces_none [] tab left cols at = refl
pieces_none (piece ∷ pieces) tab left cols at =
    let cells = cells_of tab at piece.text in
    both_none in_styled (in_window left cols piece.style at cells) (pieces_in_window tab left cols (at + length cells) pieces) (window_none cells left cols piece.style at (lay_none (clusters piece.text) tab at)) (pieces_none pieces tab left cols (at + length cells))

row_none : (tab cols left : ℕ) (p : PiecesView) → list_any in_styled (row_of tab cols left p) ≡ false
row_none tab cols left p =
    let cells = pieces_in_window tab left cols p.start p.pieces in
    let last : StyledCell = record { cell = blank; style = p.style } in
    both_none in_styled cells (replicate (cols - length cells) last) (pieces_none p.pieces tab left cols p.start) (copies_none in_styled last (cols - length cells) refl)

onto_none : (c : StyledCell) (kept : List StyledCell) → in_styled c ≡ false → list_any in_styled kept ≡ false → list_any in_styled (onto_kept c kept) ≡ false
onto_none c [] none more = pick_none in_styled (is_bare c) [] (c ∷ []) refl (more_none in_styled c [] none refl)
onto_none c (k ∷ ks) none more = more_none in_styled c (k ∷ ks) none more

trimmed_none : (cells : List StyledCell) → list_any in_styled cells ≡ false → list_any in_styled (trimmed cells) ≡ false
unfolding trimmed
trimmed_none [] none = refl
trimmed_none (c ∷ cs) none =
    let parts = neither (in_styled c) (list_any in_styled cs) none in
    onto_none c (trimmed cs) parts.0 (trimmed_none cs parts.1)

text_none : (cell : Shown) → in_cell cell ≡ false → list_any is_control (cell_text cell) ≡ false
text_none blank none = refl
text_none (first cluster after) none = none
text_none (further before after) none = refl

joined_from_none : (cs : List StyledCell) (run : RunView) → run_has_control run ≡ false → list_any in_styled cs ≡ false → list_any run_has_control (joined_from run cs) ≡ false
unfolding joined_from
joined_from_none [] run none more = more_none run_has_control run [] none refl
joined_from_none (c ∷ cs) run none more =
    let parts = neither (in_styled c) (list_any in_styled cs) more in
    let text = text_none c.cell parts.0 in
    pick_none run_has_control (same_style c.style run.style) (joined_from (longer run c) cs) (run ∷ joined_from (run_of c) cs)
    (joined_from_none cs (longer run c) (both_none is_control run.text (cell_text c.cell) none text) parts.1)
    (more_none run_has_control run (joined_from (run_of c) cs) none (joined_from_none cs (run_of c) text parts.1))

joined_none : (cs : List StyledCell) → list_any in_styled cs ≡ false → list_any run_has_control (joined cs) ≡ false
joined_none [] none = refl
joined_none (c ∷ cs) none =
    let parts = neither (in_styled c) (list_any in_styled cs) none in
    joined_from_none cs (run_of c) (text_none c.cell parts.0) parts.1

runs_none : (runs : List RunView) → IsLaid runs → list_any run_has_control runs ≡ false
runs_none runs laid =
    ap (list_any run_has_control) laid.4 ∙ joined_none (trimmed (row_of laid.0 laid.1 laid.2 laid.3)) (trimmed_none (row_of laid.0 laid.1 laid.2 laid.3) (row_none laid.0 laid.1 laid.2 laid.3))

pub laid_none : (rows : List (Vec RunView)) → AreLaid rows → has_control rows ≡ false
laid_none rows laid = list_any_none row_has_control rows (λ i d inside. runs_none _ (laid i d inside))
