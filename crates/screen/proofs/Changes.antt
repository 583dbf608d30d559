-- One row further, and what equal keys mean.
use Rattle.std.proofs.Common.{◌≡◌, ℕ, ◌+◌, ◌-◌, ◌<◌, ◌≤◌, true, List, [], ◌∷◌, ◌++◌, Option, Some, None, length, append_assoc, append-nil, arith, drop, map, refl, sym, ap, ◌∙◌, suc, zero}
use Rattle.std.specs.Prelude.{slice_get}
use Rattle.std.proofs.lemmas.Bool.{and_parts, eqb-true}
use Rattle.std.proofs.lemmas.Option.{slice_get_past}
use Rattle.blocks.specs.Hiding.{blocks_of}
use Rattle.pieces.specs.Edge.{cut_at, in_edges}
use Rattle.pieces.specs.Styles.{plain}
use Rattle.selection.specs.declared.range.Range.{Range}
use Rattle.selection.specs.Ranges.{high}
use Rattle.selection.specs.Selections.{LieIn}
use Rattle.pieces.specs.SamePieces.{same_pieces}
use Rattle.pieces.proofs.SameText.{same_pieces-is}
use Rattle.line_rows.specs.Row.{row_of}
use Rattle.line_rows.specs.declared.rows.StyledCell.{StyledCell}
use Rattle.line_rows.proofs.SameRows.{cut_row, same_row}
use Rattle.screen.specs.Screen.{RowKey, ViewView, block_at, changed, cost, edge_of, key_at, pieces_at, rendered_from, row_cells, rows_from, same_key}

-- rows of equal keys are equal
pub same_key-row : (a b : RowKey) → same_key a b ≡ true → row_cells a ≡ row_cells b
same_key-row a b same =
    let pieces = and_parts _ (same_pieces a.pieces b.pieces) same in
    let left = and_parts _ _ pieces.0 in
    let cols = and_parts _ _ left.0 in
    let tab_is : a.tab ≡ b.tab = eqb-true a.tab b.tab cols.0 in
    let cols_is : a.cols ≡ b.cols = eqb-true a.cols b.cols cols.1 in
    let left_is : a.left ≡ b.left = eqb-true a.left b.left left.1 in
    (λ i. row_of (tab_is i) (cols_is i) (left_is i) a.pieces) ∙ same_row b.tab b.cols b.left a.pieces b.pieces (same_pieces-is a.pieces b.pieces pieces.1)

-- no block has the number 0, or one past the last
pub zero_block : (v : ViewView) (number : ℕ) → number ≡ 0 → block_at v number ≡ None
zero_block v number is = ap (block_at v) is

pub no_block : (v : ViewView) (number : ℕ) → length (blocks_of v.text v.layers) < number → block_at v number ≡ None
no_block v zero past = refl
no_block v (suc n) past = slice_get_past (blocks_of v.text v.layers) n (omega (arith, past))

-- a row past the last block has no pieces
pub past_row : (v : ViewView) (number : ℕ) → block_at v number ≡ None → record { style = plain; start = 0; pieces = [] } ≡ cut_at (edge_of v) (pieces_at v (block_at v number))
unfolding in_edges
past_row v number none = rw none refl

-- the rows of a view are those that are made anew
pub rendered_is : (v : ViewView) (number n : ℕ) → map row_cells (rows_from v number n) ≡ rendered_from v number n
unfolding rows_from rendered_from
rendered_is v number zero = refl
rendered_is v number (suc n) =
    rw (rendered_is v (number + 1) n) (ap (λ (cs : List StyledCell). cs ∷ rendered_from v (number + 1) n) (cut_row (edge_of v) (pieces_at v (block_at v number))))

-- the count of changed rows, one row further
changed_step : (i : ℕ) (old : List RowKey) (new : RowKey) (news : List RowKey) → changed (drop i old) (new ∷ news) ≡ cost (slice_get old i) new + changed (drop (suc i) old) news
unfolding changed
changed_step zero [] new news = refl
changed_step (suc i) [] new news = refl
changed_step zero (o ∷ olds) new news = refl
changed_step (suc i) (o ∷ olds) new news = changed_step i olds new news

-- the same with the count as the loop has it
changed_next : (i : ℕ) (old : List RowKey) (new : RowKey) (news : List RowKey) → changed (drop i old) (new ∷ news) ≡ cost (slice_get old i) new + changed (drop (i + 1) old) news
changed_next i old new news =
    let one : suc i ≡ i + 1 = omega arith in
    changed_step i old new news ∙ ap (λ (k : ℕ). cost (slice_get old i) new + changed (drop k old) news) one

changed_none : (old : List RowKey) → changed old [] ≡ 0
unfolding changed
changed_none [] = refl
changed_none (o ∷ os) = refl

-- the rows that were drawn, and those that are still to come: i of n
pub record Spent (v : ViewView) (top i n : ℕ) (old done : List RowKey) (laid total : ℕ) : Type 0 where
  pub rows : done ++ rows_from v (top + i) (n - i) ≡ rows_from v top n
  pub bound : laid + changed (drop i old) (rows_from v (top + i) (n - i)) ≤ total

next_rows : (v : ViewView) (top i n : ℕ) → i < n → rows_from v (top + i) (n - i) ≡ key_at v (top + i) ∷ rows_from v (top + (i + 1)) (n - (i + 1))
unfolding rows_from
next_rows v top i n inside =
    let some : n - i ≡ suc (n - (i + 1)) = omega arith in
    let further : top + i + 1 ≡ top + (i + 1) = omega arith in
    rw (some, further) refl

pub spent_begin : (v : ViewView) (top n : ℕ) (old done : List RowKey) (laid : ℕ) → done ≡ [] → Spent v top 0 n old done laid (laid + changed old (rows_from v top n))
spent_begin v top n old done laid none =
    let same : top + 0 ≡ top = omega arith in
    let all : n - 0 ≡ n = omega arith in
    record {
      rows = rw (none, same, all) refl;
      bound = rw (same, all) (omega arith);
    }

pub spent_step : (v : ViewView) (top i n : ℕ) (old done more : List RowKey) (laid now total : ℕ) (kept : Option RowKey) → i < n → kept ≡ slice_get old i → now ≤ laid + cost kept (key_at v (top + i)) → more ≡ done ++ key_at v (top + i) ∷ [] → Spent v top i n old done laid total → Spent v top (i + 1) n old more now total
spent_step v top i n old done more laid now total kept inside found paid adds spent =
    let next = next_rows v top i n inside in
    let goes = rw next at spent.bound in
    let rows = rw next at spent.rows in
    let split = changed_next i old (key_at v (top + i)) (rows_from v (top + (i + 1)) (n - (i + 1))) in
    let cheap = rw found at paid in
    record {
      rows = rw adds (append_assoc done _ _ ∙ rows);
      bound = omega (arith, goes, split, cheap);
    }

pub spent_fails : (v : ViewView) (top i n : ℕ) (old done : List RowKey) (laid now total : ℕ) (kept : Option RowKey) → i < n → kept ≡ slice_get old i → now ≤ laid + cost kept (key_at v (top + i)) → Spent v top i n old done laid total → now ≤ total
spent_fails v top i n old done laid now total kept inside found paid spent =
    let next = next_rows v top i n inside in
    let goes = rw next at spent.bound in
    let split = changed_next i old (key_at v (top + i)) (rows_from v (top + (i + 1)) (n - (i + 1))) in
    let cheap = rw found at paid in
    omega (arith, goes, split, cheap)

pub spent_rows : (v : ViewView) (top i n : ℕ) (old done : List RowKey) (laid total : ℕ) → n ≤ i → Spent v top i n old done laid total → done ≡ rows_from v top n
unfolding rows_from
spent_rows v top i n old done laid total past spent =
    let none : n - i ≡ 0 = omega arith in
    sym (append-nil done) ∙ (rw none at spent.rows)

pub spent_bound : (v : ViewView) (top i n : ℕ) (old done : List RowKey) (laid total : ℕ) → Spent v top i n old done laid total → laid ≤ total
spent_bound v top i n old done laid total spent = omega (arith, spent.bound)

-- the head of a range that lies in a document
pub head_lies : (len : ℕ) (rs : List Range) (i : ℕ) (r : Range) → LieIn len rs → slice_get rs i ≡ Some r → r.head ≤ len
head_lies len [] i r lie is = cc
head_lies len (x ∷ xs) zero r lie is =
    let same : x ≡ r = cc in
    omega (arith, lie.0, ap (λ (y : Range). y.head) same, ap (λ (y : Range). high y) same)
head_lies len (x ∷ xs) (suc i) r lie is = head_lies len xs i r lie.1 is
