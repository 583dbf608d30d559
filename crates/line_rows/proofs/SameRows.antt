-- What a row doesn't depend on: the places of its pieces, and the pieces outside the window's edges.
use Rattle.std.proofs.Common.{◌≡◌, ℕ, ◌+◌, ◌≤◌, Bool, true, false, List, [], ◌∷◌, length, map, nat_le, refl, sym, ap, ◌∙◌, arith, if◌then◌else◌}
use Rattle.std.proofs.lemmas.Bool.Decides.{nat_tests}
use Rattle.decoration.specs.declared.style.Style.{Style}
use Rattle.cells.specs.Layout.{cells_of}
use Rattle.pieces.specs.Edge.{cut_at, in_edges, is_past, up_to_edge}
use Rattle.pieces.specs.Piece.{PieceView, PiecesView}
use Rattle.pieces.specs.SamePieces.{look, look_of}
use Rattle.pieces.specs.declared.edge.Edge.{Edge}
use Rattle.line_rows.specs.Row.{filled, pieces_in_window, row_of}
use Rattle.line_rows.specs.declared.rows.StyledCell.{StyledCell}
use Rattle.line_rows.proofs.Windows.{cells_before, pieces_past}

same_window : (tab left cols at : ℕ) (ps qs : List PieceView) → map look ps ≡ map look qs → pieces_in_window tab left cols at ps ≡ pieces_in_window tab left cols at qs
unfolding pieces_in_window
same_window tab left cols at [] [] e = refl
same_window tab left cols at [] (q ∷ qs) e = cc
same_window tab left cols at (p ∷ ps) [] e = cc
same_window tab left cols at (p ∷ ps) (q ∷ qs) e =
    let here : look p ≡ look q = cc in
    let more : map look ps ≡ map look qs = cc in
    let text : p.text ≡ q.text = ap (λ (r : List ℕ × Style). r.0) here in
    let style : p.style ≡ q.style = ap (λ (r : List ℕ × Style). r.1) here in
    rw (text, style, same_window tab left cols (at + length (cells_of tab at q.text)) ps qs more) refl

-- pieces that look the same make the same row
pub same_row : (tab cols left : ℕ) (a b : PiecesView) → look_of a ≡ look_of b → row_of tab cols left a ≡ row_of tab cols left b
same_row tab cols left a b e =
    let style : a.style ≡ b.style = ap (λ (r : Style × ℕ × List (List ℕ × Style)). r.0) e in
    let start : a.start ≡ b.start = ap (λ (r : Style × ℕ × List (List ℕ × Style)). r.1) e in
    let list : map look a.pieces ≡ map look b.pieces = ap (λ (r : Style × ℕ × List (List ℕ × Style)). r.2) e in
    (λ i. filled cols (style i) (pieces_in_window tab left cols (start i) a.pieces))
    ∙ ap (λ (cs : List StyledCell). filled cols b.style cs) (same_window tab left cols b.start a.pieces b.pieces list)

past_is : (e : Edge) (at : ℕ) → is_past e at ≡ true → e.left + e.cols ≤ at
past_is e at past = grind (arith, nat_tests)

cut_window : (e : Edge) (at : ℕ) (ps : List PieceView) → pieces_in_window e.tab e.left e.cols at (up_to_edge e at ps) ≡ pieces_in_window e.tab e.left e.cols at ps
unfolding pieces_in_window up_to_edge
cut_window e at [] = refl
cut_window e at (p ∷ ps) = by (is_past e at) refl (cut_window e (at + length (cells_of e.tab at p.text)) ps) where
  next : ℕ
  next = at + length (cells_of e.tab at p.text)

  by : (b : Bool) → is_past e at ≡ b → pieces_in_window e.tab e.left e.cols next (up_to_edge e next ps) ≡ pieces_in_window e.tab e.left e.cols next ps → pieces_in_window e.tab e.left e.cols at (if b then [] else p ∷ up_to_edge e next ps) ≡ pieces_in_window e.tab e.left e.cols at (p ∷ ps)
  by true past more = sym (pieces_past e.tab e.left e.cols at (p ∷ ps) (past_is e at past))
  by false before more = rw more refl

passed_is : (e : Edge) (end : ℕ) → nat_le end e.left ≡ true → end ≤ e.left
passed_is e end passed = grind (arith, nat_tests)

part_window : (e : Edge) (at : ℕ) (ps : List PieceView) → pieces_in_window e.tab e.left e.cols (in_edges e at ps).0 (in_edges e at ps).1 ≡ pieces_in_window e.tab e.left e.cols at ps
unfolding pieces_in_window in_edges
part_window e at [] = refl
part_window e at (p ∷ ps) = by (is_past e at) refl (part_window e (at + length (cells_of e.tab at p.text)) ps) where
  next : ℕ
  next = at + length (cells_of e.tab at p.text)

  shown : ℕ × List PieceView → List StyledCell
  shown part = pieces_in_window e.tab e.left e.cols part.0 part.1

  step : (b : Bool) → nat_le next e.left ≡ b → shown (in_edges e next ps) ≡ pieces_in_window e.tab e.left e.cols next ps → shown (if b then in_edges e next ps else (at, p ∷ up_to_edge e next ps)) ≡ pieces_in_window e.tab e.left e.cols at (p ∷ ps)
  step true early later =
      later ∙ (rw (cells_before e.left e.cols p.style at (cells_of e.tab at p.text) (passed_is e next early)) refl)
  step false reaches later = rw (cut_window e next ps) refl

  by : (b : Bool) → is_past e at ≡ b → shown (in_edges e next ps) ≡ pieces_in_window e.tab e.left e.cols next ps → shown (if b then (at, []) else if nat_le next e.left then in_edges e next ps else (at, p ∷ up_to_edge e next ps)) ≡ pieces_in_window e.tab e.left e.cols at (p ∷ ps)
  by true past later = sym (pieces_past e.tab e.left e.cols at (p ∷ ps) (past_is e at past))
  by false before later = step (nat_le next e.left) refl later

-- what stands outside the edges adds nothing to a row
pub cut_row : (e : Edge) (p : PiecesView) → row_of e.tab e.cols e.left (cut_at e p) ≡ row_of e.tab e.cols e.left p
cut_row e p = ap (λ (cs : List StyledCell). filled e.cols p.style cs) (part_window e p.start p.pieces)
