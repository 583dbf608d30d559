-- Pieces that are put one after the other, of which those that are wanted are kept.
use Rattle.std.proofs.Common.{◌≡◌, ℕ, ◌+◌, Bool, true, false, not, ◌&&◌, ◌||◌, List, [], ◌∷◌, ◌++◌, nat_le, refl, sym, ap, ◌∙◌, append_assoc, append-nil, if◌then◌else◌}
use Rattle.decoration.specs.declared.style.Style.{Style}
use Rattle.pieces.specs.Edge.{in_edges, is_past, up_to_edge}
use Rattle.pieces.specs.Filling.{FillingView, after, all_put, ended, has_piece, is_full, is_passed, is_reached, passed, put, put_all, wanted, width_in, with_piece}
use Rattle.pieces.specs.Piece.{PieceView, PiecesView}
use Rattle.pieces.specs.Standing.{first_after}
use Rattle.pieces.specs.Widths.{is_before, width_of}
use Rattle.pieces.specs.declared.edge.Edge.{Edge}
use Rattle.pieces.specs.declared.goal.Goal.{Goal}
use Rattle.pieces.specs.declared.goal.Goal.TheVariants.{Whole, Shown, At}

pub put_all-append : (f : FillingView) (xs ys : List PieceView) → put_all f (xs ++ ys) ≡ put_all (put_all f xs) ys
unfolding put_all
put_all-append f [] ys = refl
put_all-append f (x ∷ xs) ys = put_all-append (put f x) xs ys

pub put_all-nil : (f : FillingView) → put_all f [] ≡ f
unfolding put_all
put_all-nil f = refl

-- a piece that is left out where one was changes nothing
ended_again : (f : FillingView) → f.over ≡ true → ended f ≡ f
ended_again f over = λ i. record { pieces = f.pieces; goal = f.goal; at = f.at; over = sym over i }

put_over : (f : FillingView) (p : PieceView) → f.over ≡ true → put f p ≡ f
put_over f p over =
    ap (λ (b : Bool). if b || is_reached f.goal (has_piece f.pieces.pieces) f.at then ended f else after f p (f.at + width_in f.goal f.at p.text)) over
    ∙ ended_again f over

pub put_all-over : (f : FillingView) (ps : List PieceView) → f.over ≡ true → put_all f ps ≡ f
unfolding put_all
put_all-over f [] over = refl
put_all-over f (p ∷ ps) over = ap (λ (g : FillingView). put_all g ps) (put_over f p over) ∙ put_all-over f ps over

put_full : (f : FillingView) (p : PieceView) → is_full f ≡ true → put f p ≡ ended f
put_full f p full = rw full refl

-- where all is kept, the next piece is left out, and no other is kept
put_all-full : (f : FillingView) (p : PieceView) (ps : List PieceView) → is_full f ≡ true → put_all f (p ∷ ps) ≡ ended f
unfolding put_all
put_all-full f p ps full = ap (λ (g : FillingView). put_all g ps) (put_full f p full) ∙ put_all-over (ended f) ps refl

pub put_all-pieces : (f : FillingView) (ps : List PieceView) → is_full f ≡ true → (put_all f ps).pieces ≡ f.pieces
unfolding put_all
put_all-pieces f [] full = refl
put_all-pieces f (p ∷ ps) full = ap (λ (g : FillingView). g.pieces) (put_all-full f p ps full)

some_more : (ps : List PieceView) (p : PieceView) → has_piece (ps ++ p ∷ []) ≡ true
some_more [] p = refl
some_more (q ∷ ps) p = refl

abbrev holding : Goal → PiecesView → ℕ → FillingView
holding goal v at = record { pieces = v; goal = goal; at = at; over = false }

abbrev with_more : PiecesView → List PieceView → PiecesView
with_more v ps = record v { pieces = v.pieces ++ ps }

more_none : (v : PiecesView) → v ≡ with_more v []
more_none v = λ i. record { style = v.style; start = v.start; pieces = sym (append-nil v.pieces) i }

more_after : (v : PiecesView) (p : PieceView) (ps : List PieceView) → with_more (with_more v (p ∷ [])) ps ≡ with_more v (p ∷ ps)
more_after v p ps = λ i. record { style = v.style; start = v.start; pieces = append_assoc v.pieces (p ∷ []) ps i }

-- all are kept
all_pieces : (v : PiecesView) (at : ℕ) (ps : List PieceView) → (put_all (holding Whole v at) ps).pieces ≡ with_more v ps
unfolding put_all
all_pieces v at [] = more_none v
all_pieces v at (p ∷ ps) =
    by (not (has_piece v.pieces)) (all_pieces (with_more v (p ∷ [])) (at + 0) ps ∙ more_after v p ps) where
      by : (b : Bool) → (put_all (with_piece (holding Whole v at) p (at + 0)) ps).pieces ≡ with_more v (p ∷ ps) → (put_all (if b && false then passed (holding Whole v at) (at + 0) else with_piece (holding Whole v at) p (at + 0)) ps).pieces ≡ with_more v (p ∷ ps)
      by true next = next
      by false next = next

-- up to the right edge, where some are kept
edge_some : (e : Edge) (v : PiecesView) (at : ℕ) (ps : List PieceView) → has_piece v.pieces ≡ true → (put_all (holding (Shown e) v at) ps).pieces ≡ with_more v (up_to_edge e at ps)
unfolding put_all up_to_edge
edge_some e v at [] some = more_none v
edge_some e v at (p ∷ ps) some =
    by (is_past e at) refl
    (edge_some e (with_more v (p ∷ [])) (at + width_of e.tab at p) ps (some_more v.pieces p) ∙ more_after v p (up_to_edge e (at + width_of e.tab at p) ps)) where
      end : ℕ
      end = at + width_of e.tab at p

      now : FillingView
      now = holding (Shown e) v at

      keeps : after now p end ≡ with_piece now p end
      keeps = rw some refl

      by : (b : Bool) → is_past e at ≡ b → (put_all (with_piece now p end) ps).pieces ≡ with_more v (p ∷ up_to_edge e end ps) → (put_all (if b then ended now else after now p end) ps).pieces ≡ with_more v (if b then [] else p ∷ up_to_edge e end ps)
      by true past next = ap (λ (f : FillingView). f.pieces) (put_all-over (ended now) ps refl) ∙ more_none v
      by false before next = ap (λ (f : FillingView). (put_all f ps).pieces) keeps ∙ next

abbrev bare : Style → ℕ → PiecesView
bare style at = record { style = style; start = at; pieces = [] }

abbrev part : Style → ℕ × List PieceView → PiecesView
part style found = record { style = style; start = found.0; pieces = found.1 }

-- between the edges
edge_none : (e : Edge) (style : Style) (at : ℕ) (ps : List PieceView) → (put_all (holding (Shown e) (bare style at) at) ps).pieces ≡ part style (in_edges e at ps)
unfolding put_all in_edges
edge_none e style at [] = refl
edge_none e style at (p ∷ ps) = by (is_past e at) refl (edge_none e style (at + width_of e.tab at p) ps) where
  end : ℕ
  end = at + width_of e.tab at p

  now : FillingView
  now = holding (Shown e) (bare style at) at

  step : (b : Bool) → (put_all (holding (Shown e) (bare style end) end) ps).pieces ≡ part style (in_edges e end ps) → (put_all (if b then passed now end else with_piece now p end) ps).pieces ≡ part style (if b then in_edges e end ps else (at, p ∷ up_to_edge e end ps))
  step true next = next
  step false next = edge_some e (with_more (bare style at) (p ∷ [])) end ps refl

  by : (b : Bool) → is_past e at ≡ b → (put_all (holding (Shown e) (bare style end) end) ps).pieces ≡ part style (in_edges e end ps) → (put_all (if b then ended now else after now p end) ps).pieces ≡ part style (if b then (at, []) else if nat_le end e.left then in_edges e end ps else (at, p ∷ up_to_edge e end ps))
  by true past next = ap (λ (f : FillingView). f.pieces) (put_all-over (ended now) ps refl)
  by false before next = step (nat_le end e.left) next

-- at a place
place_none : (tab pos : ℕ) (style : Style) (at : ℕ) (ps : List PieceView) → (put_all (holding (At tab pos) (bare style at) at) ps).pieces ≡ part style (first_after tab pos at ps)
unfolding put_all first_after
place_none tab pos style at [] = refl
place_none tab pos style at (p ∷ ps) = by (is_before pos p) (place_none tab pos style (at + width_of tab at p) ps) where
  end : ℕ
  end = at + width_of tab at p

  now : FillingView
  now = holding (At tab pos) (bare style at) at

  by : (b : Bool) → (put_all (holding (At tab pos) (bare style end) end) ps).pieces ≡ part style (first_after tab pos end ps) → (put_all (if b then passed now end else with_piece now p end) ps).pieces ≡ part style (if b then first_after tab pos end ps else (at, p ∷ []))
  by true next = next
  by false next = put_all-pieces (with_piece now p end) ps refl

-- what is kept of all pieces is what is wanted
pub all_wanted : (goal : Goal) (p : PiecesView) → p.start ≡ 0 → (all_put goal p).pieces ≡ wanted goal p
all_wanted Whole p none = all_pieces (bare p.style 0) 0 p.pieces ∙ (λ i. record { style = p.style; start = sym none i; pieces = p.pieces })
all_wanted (Shown e) p none = edge_none e p.style 0 p.pieces ∙ ap (λ (k : ℕ). part p.style (in_edges e k p.pieces)) (sym none)
all_wanted (At tab pos) p none = place_none tab pos p.style 0 p.pieces ∙ ap (λ (k : ℕ). part p.style (first_after tab pos k p.pieces)) (sym none)

-- where a piece is left out, all was kept before it
pub over_one : (f : FillingView) (p : PieceView) → f.over ≡ false → (put f p).over ≡ true → is_full f ≡ true
over_one f p before over = by (is_full f) refl over where
  stays : (b : Bool) (e : ℕ) → (if b then passed f e else with_piece f p e).over ≡ f.over
  stays true e = refl
  stays false e = refl

  end : ℕ
  end = f.at + width_in f.goal f.at p.text

  by : (b : Bool) → is_full f ≡ b → (if b then ended f else after f p end).over ≡ true → is_full f ≡ true
  by true full left_out = full
  by false more left_out =
      let is : true ≡ false = sym left_out ∙ stays (not (has_piece f.pieces.pieces) && is_passed f.goal end p.place p.before_cursor) end ∙ before in
      cc
