-- A row shows whole groups of cells.
use Rattle.std.proofs.Common.{◌≡◌, ℕ, zero, suc, ◌+◌, ◌-◌, ◌<◌, ◌≤◌, ◌&&◌, ◌||◌, ◌==◌, nat_le, nat_lt, Bool, true, false, List, [], ◌∷◌, ◌++◌, length, map, replicate, sym, ap, ◌∙◌, append_assoc, append-nil, refl, arith, if◌then◌else◌}
use Rattle.std.specs.List.{All, list_any}
use Rattle.std.proofs.lemmas.Bool.Decides.{nat_tests}
use Rattle.std.proofs.lemmas.List.{map-append, length-map}
use Rattle.std.proofs.lemmas.List.Elements.{All-nil, All-cons, All-append, All-replicate}
use Rattle.cells.specs.Layout.{Shown, blank, first, further, cells_of, cluster_cells, clusters, dot, is_control, is_tab, is_whole, lay, rests, wide}
use Rattle.pieces.specs.Piece.{PieceView, PiecesView}
use Rattle.decoration.specs.declared.style.Style.{Style}
use Rattle.line_rows.specs.Row.{in_window, pieces_in_window, row_of, shown_cell, whole_or_blank}
use Rattle.line_rows.proofs.Windows.{past_edge}
use Rattle.line_rows.specs.Groups.{IsBlank, ShowsWhole, alone, cells_in, cluster_groups, groups_of, in_style, text_groups}
use Rattle.line_rows.specs.declared.rows.StyledCell.{StyledCell}

-- the cells of a row that the window shows, whatever their styles
unfoldable pub framed : ℕ → ℕ → ℕ → List StyledCell → List StyledCell
framed left cols at [] = []
framed left cols at (c ∷ cs) = shown_cell left cols c.style at c.cell ++ framed left cols (at + 1) cs

framed-append : (left cols at : ℕ) (xs ys : List StyledCell) → framed left cols at (xs ++ ys) ≡ framed left cols at xs ++ framed left cols (at + length xs) ys
unfolding framed
framed-append left cols at [] ys =
    let same : at + 0 ≡ at = omega arith in
    rw same refl
framed-append left cols at (x ∷ xs) ys =
    let same : at + 1 + length xs ≡ at + length (x ∷ xs) = omega arith in
    rw (framed-append left cols (at + 1) xs ys, same) (sym (append_assoc (shown_cell left cols x.style at x.cell) (framed left cols (at + 1) xs) _))

framed-style : (left cols : ℕ) (style : Style) (at : ℕ) (cells : List Shown) → framed left cols at (map (in_style style) cells) ≡ in_window left cols style at cells
unfolding framed in_window
framed-style left cols style at [] = refl
framed-style left cols style at (c ∷ cs) = rw (framed-style left cols style (at + 1) cs) refl

-- whether the window has all columns of a group
abbrev inside : ℕ → ℕ → ℕ → ℕ → Bool
inside left cols at width = nat_le left at && nat_le (at + width) (left + cols)

inside_shows : (left cols at : ℕ) (width k : ℕ) → k < width → inside left cols at width ≡ true → (nat_le left (at + k) && nat_lt (at + k - left) cols) ≡ true
inside_shows left cols at width k within holds = grind (arith, nat_tests)

-- a cell with so many columns of its group before and after it
first_whole : (left cols at after : ℕ) (text : List ℕ) → inside left cols at (1 + after) ≡ true → is_whole cols (at - left) (first text after) ≡ true
first_whole left cols at after text holds = grind (arith, nat_tests)

further_whole : (left cols at before after : ℕ) → inside left cols at (before + (1 + after)) ≡ true → is_whole cols (at + before - left) (further before after) ≡ true
further_whole left cols at before after holds = grind (arith, nat_tests)

first_cut : (left cols at after : ℕ) (text : List ℕ) → inside left cols at (1 + after) ≡ false → (nat_le left at && nat_lt (at - left) cols) ≡ true → is_whole cols (at - left) (first text after) ≡ false
first_cut left cols at after text cut shows = grind (arith, nat_tests)

further_cut : (left cols at before after : ℕ) → inside left cols at (before + (1 + after)) ≡ false → (nat_le left (at + before) && nat_lt (at + before - left) cols) ≡ true → is_whole cols (at + before - left) (further before after) ≡ false
further_cut left cols at before after cut shows = grind (arith, nat_tests)

cell_whole : (left cols : ℕ) (style : Style) (column : ℕ) (cell : Shown) → (nat_le left column && nat_lt (column - left) cols) ≡ true → is_whole cols (column - left) cell ≡ true → shown_cell left cols style column cell ≡ in_style style cell ∷ []
cell_whole left cols style column cell shows whole = rw (shows, whole) refl

cell_cut : (left cols : ℕ) (style : Style) (column : ℕ) (cell : Shown) → ((nat_le left column && nat_lt (column - left) cols) ≡ true → is_whole cols (column - left) cell ≡ false) → All IsBlank (shown_cell left cols style column cell)
cell_cut left cols style column cell cut = by (nat_le left column && nat_lt (column - left) cols) refl where
  by : (b : Bool) → (nat_le left column && nat_lt (column - left) cols) ≡ b → All IsBlank (if b then in_style style (whole_or_blank cols (column - left) cell) ∷ [] else [])
  by true shows = All-cons IsBlank _ [] (rw (cut shows) refl) (All-nil IsBlank)
  by false other = All-nil IsBlank

rests_whole : (left cols : ℕ) (style : Style) (at before more : ℕ) → inside left cols at (before + more) ≡ true → in_window left cols style (at + before) (rests before more) ≡ map (in_style style) (rests before more)
unfolding in_window
rests_whole left cols style at before zero whole = refl
rests_whole left cols style at before (suc more) whole =
    let all : before + suc more ≡ before + (1 + more) = omega arith in
    let on : before + suc more ≡ before + 1 + more = omega arith in
    let next : at + before + 1 ≡ at + (before + 1) = omega arith in
    let here = cell_whole left cols style (at + before) (further before more) (inside_shows left cols at (before + suc more) before (omega arith) whole)
    (further_whole left cols at before more (ap (inside left cols at) (sym all) ∙ whole)) in
    rw (here, next, rests_whole left cols style at (before + 1) more (ap (inside left cols at) (sym on) ∙ whole)) refl

rests_cut : (left cols : ℕ) (style : Style) (at before more : ℕ) → inside left cols at (before + more) ≡ false → All IsBlank (in_window left cols style (at + before) (rests before more))
unfolding in_window
rests_cut left cols style at before zero cut = All-nil IsBlank
rests_cut left cols style at before (suc more) cut =
    let all : before + suc more ≡ before + (1 + more) = omega arith in
    let on : before + suc more ≡ before + 1 + more = omega arith in
    let next : at + before + 1 ≡ at + (before + 1) = omega arith in
    let here = cell_cut left cols style (at + before) (further before more) (further_cut left cols at before more (ap (inside left cols at) (sym all) ∙ cut)) in
    let later = rests_cut left cols style at (before + 1) more (ap (inside left cols at) (sym on) ∙ cut) in
    All-append IsBlank _ _ here (rw next later)

-- a group that the window shows whole, or as blanks
pub record Fits (left cols : ℕ) (group : List StyledCell) : Type 0 where
  pub whole : (at : ℕ) → inside left cols at (length group) ≡ true → framed left cols at group ≡ group
  pub cut : (at : ℕ) → inside left cols at (length group) ≡ false → All IsBlank (framed left cols at group)

length-rests : (before more : ℕ) → length (rests before more) ≡ more
length-rests before zero = refl
length-rests before (suc more) = omega (arith, length-rests (before + 1) more)

fits_wide : (left cols : ℕ) (style : Style) (text : List ℕ) (after : ℕ) → Fits left cols (map (in_style style) (first text after ∷ rests 1 after))
unfolding framed
fits_wide left cols style text after =
    let long : length (map (in_style style) (first text after ∷ rests 1 after)) ≡ 1 + after =
    omega (arith, length-map (rests 1 after) (in_style style), length-rests 1 after) in
    record {
      whole = λ at holds.
          let all : inside left cols at (1 + after) ≡ true = ap (inside left cols at) (sym long) ∙ holds in
          let start : at + 0 ≡ at = omega arith in
          let shows = rw start at (inside_shows left cols at (1 + after) 0 (omega arith) all) in
          rw (cell_whole left cols style at (first text after) shows (first_whole left cols at after text all), framed-style left cols style (at + 1) (rests 1 after), rests_whole left cols style at 1 after all) refl;
      cut = λ at holds.
          let all : inside left cols at (1 + after) ≡ false = ap (inside left cols at) (sym long) ∙ holds in
          All-append IsBlank _ _ (cell_cut left cols style at (first text after) (first_cut left cols at after text all))
          (rw (framed-style left cols style (at + 1) (rests 1 after)) (rests_cut left cols style at 1 after all));
    }

fits_none : (left cols : ℕ) → Fits left cols []
unfolding framed
fits_none left cols = record { whole = λ at holds. refl; cut = λ at holds. All-nil IsBlank }

fits_blank : (left cols : ℕ) (style : Style) → Fits left cols (in_style style blank ∷ [])
unfolding framed
fits_blank left cols style = record {
  whole = λ at holds.
      let start : at + 0 ≡ at = omega arith in
      rw (cell_whole left cols style at blank (rw start at (inside_shows left cols at 1 0 (omega arith) holds)) refl) refl;
  cut = λ at holds. rw (append-nil (shown_cell left cols style at blank)) (blanks at);
} where
  blanks : (at : ℕ) → All IsBlank (shown_cell left cols style at blank)
  blanks at = by (nat_le left at && nat_lt (at - left) cols) where
    by : (b : Bool) → All IsBlank (if b then in_style style blank ∷ [] else [])
    by true = All-cons IsBlank _ [] refl (All-nil IsBlank)
    by false = All-nil IsBlank

-- groups of which each is whole or blank
abbrev pub AllFit : ℕ → ℕ → List (List StyledCell) → Type 0
AllFit left cols [] = Unit {0}
AllFit left cols (g ∷ gs) = Fits left cols g × AllFit left cols gs

fit_both : (left cols : ℕ) (gs hs : List (List StyledCell)) → AllFit left cols gs → AllFit left cols hs → AllFit left cols (gs ++ hs)
fit_both left cols [] hs some more = more
fit_both left cols (g ∷ gs) hs some more = (some.0, fit_both left cols gs hs some.1 more)

each_fits : (left cols : ℕ) (style : Style) (cell : Shown) (n : ℕ) → Fits left cols (in_style style cell ∷ []) → AllFit left cols (map (map (in_style style)) (map alone (replicate n cell)))
each_fits left cols style cell zero one = tt
each_fits left cols style cell (suc n) one = (one, each_fits left cols style cell n one)

wide_fits : (left cols : ℕ) (style : Style) (text : List ℕ) (width : ℕ) → Fits left cols (map (in_style style) (wide text width))
wide_fits left cols style text width = by (width == 0) where
  by : (b : Bool) → Fits left cols (map (in_style style) (if b then [] else first text (width - 1) ∷ rests 1 (width - 1)))
  by true = fits_none left cols
  by false = fits_wide left cols style text (width - 1)

cluster_by : (left cols : ℕ) (style : Style) (tab at : ℕ) (g : List ℕ) (t d : Bool) → is_tab g ≡ t → list_any is_control g ≡ d → AllFit left cols (map (map (in_style style)) (cluster_groups tab at g))
unfolding cluster_groups cluster_cells
cluster_by left cols style tab at g true d t_is d_is = rw t_is (each_fits left cols style blank _ (fits_blank left cols style))
cluster_by left cols style tab at g false true t_is d_is = rw (t_is, d_is) (each_fits left cols style dot (length g) (fits_wide left cols style (46 ∷ []) 0))
cluster_by left cols style tab at g false false t_is d_is = rw (t_is, d_is) (wide_fits left cols style g _, tt)

text_fits : (left cols : ℕ) (style : Style) (tab at : ℕ) (gs : List (List ℕ)) → AllFit left cols (map (map (in_style style)) (text_groups tab at gs))
unfolding text_groups
text_fits left cols style tab at [] = tt
text_fits left cols style tab at (g ∷ gs) =
    rw (map-append (map (in_style style)) (cluster_groups tab at g) (text_groups tab (at + length (cluster_cells tab at g)) gs))
    (fit_both left cols _ _ (cluster_by left cols style tab at g _ _ refl refl) (text_fits left cols style tab (at + length (cluster_cells tab at g)) gs))

groups_fit : (left cols tab at : ℕ) (ps : List PieceView) → AllFit left cols (groups_of tab at ps)
unfolding groups_of
groups_fit left cols tab at [] = tt
groups_fit left cols tab at (p ∷ ps) =
    fit_both left cols _ _ (text_fits left cols p.style tab at (clusters p.text)) (groups_fit left cols tab (at + length (cells_of tab at p.text)) ps)

cells_in-append : (gs hs : List (List StyledCell)) → cells_in (gs ++ hs) ≡ cells_in gs ++ cells_in hs
unfolding cells_in
cells_in-append [] hs = refl
cells_in-append (g ∷ gs) hs = rw (cells_in-append gs hs) (sym (append_assoc g (cells_in gs) (cells_in hs)))

each_cells : (style : Style) (cells : List Shown) → cells_in (map (map (in_style style)) (map alone cells)) ≡ map (in_style style) cells
unfolding cells_in
each_cells style [] = refl
each_cells style (c ∷ cs) = rw (each_cells style cs) refl

-- the groups of a cluster have its cells
cluster_cells-groups : (style : Style) (tab at : ℕ) (g : List ℕ) → cells_in (map (map (in_style style)) (cluster_groups tab at g)) ≡ map (in_style style) (cluster_cells tab at g)
unfolding cluster_groups cells_in
cluster_cells-groups style tab at g = by (is_tab g || list_any is_control g) where
  by : (b : Bool) → cells_in (map (map (in_style style)) (if b then map alone (cluster_cells tab at g) else cluster_cells tab at g ∷ [])) ≡ map (in_style style) (cluster_cells tab at g)
  by true = each_cells style (cluster_cells tab at g)
  by false = append-nil (map (in_style style) (cluster_cells tab at g))

text_cells : (style : Style) (tab at : ℕ) (gs : List (List ℕ)) → cells_in (map (map (in_style style)) (text_groups tab at gs)) ≡ map (in_style style) (lay tab at gs)
unfolding text_groups cells_in lay
text_cells style tab at [] = refl
text_cells style tab at (g ∷ gs) =
    let here = cluster_cells tab at g in
    let more = at + length here in
    rw (
      map-append (map (in_style style)) (cluster_groups tab at g) (text_groups tab more gs),
      cells_in-append (map (map (in_style style)) (cluster_groups tab at g)) (map (map (in_style style)) (text_groups tab more gs)),
      cluster_cells-groups style tab at g,
      text_cells style tab more gs,
      map-append (in_style style) here (lay tab more gs),
    ) refl

-- a window's part of the groups is its part of the pieces
framed_pieces : (tab left cols at : ℕ) (ps : List PieceView) → framed left cols at (cells_in (groups_of tab at ps)) ≡ pieces_in_window tab left cols at ps
unfolding groups_of cells_in framed pieces_in_window
framed_pieces tab left cols at [] = refl
framed_pieces tab left cols at (p ∷ ps) =
    let cells = cells_of tab at p.text in
    let own = map (map (in_style p.style)) (text_groups tab at (clusters p.text)) in
    let others = groups_of tab (at + length cells) ps in
    rw (
      cells_in-append own others,
      text_cells p.style tab at (clusters p.text),
      framed-append left cols at (map (in_style p.style) cells) (cells_in others),
      framed-style left cols p.style at cells,
      length-map cells (in_style p.style),
      framed_pieces tab left cols (at + length cells) ps,
    ) refl

framed_past : (left cols at : ℕ) (cs : List StyledCell) → left + cols ≤ at → framed left cols at cs ≡ []
unfolding framed
framed_past left cols at [] past = refl
framed_past left cols at (c ∷ cs) past = rw (past_edge left cols at past) (framed_past left cols (at + 1) cs (omega arith))

-- from the left edge on, groups are shown up to the right edge
record Later (left cols at : ℕ) (groups : List (List StyledCell)) : Type 0 where
  shown : List (List StyledCell)
  after : List (List StyledCell)
  end : List StyledCell
  in_order : groups ≡ shown ++ after
  cells : framed left cols at (cells_in groups) ≡ cells_in shown ++ end
  blank_end : All IsBlank end

edge_cut : (left cols at width : ℕ) → left ≤ at → inside left cols at width ≡ false → left + cols ≤ at + width
edge_cut left cols at width begun cut = grind (arith, nat_tests)

later : (left cols at : ℕ) (gs : List (List StyledCell)) → AllFit left cols gs → left ≤ at → Later left cols at gs
unfolding framed cells_in
later left cols at [] fit begun = record { shown = []; after = []; end = []; in_order = refl; cells = refl; blank_end = All-nil IsBlank }
later left cols at (g ∷ gs) fit begun = by (inside left cols at (length g)) refl (later left cols (at + length g) gs fit.1 (omega arith)) where
  by : (b : Bool) → inside left cols at (length g) ≡ b → Later left cols (at + length g) gs → Later left cols at (g ∷ gs)
  by true whole r = record {
    shown = g ∷ r.shown;
    after = r.after;
    end = r.end;
    in_order = ap (λ (xs : List (List StyledCell)). g ∷ xs) r.in_order;
    cells = framed-append left cols at g (cells_in gs) ∙ (rw (fit.0.whole at whole, r.cells) (sym (append_assoc g (cells_in r.shown) r.end)));
    blank_end = r.blank_end;
  }
  by false cut r = record {
    shown = [];
    after = g ∷ gs;
    end = framed left cols at (g ++ cells_in gs);
    in_order = refl;
    cells = refl;
    blank_end = rw (framed-append left cols at g (cells_in gs), framed_past left cols (at + length g) (cells_in gs) (edge_cut left cols at (length g) begun cut))
        (All-append IsBlank _ _ (fit.0.cut at cut) (All-nil IsBlank));
  }

before_cut : (left cols at width : ℕ) → nat_le left at ≡ false → inside left cols at width ≡ false
before_cut left cols at width early = rw early refl

begun_is : (left at : ℕ) → nat_le left at ≡ true → left ≤ at
begun_is left at holds = grind (arith, nat_tests)

framed_whole : (left cols at : ℕ) (gs : List (List StyledCell)) → AllFit left cols gs → ShowsWhole gs (framed left cols at (cells_in gs))
unfolding framed cells_in
framed_whole left cols at [] fit =
    record { before = []; shown = []; after = []; start = []; end = []; in_order = refl; cells = refl; blank_start = All-nil IsBlank; blank_end = All-nil IsBlank }
framed_whole left cols at (g ∷ gs) fit = by (nat_le left at) refl (framed_whole left cols (at + length g) gs fit.1) where
  by : (b : Bool) → nat_le left at ≡ b → ShowsWhole gs (framed left cols (at + length g) (cells_in gs)) → ShowsWhole (g ∷ gs) (framed left cols at (g ++ cells_in gs))
  by true begun r =
      let l = later left cols at (g ∷ gs) fit (begun_is left at begun) in
      record { before = []; shown = l.shown; after = l.after; start = []; end = l.end; in_order = l.in_order; cells = l.cells; blank_start = All-nil IsBlank; blank_end = l.blank_end }
  by false early r = record {
    before = g ∷ r.before;
    shown = r.shown;
    after = r.after;
    start = framed left cols at g ++ r.start;
    end = r.end;
    in_order = ap (λ (xs : List (List StyledCell)). g ∷ xs) r.in_order;
    cells = framed-append left cols at g (cells_in gs) ∙ ap (λ (cs : List StyledCell). framed left cols at g ++ cs) r.cells
        ∙ sym (append_assoc (framed left cols at g) (r.start ++ cells_in r.shown) r.end)
        ∙ ap (λ (cs : List StyledCell). cs ++ r.end) (sym (append_assoc (framed left cols at g) r.start (cells_in r.shown)));
    blank_start = All-append IsBlank _ _ (fit.0.cut at (before_cut left cols at (length g) early)) r.blank_start;
    blank_end = r.blank_end;
  }

-- a row shows whole groups of its block's pieces
pub row_whole : (tab cols left : ℕ) (p : PiecesView) → ShowsWhole (groups_of tab p.start p.pieces) (row_of tab cols left p)
row_whole tab cols left p =
    let shown = pieces_in_window tab left cols p.start p.pieces in
    let bare = replicate (cols - length shown) (in_style p.style blank) in
    let r = framed_whole left cols p.start (groups_of tab p.start p.pieces) (groups_fit left cols tab p.start p.pieces) in
    record {
      before = r.before;
      shown = r.shown;
      after = r.after;
      start = r.start;
      end = r.end ++ bare;
      in_order = r.in_order;
      cells = ap (λ (cs : List StyledCell). cs ++ bare) (sym (framed_pieces tab left cols p.start p.pieces) ∙ r.cells) ∙ append_assoc (r.start ++ cells_in r.shown) r.end bare;
      blank_start = r.blank_start;
      blank_end = All-append IsBlank _ _ r.blank_end (All-replicate IsBlank (cols - length shown) (in_style p.style blank) refl);
    }
