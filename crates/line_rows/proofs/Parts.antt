-- Each character of a block stands in exactly one cell group.
use Rattle.std.proofs.Common.{◌≡◌, ◌≢◌, ℕ, zero, suc, ◌+◌, ◌-◌, ◌%◌, ◌<◌, ◌==◌, ◌&&◌, ◌||◌, not, Bool, true, false, if◌then◌else◌, List, [], ◌∷◌, ◌++◌, length, map, replicate, refl, ap, ap₂, ◌∙◌, append-nil, arith}
use Rattle.std.specs.List.{concat, list_all, list_any}
use Rattle.std.proofs.Math.Nat.{mod-lt}
use Rattle.std.proofs.lemmas.Bool.{and_parts, eqb-true, eqb-false}
use Rattle.std.proofs.lemmas.List.{map-append}
use Rattle.std.proofs.lemmas.List.Elements.{All-nil, All-cons, All-append}
use Rattle.std.proofs.lemmas.Grind.{flat_map-append}
use Rattle.unicode_width.specs.Width.{str_width}
use Rattle.cells.specs.Layout.{Shown, blank, cells_of, cluster_cells, clusters, dot, first, is_control, is_tab, rests, wide}
use Rattle.pieces.specs.Piece.{PieceView}
use Rattle.decoration.specs.declared.style.Style.{Style}
use Rattle.line_rows.specs.declared.rows.StyledCell.{StyledCell}
use Rattle.line_rows.specs.Groups.{alone, cluster_groups, groups_of, in_style, text_groups}
use Rattle.line_rows.specs.Parts.{PartView, StandsIn, StandOnce, block_text}
use Rattle.line_rows.proofs.Clusters.{AllKinds, Kind, concat-clusters, is_point, kinds-clusters}

abbrev text_of_part : PartView → List ℕ
text_of_part part = part.characters

abbrev groups_of_part : PartView → List (List StyledCell)
groups_of_part part = part.group ∷ part.filling

abbrev HasSome : PartView → Type 0
HasSome part = part.characters ≢ []

abbrev Stands : PartView → Type 0
Stands part = StandsIn part.characters part.group part.filling

once_none : StandOnce [] []
once_none = record { parts = []; all_characters = refl; none_empty = All-nil HasSome; all_groups = refl; each = All-nil Stands }

once_one : (c : ℕ) (cs : List ℕ) (group : List StyledCell) (filling : List (List StyledCell)) → StandsIn (c ∷ cs) group filling → StandOnce (c ∷ cs) (group ∷ filling)
once_one c cs group filling stands = record {
  parts = record { characters = c ∷ cs; group = group; filling = filling } ∷ [];
  all_characters = append-nil (c ∷ cs);
  none_empty = All-cons HasSome _ [] (λ (e : c ∷ cs ≡ []). cc) (All-nil HasSome);
  all_groups = append-nil (group ∷ filling);
  each = All-cons Stands _ [] stands (All-nil Stands);
}

once_both : (xs ys : List ℕ) (gs hs : List (List StyledCell)) → StandOnce xs gs → StandOnce ys hs → StandOnce (xs ++ ys) (gs ++ hs)
once_both xs ys gs hs a b = record {
  parts = a.parts ++ b.parts;
  all_characters = flat_map-append text_of_part a.parts b.parts ∙ ap₂ ◌++◌ a.all_characters b.all_characters;
  all_groups = flat_map-append groups_of_part a.parts b.parts ∙ ap₂ ◌++◌ a.all_groups b.all_groups;
  none_empty = All-append HasSome a.parts b.parts a.none_empty b.none_empty;
  each = All-append Stands a.parts b.parts a.each b.each;
}

abbrev styled : Style → List (List Shown) → List (List StyledCell)
styled style groups = map (map (in_style style)) groups

each_alone : (style : Style) (cell : Shown) (n : ℕ) → styled style (map alone (replicate n cell)) ≡ replicate n (in_style style cell ∷ [])
each_alone style cell zero = refl
each_alone style cell (suc n) = ap (λ (gs : List (List StyledCell)). (in_style style cell ∷ []) ∷ gs) (each_alone style cell n)

once_blanks : (style : Style) (n : ℕ) → 0 < n → StandOnce (9 ∷ []) (styled style (map alone (replicate n blank)))
once_blanks style zero some =
    let none : ⊥ = omega arith in
    absurd none
once_blanks style (suc n) some = rw (each_alone style blank n) (once_one 9 [] _ _ (StandsIn.tab style n))

not_true : (b : Bool) → not b ≡ true → b ≡ false
not_true true e = cc
not_true false e = refl

once_points : (style : Style) (cs : List ℕ) → list_all is_point cs ≡ true → StandOnce cs (styled style (map alone (replicate (length cs) dot)))
once_points style [] all = once_none
once_points style (c ∷ cs) all =
    let parts = and_parts (is_point c) (list_all is_point cs) all in
    let here = and_parts (is_control c) (not (c == 9)) parts.0 in
    once_both (c ∷ []) cs _ _ (once_one c [] _ [] (StandsIn.control style c here.0 (not_true _ here.1))) (once_points style cs parts.1)

once_wide : (style : Style) (c : ℕ) (cs : List ℕ) → list_any is_control (c ∷ cs) ≡ false → StandOnce (c ∷ cs) (styled style (wide (c ∷ cs) (str_width false (c ∷ cs)) ∷ []))
once_wide style c cs plain = by (width == 0) refl where
  width : ℕ
  width = str_width false (c ∷ cs)

  by : (b : Bool) → (width == 0) ≡ b → StandOnce (c ∷ cs) (map (in_style style) (if b then [] else first (c ∷ cs) (width - 1) ∷ rests 1 (width - 1)) ∷ [])
  by true is = once_one c cs [] [] (StandsIn.no_columns (c ∷ cs) plain (eqb-true width 0 is))
  by false is = once_one c cs _ [] (StandsIn.cluster style (c ∷ cs) (width - 1) plain (omega (arith, eqb-false width 0 is)))

tab_is : (g : List ℕ) → is_tab g ≡ true → g ≡ 9 ∷ []
tab_is [] e = cc
tab_is (c ∷ []) e = ap (λ (x : ℕ). x ∷ []) (eqb-true c 9 e)
tab_is (c ∷ d ∷ ds) e = cc

lone_point : (a b : Bool) → b ≡ false → (a || false) ≡ true → ((a && not b) && true) ≡ true
lone_point true b t some = rw t refl
lone_point false b t some = cc

points_of : (g : List ℕ) → Kind g → is_tab g ≡ false → list_any is_control g ≡ true → list_all is_point g ≡ true
points_of g (Kind.plain none) t some = cc
points_of g (Kind.one c same) t some = rw same (lone_point (is_control c) (c == 9) (rw same at t) (rw same at some))
points_of g (Kind.points all) t some = all

once_cluster : (style : Style) (tab at c : ℕ) (cs : List ℕ) (t d : Bool) → 0 < tab → Kind (c ∷ cs) → is_tab (c ∷ cs) ≡ t → list_any is_control (c ∷ cs) ≡ d → StandOnce (c ∷ cs) (styled style (cluster_groups tab at (c ∷ cs)))
unfolding cluster_groups cluster_cells
once_cluster style tab at c cs true d some kind t_is d_is = rw t_is (rw (tab_is (c ∷ cs) t_is) (once_blanks style (tab - at % tab) (omega (arith, mod-lt at some))))
once_cluster style tab at c cs false true some kind t_is d_is = rw (t_is, d_is) (once_points style (c ∷ cs) (points_of (c ∷ cs) kind t_is d_is))
once_cluster style tab at c cs false false some kind t_is d_is = rw (t_is, d_is) (once_wide style c cs d_is)

once_text : (style : Style) (tab at : ℕ) (gs : List (List ℕ)) → 0 < tab → AllKinds gs → StandOnce (concat gs) (styled style (text_groups tab at gs))
unfolding text_groups
once_text style tab at [] some kinds = once_none
once_text style tab at ([] ∷ gs) some kinds = absurd kinds
once_text style tab at ((c ∷ cs) ∷ gs) some kinds =
    let next = at + length (cluster_cells tab at (c ∷ cs)) in
    rw (map-append (map (in_style style)) (cluster_groups tab at (c ∷ cs)) (text_groups tab next gs))
    (once_both (c ∷ cs) (concat gs) _ _ (once_cluster style tab at c cs _ _ some kinds.0 refl refl) (once_text style tab next gs some kinds.1))

-- the characters of pieces stand in the groups of these, each in exactly one
pub pieces_once : (tab at : ℕ) (pieces : List PieceView) → 0 < tab → StandOnce (block_text pieces) (groups_of tab at pieces)
unfolding groups_of
pieces_once tab at [] some = once_none
pieces_once tab at (p ∷ ps) some =
    let here : StandOnce p.text (styled p.style (text_groups tab at (clusters p.text))) =
    rw (concat-clusters p.text) at (once_text p.style tab at (clusters p.text) some (kinds-clusters p.text)) in
    once_both p.text (block_text ps) _ _ here (pieces_once tab (at + length (cells_of tab at p.text)) ps some)
