-- Printable ASCII: each character is a cluster of one cell.
use Rattle.std.proofs.Common.{◌≡◌, ℕ, zero, suc, ◌+◌, ◌<◌, Bool, true, false, not, ◌&&◌, ◌||◌, List, [], ◌∷◌, ◌++◌, length, refl, sym, ap, ◌∙◌, arith, length-append}
use Rattle.std.proofs.lemmas.Bool.{and_parts}
use Rattle.std.proofs.lemmas.Bool.Decides.{nat_tests}
use Rattle.std.proofs.lemmas.Str.{chars-IsAscii}
use Rattle.std.specs.Int.{is_in_range}
use Rattle.std.specs.List.{list_all, list_any}
use Rattle.std.specs.Str.{IsAscii, chars}
use Rattle.ucd_table.proofs.Facts.{Stepped-below}
use Rattle.ucd_breaks.specs.GraphemeClusterBreak.{grapheme_cluster_break}
use Rattle.ucd_breaks.specs.declared.GraphemeClusterBreak.{GraphemeClusterBreak}
use Rattle.ucd_breaks.specs.declared.GraphemeClusterBreak.TheVariants.{Other}
use Rattle.ucd_breaks.proofs.Computing.{ucd_breaks}
use Rattle.ucd_breaks.proofs.GraphemeClusterBreakLemmas.{grapheme_cluster_break_stepped}
use Rattle.ucd_derived.specs.IndicConjunctBreak.{indic_conjunct_break}
use Rattle.ucd_derived.proofs.Computing.{ucd_derived}
use Rattle.ucd_derived.proofs.IndicConjunctBreakLemmas.{indic_conjunct_break_stepped}
use Rattle.unicode_segmentation.specs.Grapheme.{is_consonant, is_grapheme_break}
use Rattle.unicode_segmentation.specs.Segments.{cut}
use Rattle.unicode_width.specs.Width.{str_width}
use Rattle.unicode_width.proofs.WidthLemmas.{read_before-printable}
use Rattle.cells.specs.Layout.{cells_of, cluster_cells, clusters, is_control, is_tab, lay}
use Rattle.cells.proofs.Layouts.{cluster_cells-wide}
use Rattle.cells.proofs.Widths.{length-wide}

abbrev pub is_printable : ℕ → Bool
is_printable = is_in_range 0x20 0x7E

abbrev pub are_printable : List ℕ → Bool
are_printable = list_all is_printable

-- ---- the cells of one character

no_tab : (c : ℕ) → is_printable c ≡ true → is_tab (c ∷ []) ≡ false
no_tab c e = grind (arith, nat_tests)

no_control : (c : ℕ) → is_printable c ≡ true → list_any is_control (c ∷ []) ≡ false
no_control c e = grind (arith, nat_tests)

below : (c : ℕ) → is_printable c ≡ true → c < 128
below c e = grind (arith, nat_tests)

one_wide : (c : ℕ) → is_printable c ≡ true → 1 ≡ str_width false (c ∷ [])
unfolding str_width
one_wide c e = ap (λ r. r.0) (read_before-printable false (c ∷ []) [] 0 (rw e refl) refl)

one_cell : (tab at c : ℕ) → is_printable c ≡ true → length (cluster_cells tab at (c ∷ [])) ≡ 1
one_cell tab at c e =
    ap length (cluster_cells-wide tab at (c ∷ []) (no_tab c e) (no_control c e))
    ∙ (length-wide (c ∷ []) (str_width false (c ∷ [])) ∙ sym (one_wide c e))

-- ---- the clusters

is_other : GraphemeClusterBreak → Bool
is_other Other = true
is_other _ = false

other_is : (g : GraphemeClusterBreak) → is_other g ≡ true → g ≡ Other
unfolding is_other
other_is Other e = refl
other_is _ e = cc

break_other : (c : ℕ) → is_printable c ≡ true → grapheme_cluster_break c ≡ Other
unfolding ucd_breaks is_other
break_other c e =
    let test = Stepped-below grapheme_cluster_break grapheme_cluster_break_stepped (λ x v. not (is_printable x) || is_other v) 128 refl c (below c e) in
    other_is (grapheme_cluster_break c) (rw e at test)

no_consonant : (c : ℕ) → is_printable c ≡ true → is_consonant (indic_conjunct_break c) ≡ false
unfolding ucd_derived
no_consonant c e =
    let test = Stepped-below indic_conjunct_break indic_conjunct_break_stepped (λ x v. not (is_printable x) || not (is_consonant v)) 128 refl c (below c e) in
    by (is_consonant (indic_conjunct_break c)) (rw e at test)
  where
    by : (b : Bool) → not b ≡ true → b ≡ false
    by true h = cc
    by false h = refl

no_rule : (x y : Bool) → not ((true && (x && false)) || false || (y && false)) ≡ true
no_rule true true = refl
no_rule true false = refl
no_rule false true = refl
no_rule false false = refl

breaks : (before after : List ℕ) (c d : ℕ) → is_printable c ≡ true → is_printable d ≡ true → is_grapheme_break true (c ∷ before) (d ∷ after) ≡ true
unfolding is_grapheme_break
breaks before after c d e f = rw (break_other c e, break_other d f, no_consonant d f) (no_rule _ _)

breaks_end : (before : List ℕ) (c : ℕ) → is_grapheme_break true (c ∷ before) [] ≡ true
unfolding is_grapheme_break
breaks_end before c = refl

abbrev pub singles : List ℕ → List (List ℕ)
singles [] = []
singles (c ∷ cs) = (c ∷ []) ∷ singles cs

cut_singles : (before cs : List ℕ) → are_printable cs ≡ true → cut (is_grapheme_break true) before cs [] ≡ singles cs
unfolding cut
cut_singles before [] all = refl
cut_singles before (c ∷ []) all = rw (breaks_end before c) refl
cut_singles before (c ∷ d ∷ ds) all =
    let parts = and_parts (is_printable c) (are_printable (d ∷ ds)) all in
    let next = and_parts (is_printable d) (are_printable ds) parts.1 in
    rw (breaks before (ds ++ []) c d parts.0 next.0) (ap (λ (gs : List (List ℕ)). (c ∷ []) ∷ gs) (cut_singles (c ∷ before) (d ∷ ds) parts.1))

pub clusters_singles : (cs : List ℕ) → are_printable cs ≡ true → clusters cs ≡ singles cs
unfolding clusters
clusters_singles cs all = cut_singles [] cs all

-- ---- the text

is_ascii : (bs : List ℕ) → are_printable bs ≡ true → IsAscii bs
is_ascii [] all i = omega arith
is_ascii (b ∷ bs) all zero = below b (and_parts (is_printable b) (are_printable bs) all).0
is_ascii (b ∷ bs) all (suc i) = is_ascii bs (and_parts (is_printable b) (are_printable bs) all).1 i

pub chars-printable : (bs : List ℕ) → are_printable bs ≡ true → chars bs ≡ bs
chars-printable bs all = chars-IsAscii bs (is_ascii bs all)

lay_singles : (tab at : ℕ) (cs : List ℕ) → are_printable cs ≡ true → length (lay tab at (singles cs)) ≡ length cs
unfolding lay
lay_singles tab at [] all = refl
lay_singles tab at (c ∷ cs) all =
    let parts = and_parts (is_printable c) (are_printable cs) all in
    let cells = cluster_cells tab at (c ∷ []) in
    omega (arith, one_cell tab at c parts.0, lay_singles tab (at + length cells) cs parts.1, length-append cells (lay tab (at + length cells) (singles cs)))

-- printable characters take as many cells as they are
pub printable_cells : (tab at : ℕ) (cs : List ℕ) → are_printable cs ≡ true → length (cells_of tab at cs) ≡ length cs
printable_cells tab at cs all = rw (clusters_singles cs all) (lay_singles tab at cs all)
