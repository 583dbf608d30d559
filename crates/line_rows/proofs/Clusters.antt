-- The clusters of a text: joined they are the text, and one that has a control character is that character alone, or an end of a line.
use Rattle.std.proofs.Common.{◌≡◌, ℕ, ◌==◌, ◌&&◌, ◌||◌, not, Bool, true, false, if◌then◌else◌, List, [], ◌∷◌, ◌++◌, unwrap_or, refl, ap, ◌∙◌, arith}
use Rattle.std.specs.List.{concat, list_all, list_any}
use Rattle.std.proofs.lemmas.Bool.{and_parts}
use Rattle.std.proofs.lemmas.Bool.Decides.{nat_tests}
use Rattle.ucd_table.specs.Rows.{Range, in_ranges}
use Rattle.ucd_table.proofs.Facts.{Stepped-everywhere}
use Rattle.ucd_table.proofs.Stepped.{of_ranges, zip_stepped}
use Rattle.ucd_breaks.specs.GraphemeClusterBreak.{grapheme_cluster_break}
use Rattle.ucd_breaks.specs.declared.GraphemeClusterBreak.{GraphemeClusterBreak}
use Rattle.ucd_breaks.specs.declared.GraphemeClusterBreak.TheVariants.{Control, Cr, Lf}
use Rattle.ucd_breaks.proofs.Computing.{ucd_breaks}
use Rattle.ucd_breaks.proofs.GraphemeClusterBreakLemmas.{grapheme_cluster_break_stepped}
use Rattle.unicode_segmentation.specs.Grapheme.{break_by_pair, is_grapheme_break}
use Rattle.unicode_segmentation.specs.Segments.{Rule, cut, prepend}
use Rattle.cells.specs.Layout.{clusters, is_control}

put-concat : (b : Bool) (c : ℕ) (gs : List (List ℕ)) → concat (if b then (c ∷ []) ∷ gs else prepend (c ∷ []) gs) ≡ c ∷ concat gs
put-concat true c gs = refl
put-concat false c [] = refl
put-concat false c (g ∷ gs) = refl

concat-cut : (rule : Rule) (before cs after : List ℕ) → concat (cut rule before cs after) ≡ cs
unfolding cut
concat-cut rule before [] after = refl
concat-cut rule before (c ∷ cs) after =
    put-concat (rule (c ∷ before) (cs ++ after)) c (cut rule (c ∷ before) cs after) ∙ ap (λ (ds : List ℕ). c ∷ ds) (concat-cut rule (c ∷ before) cs after)

-- the clusters of a text make up the text
pub concat-clusters : (text : List ℕ) → concat (clusters text) ≡ text
unfolding clusters
concat-clusters text = concat-cut (is_grapheme_break true) [] text []

-- ---- control characters in the table

lines : List Range
lines = (10, 10) ∷ (13, 13) ∷ []

controls : List Range
controls = (0, 0x1F) ∷ (0x7F, 0x9F) ∷ []

-- whether the rules break on both sides of a character
abbrev breaks : GraphemeClusterBreak → Bool
breaks Control = true
breaks Cr = true
breaks Lf = true
breaks _ = false

abbrev ends_line : GraphemeClusterBreak → Bool
ends_line Cr = true
ends_line Lf = true
ends_line _ = false

abbrev fits : GraphemeClusterBreak → Bool → Bool → Bool
fits g line control = if ends_line g then line else if breaks g then true else not control

table_fits : (c : ℕ) → fits (grapheme_cluster_break c) (in_ranges lines c) (in_ranges controls c) ≡ true
unfolding ucd_breaks lines controls
table_fits =
    let one = zip_stepped fits grapheme_cluster_break (in_ranges lines) grapheme_cluster_break_stepped (of_ranges lines refl) in
    Stepped-everywhere _ (zip_stepped (λ (test : Bool → Bool) (control : Bool). test control) _ (in_ranges controls) one (of_ranges controls refl)) refl

-- shown as a point
abbrev pub is_point : ℕ → Bool
is_point c = is_control c && not (c == 9)

no_control : (c : ℕ) → not (in_ranges controls c) ≡ true → is_control c ≡ false
unfolding controls in_ranges
no_control c out = grind (arith, nat_tests)

line_point : (c : ℕ) → in_ranges lines c ≡ true → is_point c ≡ true
unfolding lines in_ranges
line_point c inside = grind (arith, nat_tests)

plain_by : (g : GraphemeClusterBreak) (line control : Bool) → fits g line control ≡ true → breaks g ≡ false → not control ≡ true
plain_by Control line control fit e = cc
plain_by Cr line control fit e = cc
plain_by Lf line control fit e = cc
plain_by _ line control fit e = fit

line_by : (g : GraphemeClusterBreak) (line control : Bool) → fits g line control ≡ true → ends_line g ≡ true → line ≡ true
line_by Cr line control fit e = fit
line_by Lf line control fit e = fit
line_by _ line control fit e = cc

-- ---- what may stand in one cluster

-- two characters that no break parts
data Joined (c d : ℕ) : Type 0 where
  texts : is_control c ≡ false → is_control d ≡ false → Joined c d
  line_end : is_point c ≡ true → is_point d ≡ true → Joined c d

data Pair (g h : GraphemeClusterBreak) : Type 0 where
  texts : breaks g ≡ false → breaks h ≡ false → Pair g h
  line_end : ends_line g ≡ true → ends_line h ≡ true → Pair g h

pair_by : (g h : GraphemeClusterBreak) (r : Bool) → unwrap_or (break_by_pair true g h) r ≡ false → Pair g h
pair_by Control _ r e = cc
pair_by Cr Lf r e = Pair.line_end refl refl
pair_by Cr _ r e = cc
pair_by Lf _ r e = cc
pair_by _ Control r e = cc
pair_by _ Cr r e = cc
pair_by _ Lf r e = cc
pair_by _ _ r e = Pair.texts refl refl

joined_by : (c d : ℕ) → Pair (grapheme_cluster_break c) (grapheme_cluster_break d) → Joined c d
joined_by c d (Pair.texts x y) =
    Joined.texts (no_control c (plain_by _ _ _ (table_fits c) x)) (no_control d (plain_by _ _ _ (table_fits d) y))
joined_by c d (Pair.line_end x y) =
    Joined.line_end (line_point c (line_by _ _ _ (table_fits c) x)) (line_point d (line_by _ _ _ (table_fits d) y))

joined : (c d : ℕ) (before after : List ℕ) → is_grapheme_break true (c ∷ before) (d ∷ after) ≡ false → Joined c d
unfolding is_grapheme_break
joined c d before after e = joined_by c d (pair_by _ _ _ e)

-- what a cluster is: characters of which none is a control character, one character, or control characters of which none is a tab
pub data Kind (g : List ℕ) : Type 0 where
  plain : list_any is_control g ≡ false → Kind g
  one : (c : ℕ) → g ≡ c ∷ [] → Kind g
  points : list_all is_point g ≡ true → Kind g

abbrev rest_of : List ℕ → List ℕ
rest_of [] = []
rest_of (c ∷ cs) = cs

control_is : (c : ℕ) → is_point c ≡ true → is_control c ≡ true
control_is c e = (and_parts (is_control c) (not (c == 9)) e).0

differ : (b : Bool) → b ≡ true → b ≡ false → ⊥
differ b x y = cc

or_first : (a b : Bool) → (a || b) ≡ false → a ≡ false
or_first true b e = cc
or_first false b e = refl

grow : (c d : ℕ) (p : List ℕ) → Joined c d → Kind (d ∷ p) → Kind (c ∷ d ∷ p)
grow c d p (Joined.texts x y) (plain none) = plain (rw x none)
grow c d p (Joined.texts x y) (one e same) = plain (rw (x, y, ap rest_of same) refl)
grow c d p (Joined.texts x y) (points all) = absurd (differ _ (control_is d (and_parts (is_point d) (list_all is_point p) all).0) y)
grow c d p (Joined.line_end x y) (plain none) = absurd (differ _ (control_is d y) (or_first (is_control d) (list_any is_control p) none))
grow c d p (Joined.line_end x y) (one e same) = points (rw (x, y, ap rest_of same) refl)
grow c d p (Joined.line_end x y) (points all) = points (rw x all)

abbrev pub AllKinds : List (List ℕ) → Type 0
AllKinds [] = Unit {0}
AllKinds ([] ∷ gs) = ⊥
AllKinds ((c ∷ cs) ∷ gs) = Kind (c ∷ cs) × AllKinds gs

-- the first piece begins with the first character
abbrev Begins : List ℕ → List (List ℕ) → Type 0
Begins [] gs = gs ≡ []
Begins (c ∷ cs) gs = (p : List ℕ) × (ps : List (List ℕ)) × (gs ≡ (c ∷ p) ∷ ps)

record Cut (cs : List ℕ) (gs : List (List ℕ)) : Type 0 where
  kinds : AllKinds gs
  begins : Begins cs gs

put_new : (c : ℕ) (cs : List ℕ) (gs : List (List ℕ)) → AllKinds gs → Cut (c ∷ cs) ((c ∷ []) ∷ gs)
put_new c cs gs kinds = record { kinds = (one c refl, kinds); begins = ([], gs, refl) }

put_on : (c d : ℕ) (cs p : List ℕ) (ps : List (List ℕ)) → Joined c d → AllKinds ((d ∷ p) ∷ ps) → Cut (c ∷ cs) ((c ∷ d ∷ p) ∷ ps)
put_on c d cs p ps fact kinds = record { kinds = (grow c d p fact kinds.0, kinds.1); begins = (d ∷ p, ps, refl) }

put : (b : Bool) (c : ℕ) (before cs : List ℕ) (gs : List (List ℕ)) → is_grapheme_break true (c ∷ before) (cs ++ []) ≡ b → Cut cs gs → Cut (c ∷ cs) (if b then (c ∷ []) ∷ gs else prepend (c ∷ []) gs)
put true c before cs gs is rest = put_new c cs gs rest.kinds
put false c before [] gs is rest = rw rest.begins (put_new c [] [] tt)
put false c before (d ∷ cs) gs is rest =
    let begins = rest.begins in
    rw begins.2 (put_on c d (d ∷ cs) begins.0 begins.1 (joined c d before (cs ++ []) is) (rw begins.2 at rest.kinds))

kinds-cut : (before cs : List ℕ) → Cut cs (cut (is_grapheme_break true) before cs [])
unfolding cut
kinds-cut before [] = record { kinds = tt; begins = refl }
kinds-cut before (c ∷ cs) = put _ c before cs (cut (is_grapheme_break true) (c ∷ before) cs []) refl (kinds-cut (c ∷ before) cs)

-- each cluster of a text is of one of these kinds, and none is empty
pub kinds-clusters : (text : List ℕ) → AllKinds (clusters text)
unfolding clusters
kinds-clusters text = (kinds-cut [] text).kinds
