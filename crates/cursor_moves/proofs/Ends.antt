-- One cluster further in a walk over the ends of clusters.
use Rattle.std.proofs.Common.{◌≡◌, ℕ, ◌+◌, ◌-◌, ◌<◌, ◌≤◌, Bool, true, false, List, [], ◌∷◌, ◌++◌, length, drop, map, refl, sym, ap, ◌∙◌, arith, length-append, length-drop, if◌then◌else◌}
use Rattle.std.specs.Prelude.{fold, find, ltb}
use Rattle.std.specs.Option.{unwrap_or}
use Rattle.std.proofs.lemmas.Bool.Decides.{nat_tests}
use Rattle.std.proofs.lemmas.List.{length-take}
use Rattle.std.specs.Str.{chars, IsUtf8}
use Rattle.line_tree.specs.Text.{slice}
use Rattle.unicode_segmentation.specs.Grapheme.{graphemes, is_grapheme_break}
use Rattle.unicode_segmentation.specs.Segments.{Rule, cut, prepend}
use Rattle.cells.specs.Layout.{clusters}
use Rattle.cells.proofs.Layouts.{clusters-bytes}
use Rattle.cursor_moves.specs.Stops.{ends_from, later_stop}

-- how many characters some clusters have together
abbrev pub total : List (List ℕ) → ℕ
total [] = 0
total (g ∷ gs) = length g + total gs

total-prepend : (c : ℕ) (ps : List (List ℕ)) → total (prepend (c ∷ []) ps) ≡ 1 + total ps
total-prepend c [] = refl
total-prepend c (p ∷ ps) = omega (arith, length-append (c ∷ []) p)

total-put : (b : Bool) (c : ℕ) (ps : List (List ℕ)) → total (if b then (c ∷ []) ∷ ps else prepend (c ∷ []) ps) ≡ 1 + total ps
total-put true c ps = refl
total-put false c ps = total-prepend c ps

total-cut : (rule : Rule) (before cs after : List ℕ) → total (cut rule before cs after) ≡ length cs
unfolding cut
total-cut rule before [] after = refl
total-cut rule before (c ∷ cs) after =
    let more = total-cut rule (c ∷ before) cs after in
    let here = total-put (rule (c ∷ before) (cs ++ after)) c (cut rule (c ∷ before) cs after) in
    omega (arith, more, here)

-- the clusters of a text have as many characters as it
pub total-clusters : (cs : List ℕ) → total (clusters cs) ≡ length cs
unfolding clusters
total-clusters cs = total-cut (is_grapheme_break true) [] cs []

-- what a walk gives in the end, over the clusters that are left from a place on
pub record Walk (place : ℕ) (left : List (List ℕ)) (end : ℕ) (of : ℕ → List (List ℕ) → ℕ) (result : ℕ) : Type 0 where
  pub place_is : place + total (map chars left) ≡ end
  pub gives : of place (map chars left) ≡ result

pub walk_begins : (of : ℕ → List (List ℕ) → ℕ) (from : ℕ) (bytes : List ℕ) (left : List (List ℕ)) → IsUtf8 bytes → left ≡ graphemes true bytes → Walk from left (from + length (chars bytes)) of (of from (clusters (chars bytes)))
walk_begins of from bytes left spelled all =
    let same : map chars left ≡ clusters (chars bytes) = ap (map chars) all ∙ clusters-bytes bytes spelled in
    record {
      place_is = omega (arith, ap total same, total-clusters (chars bytes));
      gives = ap (of from) same;
    }

pub walk_place : (place now : ℕ) (g : List ℕ) (left rest : List (List ℕ)) (end : ℕ) → left ≡ g ∷ rest → now ≡ place + length (chars g) → place + total (map chars left) ≡ end → now + total (map chars rest) ≡ end
walk_place place now g left rest end taken now_is before =
    let whole = rw taken at before in
    omega (arith, whole, now_is)

-- the last end at or before a place
abbrev pub last_of : (most found : ℕ) → ℕ → List (List ℕ) → ℕ
last_of most found place left = fold (later_stop most) found (ends_from place left)

pub last_step : (most found later place now : ℕ) (g : List ℕ) (left rest : List (List ℕ)) (result : ℕ) → left ≡ g ∷ rest → now ≡ place + length (chars g) → later ≡ later_stop most found now → last_of most found place (map chars left) ≡ result → last_of most later now (map chars rest) ≡ result
unfolding ends_from
last_step most found later place now g left rest result taken now_is is before =
    let whole = rw taken at before in
    rw (is, now_is) whole

pub last_end : (most found place : ℕ) (left : List (List ℕ)) (result : ℕ) → left ≡ [] → last_of most found place (map chars left) ≡ result → found ≡ result
unfolding ends_from
last_end most found place left result none before = rw none at before

-- the first end after a place
abbrev pub next_of : (after to : ℕ) → ℕ → List (List ℕ) → ℕ
next_of after to place left = unwrap_or (find (ltb after) (ends_from place left)) to

pub next_step : (after to place now : ℕ) (g : List ℕ) (left rest : List (List ℕ)) (result : ℕ) → left ≡ g ∷ rest → now ≡ place + length (chars g) → ltb after now ≡ false → next_of after to place (map chars left) ≡ result → next_of after to now (map chars rest) ≡ result
unfolding ends_from
next_step after to place now g left rest result taken now_is not_yet before =
    let whole = rw taken at before in
    let here : ltb after (place + length (chars g)) ≡ false = rw now_is at not_yet in
    rw now_is (rw here at whole)

pub next_found : (after to place now : ℕ) (g : List ℕ) (left rest : List (List ℕ)) (result : ℕ) → left ≡ g ∷ rest → now ≡ place + length (chars g) → ltb after now ≡ true → next_of after to place (map chars left) ≡ result → now ≡ result
unfolding ends_from
next_found after to place now g left rest result taken now_is past before =
    let whole = rw taken at before in
    let here : ltb after (place + length (chars g)) ≡ true = rw now_is at past in
    now_is ∙ (rw here at whole)

pub next_none : (after to place : ℕ) (left : List (List ℕ)) (result : ℕ) → left ≡ [] → next_of after to place (map chars left) ≡ result → to ≡ result
unfolding ends_from
next_none after to place left result none before = rw none at before

pub less_is : (a b : ℕ) → a < b → ltb a b ≡ true
less_is a b h = grind (arith, nat_tests)

pub not_less_is : (a b : ℕ) → b ≤ a → ltb a b ≡ false
not_less_is a b h = grind (arith, nat_tests)

pub length-slice : (from to : ℕ) (cs : List ℕ) → from ≤ to → to ≤ length cs → from + length (slice from to cs) ≡ to
length-slice from to cs order within = omega (arith, length-take (to - from) (drop from cs), length-drop from cs)
