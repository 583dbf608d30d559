-- One cluster further, and one item further, in the pieces of a block.
use Rattle.std.proofs.Common.{◌≡◌, ℕ, ◌+◌, ◌-◌, ◌<◌, ◌≤◌, min, max, Bool, true, false, List, [], ◌∷◌, ◌++◌, length, drop, map, nat_le, refl, sym, ap, ◌∙◌, arith, length-append, length-drop, if◌then◌else◌}
use Rattle.std.proofs.lemmas.List.{length-take}
use Rattle.std.proofs.lemmas.Bool.Decides.{nat_tests}
use Rattle.std.specs.Str.{chars, IsUtf8}
use Rattle.unicode_segmentation.specs.Grapheme.{graphemes, is_grapheme_break}
use Rattle.unicode_segmentation.specs.Segments.{Rule, cut, prepend}
use Rattle.decoration.specs.declared.style.Style.{Style}
use Rattle.line_tree.specs.Text.{slice}
use Rattle.cells.specs.Layout.{clusters}
use Rattle.cells.proofs.Layouts.{clusters-bytes}
use Rattle.pieces.specs.Items.{ItemView, item_piece}
use Rattle.pieces.specs.Piece.{PieceView}
use Rattle.pieces.specs.Filling.{FillingView, put, put_all}
use Rattle.pieces.proofs.Fillings.{put_all-append, put_all-over}
use Rattle.pieces.specs.Pieces.{BlockView, by_clusters, cluster_piece, run, up_to, walked}

-- how many characters pieces of text have together
abbrev pub total : List (List ℕ) → ℕ
total [] = 0
total (g ∷ gs) = length g + total gs

-- no piece is empty
abbrev pub AreSome : List (List ℕ) → Type 0
AreSome [] = Unit {0}
AreSome (g ∷ gs) = (0 < length g) × AreSome gs

total-prepend : (c : ℕ) (ps : List (List ℕ)) → total (prepend (c ∷ []) ps) ≡ 1 + total ps
total-prepend c [] = refl
total-prepend c (p ∷ ps) = omega (arith, length-append (c ∷ []) p)

some-prepend : (c : ℕ) (ps : List (List ℕ)) → AreSome ps → AreSome (prepend (c ∷ []) ps)
some-prepend c [] some = (omega arith, tt)
some-prepend c (p ∷ ps) some = (omega arith, some.1)

total-put : (b : Bool) (c : ℕ) (ps : List (List ℕ)) → total (if b then (c ∷ []) ∷ ps else prepend (c ∷ []) ps) ≡ 1 + total ps
total-put true c ps = refl
total-put false c ps = total-prepend c ps

some-put : (b : Bool) (c : ℕ) (ps : List (List ℕ)) → AreSome ps → AreSome (if b then (c ∷ []) ∷ ps else prepend (c ∷ []) ps)
some-put true c ps some = (omega arith, some)
some-put false c ps some = some-prepend c ps some

total-cut : (rule : Rule) (before cs after : List ℕ) → total (cut rule before cs after) ≡ length cs
unfolding cut
total-cut rule before [] after = refl
total-cut rule before (c ∷ cs) after =
    let more = total-cut rule (c ∷ before) cs after in
    let here = total-put (rule (c ∷ before) (cs ++ after)) c (cut rule (c ∷ before) cs after) in
    omega (arith, more, here)

some-cut : (rule : Rule) (before cs after : List ℕ) → AreSome (cut rule before cs after)
unfolding cut
some-cut rule before [] after = tt
some-cut rule before (c ∷ cs) after = some-put (rule (c ∷ before) (cs ++ after)) c _ (some-cut rule (c ∷ before) cs after)

-- the clusters of a text have as many characters as it, and none is empty
pub total-clusters : (cs : List ℕ) → total (clusters cs) ≡ length cs
unfolding clusters
total-clusters cs = total-cut (is_grapheme_break true) [] cs []

pub some-clusters : (cs : List ℕ) → AreSome (clusters cs)
unfolding clusters
some-clusters cs = some-cut (is_grapheme_break true) [] cs []

-- clusters of equal styles are equal pieces
pub by_clusters-same : (f g : ℕ → Style) (p : ℕ) (gs : List (List ℕ)) → AreSome gs → ((q : ℕ) → p ≤ q → q < p + total gs → f q ≡ g q) → by_clusters f p gs ≡ by_clusters g p gs
unfolding by_clusters
by_clusters-same f g p [] some same = refl
by_clusters-same f g p (c ∷ cs) some same =
    let here : f p ≡ g p = same p (omega arith) (omega (arith, some.0)) in
    let more : by_clusters f (p + length c) cs ≡ by_clusters g (p + length c) cs =
    by_clusters-same f g (p + length c) cs some.1 (λ q from before. same q (omega arith) (omega arith)) in
    rw (here, more) refl

pub length-slice : (from to : ℕ) (cs : List ℕ) → to ≤ length cs → length (slice from to cs) ≡ to - from
length-slice from to cs within = omega (arith, length-take (to - from) (drop from cs), length-drop from cs)

-- one cluster further
pub record Placing (f : ℕ → Style) (place : ℕ) (left : List (List ℕ)) (filling all : FillingView) (end : ℕ) : Type 0 where
  pub place_is : place + total (map chars left) ≡ end
  pub puts : put_all filling (by_clusters f place (map chars left)) ≡ all

pub place_begin : (f : ℕ → Style) (base : ℕ) (bytes : List ℕ) (left : List (List ℕ)) (filling : FillingView) → IsUtf8 bytes → left ≡ graphemes true bytes → Placing f base left filling (put_all filling (by_clusters f base (clusters (chars bytes)))) (base + length (chars bytes))
place_begin f base bytes left filling spelled all =
    let same : map chars left ≡ clusters (chars bytes) = ap (map chars) all ∙ clusters-bytes bytes spelled in
    record {
      place_is = omega (arith, ap total same, total-clusters (chars bytes));
      puts = rw same refl;
    }

pub place_step : (f : ℕ → Style) (place now : ℕ) (g : List ℕ) (left rest : List (List ℕ)) (filling more all : FillingView) (end : ℕ) → left ≡ g ∷ rest → now ≡ place + length (chars g) → more ≡ put filling (cluster_piece f place (chars g)) → Placing f place left filling all end → Placing f now rest more all end
unfolding by_clusters put_all
place_step f place now g left rest filling more all end taken at adds before =
    let place_is = rw taken at before.place_is in
    let goes = rw taken at before.puts in
    record {
      place_is = omega (arith, place_is, at);
      puts = rw (adds, at) goes;
    }

pub place_fits : (f : ℕ → Style) (place : ℕ) (g : List ℕ) (left rest : List (List ℕ)) (filling all : FillingView) (end : ℕ) → left ≡ g ∷ rest → Placing f place left filling all end → place + length (chars g) ≤ end
place_fits f place g left rest filling all end taken before =
    let place_is = rw taken at before.place_is in
    omega (arith, place_is)

pub place_over : (f : ℕ → Style) (place : ℕ) (left : List (List ℕ)) (filling all : FillingView) (end : ℕ) → filling.over ≡ true → Placing f place left filling all end → filling ≡ all
place_over f place left filling all end over before = sym (put_all-over filling (by_clusters f place (map chars left)) over) ∙ before.puts

pub place_end : (f : ℕ → Style) (place : ℕ) (left : List (List ℕ)) (filling all : FillingView) (end : ℕ) → left ≡ [] → Placing f place left filling all end → filling ≡ all
unfolding by_clusters put_all
place_end f place left filling all end none before = rw none at before.puts

-- no characters have no clusters
pub run-none : (b : BlockView) (at end : ℕ) → min end b.to ≤ at → run b at end ≡ []
unfolding clusters cut by_clusters
run-none b at end past =
    let none : min end b.to - at ≡ 0 = omega arith in
    rw none refl

pub le_is : (a b : ℕ) → a ≤ b → nat_le a b ≡ true
le_is a b less = grind (arith, nat_tests)

pub not_le_is : (a b : ℕ) → b < a → nat_le a b ≡ false
not_le_is a b more = grind (arith, nat_tests)

-- the characters before an item, and the item
pub put_up_to : (b : BlockView) (at : ℕ) (x : ItemView) (filling more now : FillingView) → nat_le at x.place ≡ true → more ≡ put_all filling (run b at x.place) → now ≡ put more (item_piece b.from b.style x) → now ≡ put_all filling (up_to b at x)
unfolding put_all
put_up_to b at x filling more now before run_is adds =
    rw before (adds ∙ ap (λ (f : FillingView). put f (item_piece b.from b.style x)) run_is ∙ sym (put_all-append filling (run b at x.place) (item_piece b.from b.style x ∷ [])))

pub put_none : (b : BlockView) (at : ℕ) (x : ItemView) (filling : FillingView) → nat_le at x.place ≡ false → filling ≡ put_all filling (up_to b at x)
unfolding put_all
put_none b at x filling late = rw late refl

-- one item further
pub walk_step : (b : BlockView) (at now : ℕ) (x : ItemView) (left xs : List ItemView) (filling more all : FillingView) → left ≡ x ∷ xs → now ≡ max at x.to → more ≡ put_all filling (up_to b at x) → put_all filling (walked b at left) ≡ all → put_all more (walked b now xs) ≡ all
unfolding walked
walk_step b at now x left xs filling more all taken further adds goes =
    rw (adds, further) (sym (put_all-append filling (up_to b at x) (walked b (max at x.to) xs)) ∙ (rw taken at goes))

-- where a piece was left out, nothing more is kept
pub walk_over : (filling : FillingView) (ps : List PieceView) (all : FillingView) → filling.over ≡ true → put_all filling ps ≡ all → filling ≡ all
walk_over filling ps all over goes = sym (put_all-over filling ps over) ∙ goes

pub walk_end : (b : BlockView) (at : ℕ) (left : List ItemView) (filling more all : FillingView) → left ≡ [] → more ≡ put_all filling (run b at b.to) → put_all filling (walked b at left) ≡ all → more ≡ all
unfolding walked
walk_end b at left filling more all none adds goes = adds ∙ (rw none at goes)
