-- What a part of a block from its start tells of the pieces of the whole.
use Rattle.std.proofs.Common.{◌≡◌, ℕ, zero, suc, ◌+◌, ◌-◌, ◌<◌, ◌≤◌, min, max, Bool, true, false, nat_le, List, [], ◌∷◌, ◌++◌, length, take, drop, refl, sym, ap, ◌∙◌, append_assoc, append-nil, arith, if◌then◌else◌}
use Rattle.std.proofs.Math.Seq.{take-nil}
use Rattle.std.proofs.lemmas.List.{drop-drop}
use Rattle.std.proofs.lemmas.Bool.Decides.{nat_tests}
use Rattle.unicode_segmentation.specs.Grapheme.{is_grapheme_break}
use Rattle.unicode_segmentation.specs.Segments.{cut, prepend}
use Rattle.decoration.specs.declared.style.Style.{Style}
use Rattle.line_tree.specs.Text.{slice}
use Rattle.cells.specs.Layout.{clusters}
use Rattle.pieces.specs.Filling.{FillingView, is_full, put_all}
use Rattle.pieces.specs.Piece.{PieceView}
use Rattle.pieces.specs.Items.{ItemView, item_piece}
use Rattle.pieces.specs.Pieces.{BlockView, by_clusters, cluster_piece, run, up_to, walked}
use Rattle.pieces.proofs.Fillings.{over_one, put_all-append, put_all-over, put_all-pieces}
use Rattle.pieces.proofs.Walks.{by_clusters-same, length-slice, run-none, some-clusters, total, total-clusters}

-- two lists that begin alike, up to the last item of the first
pub record Agree {X : Type 0} (some all : List X) : Type 0 where
  pub common : List X
  pub last : List X
  pub more : List X
  pub some_is : some ≡ common ++ last
  pub all_is : all ≡ common ++ more
  pub short : length last ≤ 1

pub agree_same : {X : Type 0} (xs : List X) → Agree xs xs
agree_same {X} xs = record { common = xs; last = []; more = []; some_is = sym (append-nil xs); all_is = sym (append-nil xs); short = omega arith }

pub agree_none : {X : Type 0} (all : List X) → Agree [] all
agree_none {X} all = record { common = []; last = []; more = all; some_is = refl; all_is = refl; short = omega arith }

pub agree_before : {X : Type 0} (zs some all : List X) → Agree some all → Agree (zs ++ some) (zs ++ all)
agree_before {X} zs some all a = record {
  common = zs ++ a.common;
  last = a.last;
  more = a.more;
  some_is = ap (λ (xs : List X). zs ++ xs) a.some_is ∙ sym (append_assoc zs a.common a.last);
  all_is = ap (λ (xs : List X). zs ++ xs) a.all_is ∙ sym (append_assoc zs a.common a.more);
  short = a.short;
}

pub agree_after : {X : Type 0} (zs some all : List X) → Agree some all → Agree some (all ++ zs)
agree_after {X} zs some all a = record {
  common = a.common;
  last = a.last;
  more = a.more ++ zs;
  some_is = a.some_is;
  all_is = ap (λ (xs : List X). xs ++ zs) a.all_is ∙ append_assoc a.common a.more zs;
  short = a.short;
}

agree_is : {X : Type 0} (a b c d : List X) → a ≡ b → c ≡ d → Agree b d → Agree a c
agree_is {X} a b c d some all agree = rw (some, all) agree

-- what is kept of the one is kept of the other, where an item of the first is left out
pub agree_kept : (f : FillingView) (some all : List PieceView) → Agree some all → f.over ≡ false → (put_all f some).over ≡ true → (put_all f all).pieces ≡ (put_all f some).pieces
unfolding put_all
agree_kept f some all a still_open over =
    let left_out : (put_all g a.last).over ≡ true = sym (ap (λ (h : FillingView). h.over) some_put) ∙ over in
    ap (λ (h : FillingView). h.pieces) all_put
    ∙ by g.over refl left_out
    ∙ ap (λ (h : FillingView). h.pieces) (sym some_put)
  where
    g : FillingView
    g = put_all f a.common

    some_put : put_all f some ≡ put_all g a.last
    some_put = ap (put_all f) a.some_is ∙ put_all-append f a.common a.last

    all_put : put_all f all ≡ put_all g a.more
    all_put = ap (put_all f) a.all_is ∙ put_all-append f a.common a.more

    full_by : (last : List PieceView) → length last ≤ 1 → g.over ≡ false → (put_all g last).over ≡ true → is_full g ≡ true
    full_by [] short still left_out = let is : true ≡ false = sym left_out ∙ still in cc
    full_by (p ∷ []) short still left_out = over_one g p still left_out
    full_by (p ∷ q ∷ ps) short still left_out = absurd (omega (arith, short))

    by : (b : Bool) → g.over ≡ b → (put_all g a.last).over ≡ true → (put_all g a.more).pieces ≡ (put_all g a.last).pieces
    by true is left_out = ap (λ (h : FillingView). h.pieces) (put_all-over g a.more is ∙ sym (put_all-over g a.last is))
    by false is left_out =
        let full = full_by a.last a.short is left_out in
        put_all-pieces g a.more full ∙ sym (put_all-pieces g a.last full)

-- whether a cluster ends before a character doesn't depend on what stands after that one
break_next : (before : List ℕ) (n : ℕ) (xs ys : List ℕ) → is_grapheme_break true before (n ∷ xs) ≡ is_grapheme_break true before (n ∷ ys)
unfolding is_grapheme_break
break_next [] n xs ys = refl
break_next (l ∷ ls) n xs ys = refl

short_prepend : (c : ℕ) (gs : List (List ℕ)) → length gs ≤ 1 → length (prepend (c ∷ []) gs) ≤ 1
short_prepend c [] short = omega arith
short_prepend c (g ∷ []) short = omega arith
short_prepend c (g ∷ h ∷ gs) short = absurd (omega (arith, short))

prepend_by : (c : ℕ) (common last more gs hs : List (List ℕ)) → gs ≡ common ++ last → hs ≡ common ++ more → length last ≤ 1 → Agree (prepend (c ∷ []) gs) (prepend (c ∷ []) hs)
prepend_by c [] last more gs hs some all short = record {
  common = [];
  last = prepend (c ∷ []) gs;
  more = prepend (c ∷ []) hs;
  some_is = refl;
  all_is = refl;
  short = short_prepend c gs (omega (arith, short, ap (λ (xs : List (List ℕ)). length xs) some));
}
prepend_by c (g ∷ common) last more gs hs some all short = record {
  common = (c ∷ g) ∷ common;
  last = last;
  more = more;
  some_is = ap (prepend (c ∷ [])) some;
  all_is = ap (prepend (c ∷ [])) all;
  short = short;
}

agree_put : (b : Bool) (c : ℕ) (gs hs : List (List ℕ)) → Agree gs hs → Agree (if b then (c ∷ []) ∷ gs else prepend (c ∷ []) gs) (if b then (c ∷ []) ∷ hs else prepend (c ∷ []) hs)
agree_put true c gs hs a = agree_before ((c ∷ []) ∷ []) gs hs a
agree_put false c gs hs a = prepend_by c a.common a.last a.more gs hs a.some_is a.all_is a.short

short_put : (b : Bool) (c : ℕ) → length (if b then (c ∷ []) ∷ [] else prepend (c ∷ []) []) ≤ 1
short_put true c = omega arith
short_put false c = omega arith

cut_agree : (before xs ys : List ℕ) → Agree (cut (is_grapheme_break true) before xs []) (cut (is_grapheme_break true) before (xs ++ ys) [])
unfolding cut
cut_agree before [] ys = agree_none _
cut_agree before (c ∷ []) ys = record {
  common = [];
  last = cut (is_grapheme_break true) before (c ∷ []) [];
  more = cut (is_grapheme_break true) before (c ∷ ys) [];
  some_is = refl;
  all_is = refl;
  short = short_put (is_grapheme_break true (c ∷ before) []) c;
}
cut_agree before (c ∷ d ∷ xs) ys =
    rw (break_next (c ∷ before) d (xs ++ []) ((xs ++ ys) ++ []))
    (agree_put (is_grapheme_break true (c ∷ before) (d ∷ ((xs ++ ys) ++ []))) c _ _ (cut_agree (c ∷ before) (d ∷ xs) ys))

-- the clusters of the first characters, but for the last of them, are clusters of all
pub clusters_agree : (xs ys : List ℕ) → Agree (clusters xs) (clusters (xs ++ ys))
unfolding clusters
clusters_agree xs ys = cut_agree [] xs ys

by_clusters-append : (f : ℕ → Style) (p : ℕ) (gs hs : List (List ℕ)) → by_clusters f p (gs ++ hs) ≡ by_clusters f p gs ++ by_clusters f (p + total gs) hs
unfolding by_clusters
by_clusters-append f p [] hs =
    let same : p ≡ p + 0 = omega arith in
    ap (λ (k : ℕ). by_clusters f k hs) same
by_clusters-append f p (g ∷ gs) hs =
    let same : p + length g + total gs ≡ p + (length g + total gs) = omega arith in
    ap (λ (ps : List PieceView). cluster_piece f p g ∷ ps)
    (by_clusters-append f (p + length g) gs hs ∙ ap (λ (k : ℕ). by_clusters f (p + length g) gs ++ by_clusters f k hs) same)

length-by_clusters : (f : ℕ → Style) (p : ℕ) (gs : List (List ℕ)) → length (by_clusters f p gs) ≡ length gs
unfolding by_clusters
length-by_clusters f p [] = refl
length-by_clusters f p (g ∷ gs) = ap suc (length-by_clusters f (p + length g) gs)

pieces_agree : (f : ℕ → Style) (p : ℕ) (gs hs : List (List ℕ)) → Agree gs hs → Agree (by_clusters f p gs) (by_clusters f p hs)
pieces_agree f p gs hs a = record {
  common = by_clusters f p a.common;
  last = by_clusters f (p + total a.common) a.last;
  more = by_clusters f (p + total a.common) a.more;
  some_is = ap (by_clusters f p) a.some_is ∙ by_clusters-append f p a.common a.last;
  all_is = ap (by_clusters f p) a.all_is ∙ by_clusters-append f p a.common a.more;
  short = omega (arith, a.short, length-by_clusters f (p + total a.common) a.last);
}

take-append-more : (m n : ℕ) (xs : List ℕ) → take (m + n) xs ≡ take m xs ++ take n (drop m xs)
take-append-more zero n xs =
    let same : zero + n ≡ n = omega arith in
    ap (λ (k : ℕ). take k xs) same
take-append-more (suc m) n [] = take-nil (suc m + n) ∙ sym (take-nil n)
take-append-more (suc m) n (x ∷ xs) =
    let more : suc m + n ≡ suc (m + n) = omega arith in
    ap (λ (k : ℕ). take k (x ∷ xs)) more ∙ ap (λ (r : List ℕ). x ∷ r) (take-append-more m n xs)

-- the characters up to a place, and those from there on
pub slice-both : (at stop end : ℕ) (text : List ℕ) → at ≤ stop → stop ≤ end → slice at end text ≡ slice at stop text ++ slice stop end text
slice-both at stop end text before after =
    let long : end - at ≡ stop - at + (end - stop) = omega arith in
    let place : stop - at + at ≡ stop = omega arith in
    let on : at + (stop - at) ≡ stop = omega arith in
    ap (λ (k : ℕ). take k (drop at text)) long
    ∙ take-append-more (stop - at) (end - stop) (drop at text)
    ∙ ap (λ (xs : List ℕ). take (stop - at) (drop at text) ++ take (end - stop) xs) (drop-drop (stop - at) at text ∙ ap (λ (k : ℕ). drop k text) on)

-- whether an item stands up to a place
abbrev pub is_early : ℕ → ItemView → Bool
is_early stop x = nat_le x.place stop

abbrev pub AreEarly : ℕ → List ItemView → Type 0
AreEarly stop [] = Unit {0}
AreEarly stop (x ∷ xs) = (x.place ≤ stop) × AreEarly stop xs

abbrev pub AreLate : ℕ → List ItemView → Type 0
AreLate stop [] = Unit {0}
AreLate stop (x ∷ xs) = (stop < x.place) × AreLate stop xs

module _ (text : List ℕ) (from stop to : ℕ) (style : Style) (f g : ℕ → Style) (order : stop ≤ to) (within : to ≤ length text) (same : (p : ℕ) → p < stop - from → f p ≡ g p) where
  abbrev pub part : BlockView
  part = record { text = text; from = from; to = stop; style = style; style_of = f }

  abbrev pub whole : BlockView
  whole = record { text = text; from = from; to = to; style = style; style_of = g }

  -- a run that ends in the part
  run_same : (at end : ℕ) → from ≤ at → end ≤ stop → run part at end ≡ run whole at end
  run_same at end started early = by (nat_le at end) refl where
    inner : min end stop ≡ end
    inner = omega arith

    outer : min end to ≡ end
    outer = omega arith

    is_more : nat_le at end ≡ true → at ≤ end
    is_more e = grind (arith, nat_tests)

    is_none : nat_le at end ≡ false → end ≤ at
    is_none e = grind (arith, nat_tests)

    by : (b : Bool) → nat_le at end ≡ b → run part at end ≡ run whole at end
    by true e =
        let count = length-slice at end text (omega arith) in
        let long = total-clusters (slice at end text) in
        let le = is_more e in
        ap (λ (k : ℕ). by_clusters f (at - from) (clusters (slice at k text))) inner
        ∙ by_clusters-same f g (at - from) (clusters (slice at end text)) (some-clusters (slice at end text))
        (λ p after before. same p (omega (arith, count, long, le)))
        ∙ sym (ap (λ (k : ℕ). by_clusters g (at - from) (clusters (slice at k text))) outer)
    by false e =
        let none = is_none e in
        run-none part at end (omega (arith, none)) ∙ sym (run-none whole at end (omega (arith, none)))

  -- and one that goes on after it
  run_agree : (at end : ℕ) → from ≤ at → stop ≤ end → end ≤ to → Agree (run part at stop) (run whole at end)
  run_agree at end started late inside = by (nat_le at stop) refl where
    short : min stop to ≡ stop
    short = omega arith

    outer : min end to ≡ end
    outer = omega arith

    is_more : nat_le at stop ≡ true → at ≤ stop
    is_more e = grind (arith, nat_tests)

    is_none : nat_le at stop ≡ false → stop ≤ at
    is_none e = grind (arith, nat_tests)

    by : (b : Bool) → nat_le at stop ≡ b → Agree (run part at stop) (run whole at end)
    by true e =
        let le = is_more e in
        let agree = pieces_agree g (at - from) _ _ (clusters_agree (slice at stop text) (slice stop end text)) in
        let all : slice at end text ≡ slice at stop text ++ slice stop end text = slice-both at stop end text le late in
        let own : run part at stop ≡ by_clusters g (at - from) (clusters (slice at stop text)) =
        run_same at stop started (omega arith) ∙ ap (λ (k : ℕ). by_clusters g (at - from) (clusters (slice at k text))) short in
        let other : run whole at end ≡ by_clusters g (at - from) (clusters (slice at stop text ++ slice stop end text)) =
        ap (λ (k : ℕ). by_clusters g (at - from) (clusters (slice at k text))) outer ∙ ap (λ (cs : List ℕ). by_clusters g (at - from) (clusters cs)) all in
        agree_is (run part at stop) _ (run whole at end) _ own other agree
    by false e =
        let none = is_none e in
        agree_is (run part at stop) [] (run whole at end) _ (run-none part at stop (omega (arith, none))) refl (agree_none _)

  up_to_same : (at : ℕ) (x : ItemView) → from ≤ at → x.place ≤ stop → up_to part at x ≡ up_to whole at x
  up_to_same at x started early =
      ap (λ (ps : List PieceView). if nat_le at x.place then ps ++ item_piece from style x ∷ [] else []) (run_same at x.place started early)

  -- from the place of the first item after the part on
  late_agree : (at : ℕ) (ys : List ItemView) → from ≤ at → AreLate stop ys → Agree (walked part at []) (walked whole at ys)
  unfolding walked
  late_agree at [] started late = run_agree at to started order (omega arith)
  late_agree at (y ∷ ys) started late = by (nat_le at y.place) refl where
    is_none : nat_le at y.place ≡ false → stop ≤ at
    is_none e =
        let before = not_le at y.place e in
        omega (arith, before, late.0)
      where
        not_le : (a b : ℕ) → nat_le a b ≡ false → b < a
        not_le a b e = grind (arith, nat_tests)

    to_end : min y.place to ≡ min (min y.place to) to
    to_end = omega arith

    clipped : run whole at y.place ≡ run whole at (min y.place to)
    clipped = ap (λ (k : ℕ). by_clusters g (at - from) (clusters (slice at k text))) to_end

    first_run : Agree (run part at stop) (run whole at y.place)
    first_run = agree_is (run part at stop) _ (run whole at y.place) _ refl clipped (run_agree at (min y.place to) started (omega (arith, late.0)) (omega arith))

    by : (b : Bool) → nat_le at y.place ≡ b → Agree (run part at stop) ((if b then run whole at y.place ++ item_piece from style y ∷ [] else []) ++ walked whole (max at y.to) ys)
    by true e =
        agree_is (run part at stop) _ _ _ refl (append_assoc (run whole at y.place) (item_piece from style y ∷ []) (walked whole (max at y.to) ys))
        (agree_after (item_piece from style y ∷ walked whole (max at y.to) ys) (run part at stop) (run whole at y.place) first_run)
    by false e = agree_is (run part at stop) [] _ _ (run-none part at stop (omega (arith, is_none e))) refl (agree_none _)

  -- what is shown of the part item by item, and of the whole
  pub walked_agree : (at : ℕ) (xs ys : List ItemView) → from ≤ at → AreEarly stop xs → AreLate stop ys → Agree (walked part at xs) (walked whole at (xs ++ ys))
  unfolding walked
  walked_agree at [] ys started early late = late_agree at ys started late
  walked_agree at (x ∷ xs) ys started early late =
      agree_is _ _ _ _ (ap (λ (ps : List PieceView). ps ++ walked part (max at x.to) xs) (up_to_same at x started early.0)) refl
      (agree_before (up_to whole at x) (walked part (max at x.to) xs) (walked whole (max at x.to) (xs ++ ys)) (walked_agree (max at x.to) xs ys (omega arith) early.1 late))
