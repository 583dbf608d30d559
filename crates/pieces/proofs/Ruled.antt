-- What is shown item by item is what the rules show.
use Rattle.std.proofs.Common.{◌≡◌, ℕ, zero, suc, ◌+◌, ◌-◌, ◌<◌, ◌≤◌, min, max, Bool, true, false, not, ◌&&◌, ◌||◌, nat_le, nat_lt, List, [], ◌∷◌, ◌++◌, length, take, drop, map, refl, sym, ap, ◌∙◌, append_assoc, arith, length-drop, flat_map, Some, None, if◌then◌else◌}
use Rattle.std.proofs.Math.Seq.{drop-nil, take-nil}
use Rattle.std.proofs.lemmas.List.{drop-drop, length-take}
use Rattle.std.proofs.lemmas.Bool.Decides.{nat_tests}
use Rattle.std.specs.List.{list_any}
use Rattle.std.proofs.lemmas.List.Folds.{list_any-append}
use Rattle.stable_order.proofs.StableSort.{NoneBelow, Rises, Rises-stable_sort, list_any-stable_sort}
use Rattle.std.proofs.lemmas.List.Concat.{flat_map-cons}
use Rattle.range_set.specs.declared.ranged.Ranged.{Ranged}
use Rattle.decoration.specs.declared.deco.Deco.{Deco}
use Rattle.decoration.specs.declared.deco.Deco.TheVariants.{Mark, Widget, Replace, Line}
use Rattle.pieces.specs.ItemOrder.{item_before-order}
use Rattle.pieces.specs.Shading.{touching}
use Rattle.line_tree.specs.Text.{slice}
use Rattle.cells.specs.Layout.{clusters}
use Rattle.pieces.specs.Piece.{PieceView}
use Rattle.pieces.specs.Items.{ItemView, item_before, item_in, item_of, item_piece, items_of, set_items}
use Rattle.pieces.specs.Pieces.{BlockView, by_clusters, cluster_piece, run, up_to, walked}
use Rattle.pieces.specs.Rules.{Placed, by_placed, character_of, drawn_items, hides, is_hidden, parted, reaches_past, ruled, run_clusters, shown}
use Rattle.pieces.proofs.Walks.{AreSome, some-clusters, total, total-clusters}

-- all characters with their places
placed : ℕ → List ℕ → List Placed
placed p [] = []
placed p (c ∷ cs) = record { place = p; character = c } ∷ placed (p + 1) cs

characters-placed : (p : ℕ) (cs : List ℕ) → map character_of (placed p cs) ≡ cs
unfolding placed
characters-placed p [] = refl
characters-placed p (c ∷ cs) = ap (λ (r : List ℕ). c ∷ r) (characters-placed (p + 1) cs)

drop-placed : (k p : ℕ) (cs : List ℕ) → drop k (placed p cs) ≡ placed (p + k) (drop k cs)
unfolding placed
drop-placed zero p cs =
    let same : p ≡ p + zero = omega arith in
    ap (λ (n : ℕ). placed n cs) same
drop-placed (suc k) p [] = refl
drop-placed (suc k) p (c ∷ cs) =
    let same : p + 1 + k ≡ p + suc k = omega arith in
    drop-placed k (p + 1) cs ∙ ap (λ (n : ℕ). placed n (drop k cs)) same

-- the clusters of characters that stand side by side
clusters-placed : (b : BlockView) (at : ℕ) (gs : List (List ℕ)) (cs : List ℕ) → b.from ≤ at → AreSome gs → total gs ≡ length cs → by_placed b gs (placed at cs) ≡ by_clusters b.style_of (at - b.from) gs
unfolding placed by_placed by_clusters
clusters-placed b at [] cs started some long = refl
clusters-placed b at (g ∷ gs) [] started some long = absurd (omega (arith, some.0, long))
clusters-placed b at (g ∷ gs) (c ∷ cs) started some long =
    let rest : drop (length g) (placed at (c ∷ cs)) ≡ placed (at + length g) (drop (length g) (c ∷ cs)) = drop-placed (length g) at (c ∷ cs) in
    let count : total gs ≡ length (drop (length g) (c ∷ cs)) = omega (arith, long, length-drop (length g) (c ∷ cs)) in
    let place : at + length g - b.from ≡ at - b.from + length g = omega arith in
    let more : by_placed b gs (placed (at + length g) (drop (length g) (c ∷ cs))) ≡ by_clusters b.style_of (at + length g - b.from) gs =
    clusters-placed b (at + length g) gs (drop (length g) (c ∷ cs)) (omega arith) some.1 count in
    ap (λ (ps : List PieceView). cluster_piece b.style_of (at - b.from) g ∷ ps)
    (ap (λ (r : List Placed). by_placed b gs r) rest ∙ (more ∙ ap (λ (n : ℕ). by_clusters b.style_of n gs) place))

run-placed : (b : BlockView) (at : ℕ) (cs : List ℕ) → b.from ≤ at → run_clusters b (placed at cs) ≡ by_clusters b.style_of (at - b.from) (clusters cs)
run-placed b at cs started =
    rw (characters-placed at cs) (clusters-placed b at (clusters cs) cs started (some-clusters cs) (total-clusters cs))

-- hidden characters first, and shown ones after them
shown-placed : (hidden : ℕ → Bool) (p k at : ℕ) (cs : List ℕ) → p + k ≡ at → ((q : ℕ) → p ≤ q → q < at → hidden q ≡ true) → ((q : ℕ) → at ≤ q → q < p + length cs → hidden q ≡ false) → shown hidden p cs ≡ placed at (drop k cs)
unfolding shown placed
shown-placed hidden p k at [] sum hid seen = rw (drop-nil k) refl
shown-placed hidden p zero at (c ∷ cs) sum hid seen =
    let here : p ≡ at = omega arith in
    let open_here : hidden p ≡ false = seen p (omega arith) (omega arith) in
    let more : shown hidden (p + 1) cs ≡ placed (p + 1) (drop 0 cs) =
    shown-placed hidden (p + 1) 0 (p + 1) cs (omega arith) (λ q starts before. absurd (omega arith)) (λ q starts before. seen q (omega arith) (omega arith)) in
    rw (open_here, more, ← here) refl
shown-placed hidden p (suc k) at (c ∷ cs) sum hid seen =
    let hid_here : hidden p ≡ true = hid p (omega arith) (omega arith) in
    rw hid_here (shown-placed hidden (p + 1) k at cs (omega arith) (λ q starts before. hid q (omega arith) before) (λ q starts before. seen q starts (omega arith)))

drop-take-less : (k n : ℕ) (xs : List ℕ) → drop k (take n xs) ≡ take (n - k) (drop k xs)
drop-take-less zero n xs =
    let same : n ≡ n - 0 = omega arith in
    ap (λ (m : ℕ). take m xs) same
drop-take-less (suc k) zero xs =
    let none : zero - suc k ≡ 0 = omega arith in
    rw none refl
drop-take-less (suc k) (suc n) [] = rw (take-nil (suc n - suc k)) refl
drop-take-less (suc k) (suc n) (x ∷ xs) =
    let same : n - k ≡ suc n - suc k = omega arith in
    drop-take-less k n xs ∙ ap (λ (m : ℕ). take m (drop k xs)) same

drop-slice : (p at e : ℕ) (text : List ℕ) → p ≤ at → drop (at - p) (slice p e text) ≡ slice at e text
drop-slice p at e text le =
    let sum : p + (at - p) ≡ at = omega arith in
    let less : e - p - (at - p) ≡ e - at = omega arith in
    drop-take-less (at - p) (e - p) (drop p text)
    ∙ (ap (λ (m : ℕ). take m (drop (at - p) (drop p text))) less ∙ ap (λ (xs : List ℕ). take (e - at) xs) (drop-drop (at - p) p text ∙ ap (λ (m : ℕ). drop m text) sum))

take-take-min : (m n : ℕ) (xs : List ℕ) → take m (take n xs) ≡ take (min m n) xs
take-take-min zero n xs =
    let none : min zero n ≡ 0 = omega arith in
    rw none refl
take-take-min (suc m) zero xs =
    let none : min (suc m) zero ≡ 0 = omega arith in
    rw none refl
take-take-min (suc m) (suc n) [] = rw (take-nil (min (suc m) (suc n))) refl
take-take-min (suc m) (suc n) (x ∷ xs) =
    let more : min (suc m) (suc n) ≡ suc (min m n) = omega arith in
    rw more (ap (λ (r : List ℕ). x ∷ r) (take-take-min m n xs))

take-slice : (p q e : ℕ) (text : List ℕ) → p ≤ q → take (q - p) (slice p e text) ≡ slice p (min q e) text
take-slice p q e text le =
    let less : min (q - p) (e - p) ≡ min q e - p = omega arith in
    take-take-min (q - p) (e - p) (drop p text) ∙ ap (λ (m : ℕ). take m (drop p text)) less

-- what is shown of the characters from p to before e, of which those before `at` are hidden
run-shown : (b : BlockView) (hidden : ℕ → Bool) (p at e : ℕ) (cs : List ℕ) → b.from ≤ at → p ≤ at → cs ≡ slice p e b.text → length cs ≤ e - p → ((q : ℕ) → p ≤ q → q < at → hidden q ≡ true) → ((q : ℕ) → at ≤ q → q < e → hidden q ≡ false) → run_clusters b (shown hidden p cs) ≡ by_clusters b.style_of (at - b.from) (clusters (slice at e b.text))
run-shown b hidden p at e cs started le is short hid seen =
    let placing : shown hidden p cs ≡ placed at (drop (at - p) cs) =
    shown-placed hidden p (at - p) at cs (omega arith) hid (λ q starts before. seen q starts (omega arith)) in
    let rest : drop (at - p) cs ≡ slice at e b.text = ap (λ (xs : List ℕ). drop (at - p) xs) is ∙ drop-slice p at e b.text le in
    ap (λ (r : List Placed). run_clusters b r) (placing ∙ ap (λ (xs : List ℕ). placed at xs) rest) ∙ run-placed b at (slice at e b.text) started

-- an item that doesn't start before another hides no character before that
hides-later : (x y : ItemView) (q : ℕ) → item_before y x ≡ false → q < x.place → hides q y ≡ false
hides-later x y q order before = grind (arith, nat_tests)

none_hides : (x : ItemView) (xs : List ItemView) (q : ℕ) → NoneBelow item_before x xs → q < x.place → is_hidden xs q ≡ false
none_hides x [] q order before = refl
none_hides x (y ∷ ys) q order before = rw (hides-later x y q order.0 before) (none_hides x ys q order.1 before)

hides-own : (x : ItemView) (q : ℕ) → x.place ≤ q → q < x.to → hides q x ≡ true
hides-own x q starts before = grind (arith, nat_tests)

hides-not : (x : ItemView) (q : ℕ) → x.to ≤ q → hides q x ≡ false
hides-not x q past = grind (arith, nat_tests)

hides-before : (x : ItemView) (q : ℕ) → q < x.place → hides q x ≡ false
hides-before x q before = grind (arith, nat_tests)

-- how far the items so far reach
reach-more : (from at z t : ℕ) (any : Bool) → (nat_le from z && not any) ≡ nat_le at z → (nat_le from z && not (nat_lt z t || any)) ≡ nat_le (max at t) z
reach-more from at z t true is = by (nat_le from z) refl is where
  by : (b : Bool) → nat_le from z ≡ b → (b && not true) ≡ nat_le at z → (b && not (nat_lt z t || true)) ≡ nat_le (max at t) z
  by true e h = grind (arith, nat_tests)
  by false e h = grind (arith, nat_tests)
reach-more from at z t false is = grind (arith, nat_tests)

-- what stands between the walk and the rules: p is the last drawn item's place, `at` how far the items so far reach
record Between (b : BlockView) (hidden : ℕ → Bool) (p at : ℕ) (cs : List ℕ) (before xs : List ItemView) : Type 0 where
  started : b.from ≤ at
  order : p ≤ at
  text : cs ≡ slice p b.to b.text
  hid : (q : ℕ) → p ≤ q → q < at → hidden q ≡ true
  left : (q : ℕ) → at ≤ q → hidden q ≡ is_hidden xs q
  reach : (z : ℕ) → (nat_le b.from z && not (list_any (reaches_past z) before)) ≡ nat_le at z

length-slice-le : (p e : ℕ) (text : List ℕ) → length (slice p e text) ≤ e - p
length-slice-le p e text = omega (arith, length-take (e - p) (drop p text))

at_end : (b : BlockView) (hidden : ℕ → Bool) (p at : ℕ) (cs : List ℕ) (before : List ItemView) → Between b hidden p at cs before [] → run b at b.to ≡ run_clusters b (shown hidden p cs)
at_end b hidden p at cs before s =
    let all : min b.to b.to ≡ b.to = omega arith in
    let short : length cs ≤ b.to - p = omega (arith, ap length s.text, length-slice-le p b.to b.text) in
    let same = run-shown b hidden p at b.to cs s.started s.order s.text short s.hid (λ q starts before. s.left q starts) in
    rw all (sym same)

up_to_item : (b : BlockView) (hidden : ℕ → Bool) (p at : ℕ) (cs : List ℕ) (before : List ItemView) (x : ItemView) (xs : List ItemView) → NoneBelow item_before x xs → at ≤ x.place → Between b hidden p at cs before (x ∷ xs) → run b at x.place ≡ run_clusters b (shown hidden p (take (x.place - p) cs))
up_to_item b hidden p at cs before x xs order le s =
    let part : take (x.place - p) cs ≡ slice p (min x.place b.to) b.text = ap (λ (t : List ℕ). take (x.place - p) t) s.text ∙ take-slice p x.place b.to b.text (omega (arith, s.order)) in
    let short : length (take (x.place - p) cs) ≤ min x.place b.to - p = omega (arith, ap length part, length-slice-le p (min x.place b.to) b.text) in
    let none : (q : ℕ) → at ≤ q → q < min x.place b.to → hidden q ≡ false =
    λ q starts early. s.left q starts ∙ (rw (hides-before x q (omega arith)) (none_hides x xs q order (omega arith))) in
    sym (run-shown b hidden p at (min x.place b.to) (take (x.place - p) cs) s.started s.order part short s.hid none)

pass_item : (b : BlockView) (hidden : ℕ → Bool) (p at : ℕ) (cs : List ℕ) (before : List ItemView) (x : ItemView) (xs : List ItemView) (p2 : ℕ) (cs2 : List ℕ) → p2 ≤ max at x.to → cs2 ≡ slice p2 b.to b.text → ((q : ℕ) → p2 ≤ q → q < max at x.to → hidden q ≡ true) → Between b hidden p at cs before (x ∷ xs) → Between b hidden p2 (max at x.to) cs2 (x ∷ before) xs
pass_item b hidden p at cs before x xs p2 cs2 le is hid s = record {
  started = omega (arith, s.started);
  order = le;
  text = is;
  hid = hid;
  left = λ q starts. s.left q (omega arith) ∙ (rw (hides-not x q (omega arith)) refl);
  reach = λ z. reach-more b.from at z x.to (list_any (reaches_past z) before) (s.reach z);
}

-- an item that ends before it starts, which none does
abbrev turned : ItemView → Bool
turned x = nat_lt x.to x.place

first_forward : (x : ItemView) (more : Bool) → (turned x || more) ≡ false → x.place ≤ x.to
first_forward x more none = by (turned x) refl none where
  by : (t : Bool) → turned x ≡ t → (t || more) ≡ false → x.place ≤ x.to
  by true e none = cc
  by false e none = grind (arith, nat_tests)

others_forward : (t more : Bool) → (t || more) ≡ false → more ≡ false
others_forward true more none = cc
others_forward false more none = none

walk_ruled : (b : BlockView) (hidden : ℕ → Bool) (p at : ℕ) (cs : List ℕ) (before xs : List ItemView) → list_any turned xs ≡ false → Rises item_before xs → Between b hidden p at cs before xs → walked b at xs ≡ parted b hidden p cs (drawn_items b.from before xs)
unfolding walked parted drawn_items
walk_ruled b hidden p at cs before [] forward rises s = at_end b hidden p at cs before s
walk_ruled b hidden p at cs before (x ∷ xs) forward rises s =
    let others = others_forward (turned x) (list_any turned xs) forward in
    let place = first_forward x (list_any turned xs) forward in
    by (nat_le at x.place) refl
    (λ le. walk_ruled b hidden x.place (max at x.to) (drop (x.place - p) cs) (x ∷ before) xs others rises.1
    (pass_item b hidden p at cs before x xs x.place (drop (x.place - p) cs) (omega (arith, place))
    (ap (λ (t : List ℕ). drop (x.place - p) t) s.text ∙ drop-slice p x.place b.to b.text (omega (arith, s.order)))
    (λ q starts early. s.left q (omega arith) ∙ (rw (hides-own x q starts (omega arith)) refl)) s))
    (λ less. walk_ruled b hidden p (max at x.to) cs (x ∷ before) xs others rises.1
    (pass_item b hidden p at cs before x xs p cs (omega (arith, s.order)) s.text (λ q starts early. hid_on q starts early less) s))
  where
    hid_on : (q : ℕ) → p ≤ q → q < max at x.to → x.place < at → hidden q ≡ true
    hid_on q starts early less = on (nat_lt q at) refl where
      on : (t : Bool) → nat_lt q at ≡ t → hidden q ≡ true
      on true e = s.hid q starts (grind (arith, nat_tests))
      on false e =
          let past : at ≤ q = grind (arith, nat_tests) in
          s.left q past ∙ (rw (hides-own x q (omega arith) (omega arith)) refl)

    is_le : nat_le at x.place ≡ true → at ≤ x.place
    is_le e = grind (arith, nat_tests)

    is_less : nat_le at x.place ≡ false → x.place < at
    is_less e = grind (arith, nat_tests)

    by : (t : Bool) → nat_le at x.place ≡ t
        → (at ≤ x.place → walked b (max at x.to) xs ≡ parted b hidden x.place (drop (x.place - p) cs) (drawn_items b.from (x ∷ before) xs))
        → (x.place < at → walked b (max at x.to) xs ≡ parted b hidden p cs (drawn_items b.from (x ∷ before) xs))
        → up_to b at x ++ walked b (max at x.to) xs ≡ parted b hidden p cs ((if nat_le b.from x.place && not (list_any (reaches_past x.place) before) then x ∷ [] else []) ++ drawn_items b.from (x ∷ before) xs)
    by true e drawn passed =
        let le = is_le e in
        let test : (nat_le b.from x.place && not (list_any (reaches_past x.place) before)) ≡ true = s.reach x.place ∙ e in
        let piece = item_piece b.from b.style x in
        rw (e, test) (append_assoc (run b at x.place) (piece ∷ []) (walked b (max at x.to) xs)
        ∙ (rw (up_to_item b hidden p at cs before x xs rises.0 le s, drawn le) refl))
    by false e drawn passed =
        let test : (nat_le b.from x.place && not (list_any (reaches_past x.place) before)) ≡ false = s.reach x.place ∙ e in
        rw (e, test) (passed (is_less e))

reach-none : (from z : ℕ) → (nat_le from z && not false) ≡ nat_le from z
reach-none from z = by (nat_le from z) where
  by : (b : Bool) → (b && not false) ≡ b
  by true = refl
  by false = refl

-- the pieces of a block are those of the rules
pub walked-ruled : (b : BlockView) (items : List ItemView) → list_any turned items ≡ false → Rises item_before items → walked b b.from items ≡ ruled b items
walked-ruled b items forward rises =
    walk_ruled b (is_hidden items) b.from b.from (slice b.from b.to b.text) [] items forward rises
    (record {
      started = omega arith;
      order = omega arith;
      text = refl;
      hid = λ q starts early. absurd (omega arith);
      left = λ q starts. refl;
      reach = λ z. reach-none b.from z;
    })

forward-in : (from : ℕ) (d : Deco) (place to : ℕ) → list_any turned (item_in from d place to) ≡ false
forward-in from (Mark m) place to = refl
forward-in from (Line style) place to = refl
forward-in from (Widget w) place to = by (nat_le from place) where
  own : (nat_lt place place || false) ≡ false
  own = grind (arith, nat_tests)

  by : (t : Bool) → list_any turned (if t then record { place = place; to = place; side = Some w.side; text = w.text; style = w.style } ∷ [] else []) ≡ false
  by true = own
  by false = refl
forward-in from (Replace r) place to = by (nat_lt place to) refl where
  own : nat_lt place to ≡ true → (nat_lt to place || false) ≡ false
  own e = grind (arith, nat_tests)

  by : (t : Bool) → nat_lt place to ≡ t → list_any turned (if t then record { place = place; to = to; side = None; text = r.text; style = r.style } ∷ [] else []) ≡ false
  by true e = own e
  by false e = refl

any-flat : {X : Type 0} (f : X → List ItemView) (xs : List X) → ((x : X) → list_any turned (f x) ≡ false) → list_any turned (flat_map f xs) ≡ false
any-flat f [] none = refl
any-flat f (x ∷ xs) none =
    ap (λ (ys : List ItemView). list_any turned ys) (flat_map-cons f x xs)
    ∙ (list_any-append turned (f x) (flat_map f xs) ∙ (rw (none x) (any-flat f xs none)))

-- the items of a block in their order
pub items-forward : (from to : ℕ) (layers : List (List (Ranged Deco))) → list_any turned (items_of from to layers) ≡ false
items-forward from to layers =
    list_any-stable_sort item_before turned (flat_map (set_items from to) layers)
    ∙ any-flat (set_items from to) layers
    (λ set. any-flat (item_of from) (touching from to set) (λ d. forward-in from d.value d.from d.to))

pub items-rise : (from to : ℕ) (layers : List (List (Ranged Deco))) → Rises item_before (items_of from to layers)
items-rise from to layers = Rises-stable_sort item_before item_before-order (flat_map (set_items from to) layers)
