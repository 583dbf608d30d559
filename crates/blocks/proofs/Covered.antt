-- The breaks that a replacement covers, by the numbers of its lines.
use Rattle.std.proofs.Common.{◌≡◌, ℕ, zero, suc, ◌+◌, ◌-◌, ◌<◌, ◌≤◌, min, Bool, true, false, not, cond, ◌||◌, ◌&&◌, nat_le, nat_lt, List, [], ◌∷◌, ◌++◌, length, refl, sym, ap, ◌∙◌, arith}
use Rattle.std.specs.Prelude.{slice_get, ◌==◌, Some}
use Rattle.std.specs.List.{list_any, onto_first}
use Rattle.std.proofs.lemmas.Bool.Decides.{nat_tests}
use Rattle.std.proofs.lemmas.List.Folds.{list_any-append}
use Rattle.range_set.specs.declared.ranged.Ranged.{Ranged}
use Rattle.range_set.specs.Points.{points_of, stands}
use Rattle.decoration.specs.declared.deco.Deco.{Deco}
use Rattle.decoration.specs.declared.deco.Deco.TheVariants as deco
use Rattle.decoration.specs.Sides.{deco_rules, is_point}
use Rattle.line_tree.specs.declared.line.Line as lines
use Rattle.line_tree.specs.Text.{line_feed}
use Rattle.line_tree.specs.Lines.{numbered, line_texts, lines_of, IsLineOf}
use Rattle.stable_order.proofs.StableSort.{NoneBelow, Rises}
use Rattle.blocks.specs.Hiding.{blocks_after, hides, is_between, is_replacement, joined_lines}
use Rattle.blocks.specs.Joins.{AreRanges, covers, is_wrong}
use Rattle.blocks.specs.declared.line_range.LineRange.{LineRange}
use Rattle.blocks.proofs.Lines.{IsNumbered, begins_by, lines_apart, lines_numbered, line_of, line_order, line_positive, line_within}

-- how many characters lines have together, with a break after each
extent : List (List ℕ) → ℕ
extent [] = 0
extent (part ∷ parts) = length part + 1 + extent parts

some_part : (cs : List ℕ) → 0 < length (line_texts cs)
some_part [] = omega arith
some_part (c ∷ cs) = at (c == line_feed) where
  onto_some : (parts : List (List ℕ)) → 0 < length (onto_first c parts)
  onto_some [] = omega arith
  onto_some (part ∷ parts) = omega arith

  at : (b : Bool) → 0 < length (cond b ([] ∷ line_texts cs) (onto_first c (line_texts cs)))
  at true = omega arith
  at false = onto_some (line_texts cs)

lengths : (n f : ℕ) (ls : List (List ℕ)) → length (numbered n f ls) ≡ length ls
lengths n f [] = refl
lengths n f (x ∷ xs) = ap suc (lengths (n + 1) (f + length x + 1) xs)

-- a text has a line
pub some_line : (text : List ℕ) → 0 < length (lines_of text)
some_line text = omega (arith, lengths 1 0 (line_texts text), some_part text)

extent_onto : (c : ℕ) (parts : List (List ℕ)) → 0 < length parts → extent (onto_first c parts) ≡ extent parts + 1
unfolding extent
extent_onto c [] h = absurd (omega arith)
extent_onto c (part ∷ parts) h = omega arith

extent-parts : (text : List ℕ) → extent (line_texts text) ≡ length text + 1
unfolding extent
extent-parts [] = refl
extent-parts (c ∷ cs) = at (extent-parts cs) (c == line_feed)
  where
    at : extent (line_texts cs) ≡ length cs + 1 → (b : Bool) → extent (cond b ([] ∷ line_texts cs) (onto_first c (line_texts cs))) ≡ length (c ∷ cs) + 1
    at e true = omega (arith, e)
    at e false = omega (arith, e, extent_onto c (line_texts cs) (some_part cs))

ends_in : (n f : ℕ) (ls : List (List ℕ)) (k : ℕ) (l : lines.Line) → slice_get (numbered n f ls) k ≡ Some l → l.to < f + extent ls
unfolding extent
ends_in n f [] k l is = cc
ends_in n f (x ∷ xs) zero l is =
    let to : f + length x ≡ l.to = cc in
    omega (arith, to)
ends_in n f (x ∷ xs) (suc k) l is =
    let more = ends_in (n + 1) (f + length x + 1) xs k l is in
    omega (arith, more)

-- a line that isn't the last ends before the text does
pub ends_before : (text : List ℕ) (l : lines.Line) → IsLineOf text l → l.number < length (lines_of text) → l.to < length text
ends_before text l is more =
    let next = line_of (lines_of text) (lines_numbered text) (l.number + 1) (omega arith) (omega (arith, more)) in
    let apart = lines_apart text l next.line is next.is (omega (arith, next.number)) in
    let order = line_order text next.line next.is in
    let within = ends_in 1 0 (line_texts text) (next.line.number - 1) next.line next.is in
    let all = extent-parts text in
    omega (arith, apart, order, within, all)

le_or_lt : (a b : ℕ) → nat_le a b ≡ true → a ≤ b
le_or_lt a b h = grind (arith, nat_tests, h)

-- tests that hold of each other
same_tests : (a b c d : ℕ) → (a ≤ b → c ≤ d) → (b < a → d < c) → nat_le a b ≡ nat_le c d
same_tests a b c d there back = at (nat_le a b) refl
  where
    yes_is : a ≤ b → nat_le a b ≡ nat_le c d
    yes_is h = let k : c ≤ d = there h in grind (arith, nat_tests, h, k)

    no_is : b < a → nat_le a b ≡ nat_le c d
    no_is h = let k : d < c = back h in grind (arith, nat_tests, h, k)

    no_le : nat_le a b ≡ false → b < a
    no_le h = grind (arith, nat_tests, h)

    at : (t : Bool) → nat_le a b ≡ t → nat_le a b ≡ nat_le c d
    at true h = yes_is (le_or_lt a b h)
    at false h = no_is (no_le h)

lt_is : (a b : ℕ) → nat_lt a b ≡ not (nat_le b a)
lt_is a b = grind (arith, nat_tests)

pub cover_same : (text : List ℕ) (a b l : lines.Line) (from to t : ℕ) → IsLineOf text a → IsLineOf text b → IsLineOf text l → l.number < length (lines_of text) → a.from ≤ from → from ≤ a.to → t ≡ min to (length text) → b.from ≤ t → t ≤ b.to → is_between a.number b.number l.number ≡ is_between from to l.to
cover_same text a b l from to t is_a is_b is_l more starts ends cut begins stops =
    let inside = ends_before text l is_l more in
    let left : nat_le a.number l.number ≡ nat_le from l.to =
    same_tests a.number l.number from l.to
    (λ h. let by = (begins_by text a l is_a is_l h).1 in omega (arith, by, ends))
    (λ h. let by = lines_apart text l a is_l is_a h in omega (arith, by, starts)) in
    let right : nat_le b.number l.number ≡ nat_le to l.to =
    same_tests b.number l.number to l.to
    (λ h. let by = (begins_by text b l is_b is_l h).1 in omega (arith, by, stops, cut, inside))
    (λ h. let by = lines_apart text l b is_l is_b h in omega (arith, by, begins, cut)) in
    let first : nat_lt l.number b.number ≡ nat_lt l.to to = lt_is l.number b.number ∙ (ap not right ∙ sym (lt_is l.to to)) in
    rw (left, first) refl

or_none : (x b : Bool) → b ≡ false → x ≡ (x || b)
or_none true b e = refl
or_none false b e = sym e

-- what isn't a replacement hides nothing
pub not_hidden : (x : Bool) (p : ℕ) (d : Ranged Deco) → is_replacement d.value ≡ false → x ≡ (x || hides p d)
not_hidden x p d other = or_none x (hides p d) (rw other refl)

and_false : (a : Bool) → (a && false) ≡ false
and_false true = refl
and_false false = refl

-- what starts after the text covers no break of it
pub past_end : (text : List ℕ) (x : Bool) (l : lines.Line) (d : Ranged Deco) → IsLineOf text l → l.number < length (lines_of text) → length text < d.from → x ≡ (x || hides l.to d)
past_end text x l d is more past =
    let inside = ends_before text l is more in
    let late : is_between d.from d.to l.to ≡ false = earlier d.from d.to l.to (omega (arith, inside, past)) in
    or_none x (hides l.to d) (ap (λ b. is_replacement d.value && b) late ∙ and_false (is_replacement d.value))
  where
    earlier : (from to p : ℕ) → p < from → is_between from to p ≡ false
    earlier from to p before = grind (arith, nat_tests)

-- a replacement whose ends stand in one line covers no break
pub one_line : (text : List ℕ) (x : Bool) (a b l : lines.Line) (d : Ranged Deco) (t : ℕ) → is_replacement d.value ≡ true → IsLineOf text a → IsLineOf text b → IsLineOf text l → l.number < length (lines_of text) → a.from ≤ d.from → d.from ≤ a.to → t ≡ min d.to (length text) → b.from ≤ t → t ≤ b.to → b.number ≤ a.number → x ≡ (x || hides l.to d)
one_line text x a b l d t holds is_a is_b is_l more starts ends cut begins stops order =
    let same = cover_same text a b l d.from d.to t is_a is_b is_l more starts ends cut begins stops in
    or_none x (hides l.to d) (rw holds (sym same ∙ none a.number b.number l.number order))
  where
    none : (from to p : ℕ) → to ≤ from → is_between from to p ≡ false
    none from to p order = grind (arith, nat_tests)

pub some_lines : (text : List ℕ) (rs now : List LineRange) (a b l : lines.Line) (d : Ranged Deco) (t : ℕ) → now ≡ rs ++ (record { first = a.number; last = b.number }) ∷ [] → is_replacement d.value ≡ true → IsLineOf text a → IsLineOf text b → IsLineOf text l → l.number < length (lines_of text) → a.from ≤ d.from → d.from ≤ a.to → t ≡ min d.to (length text) → b.from ≤ t → t ≤ b.to → list_any (covers l.number) now ≡ (list_any (covers l.number) rs || hides l.to d)
some_lines text rs now a b l d t is holds is_a is_b is_l more starts ends cut begins stops =
    let same = cover_same text a b l d.from d.to t is_a is_b is_l more starts ends cut begins stops in
    rw is (list_any-append (covers l.number) rs _ ∙ ap (λ b. list_any (covers l.number) rs || b) (sym (or_none _ false refl) ∙ (rw holds same)))

pub none_wrong : (text : List ℕ) (rs now : List LineRange) (a b : lines.Line) → now ≡ rs ++ (record { first = a.number; last = b.number }) ∷ [] → IsLineOf text a → IsLineOf text b → a.number < b.number → list_any (is_wrong (length (lines_of text))) now ≡ list_any (is_wrong (length (lines_of text))) rs
none_wrong text rs now a b is is_a is_b order =
    let some = line_positive text a is_a in
    let within = line_within text b is_b in
    let right = fine a.number b.number (length (lines_of text)) some order within in
    rw is (list_any-append (is_wrong (length (lines_of text))) rs _ ∙ sym (or_none _ _ (sym (or_none _ false refl) ∙ right)))
  where
    fine : (f l n : ℕ) → 0 < f → f < l → l ≤ n → (nat_lt f 1 || nat_le l f || nat_lt n l) ≡ false
    fine f l n some order within = grind (arith, nat_tests)

-- ranges none of which begins before a line
abbrev pub Low : ℕ → List LineRange → Type 0
Low n [] = Unit {0}
Low n (r ∷ rs) = (n ≤ r.first) × Low n rs

pub or_parts : (a b : Bool) → (a || b) ≡ false → (a ≡ false) × (b ≡ false)
or_parts true b e = cc
or_parts false b e = (refl, e)

right_range : (n : ℕ) (r : LineRange) → is_wrong n r ≡ false → (1 ≤ r.first) × (r.first < r.last) × (r.last ≤ n)
right_range n r right =
    let one = or_parts (nat_lt r.first 1 || nat_le r.last r.first) (nat_lt n r.last) right in
    let two = or_parts (nat_lt r.first 1) (nat_le r.last r.first) one.0 in
    (at_least r.first two.0, less r.last r.first two.1, at_most n r.last one.1)
  where
    at_least : (a : ℕ) → nat_lt a 1 ≡ false → 1 ≤ a
    at_least a h = grind (arith, nat_tests, h)

    less : (a b : ℕ) → nat_le a b ≡ false → b < a
    less a b h = grind (arith, nat_tests, h)

    at_most : (a b : ℕ) → nat_lt a b ≡ false → b ≤ a
    at_most a b h = grind (arith, nat_tests, h)

low_one : (n : ℕ) (rs : List LineRange) → list_any (is_wrong n) rs ≡ false → Low 1 rs
low_one n [] right = tt
low_one n (r ∷ rs) right =
    let parts = or_parts (is_wrong n r) _ right in
    ((right_range n r parts.0).0, low_one n rs parts.1)

abbrev pub by_first : LineRange → LineRange → Bool
by_first a b = nat_lt a.first b.first

low_from : (r : LineRange) (rs : List LineRange) → NoneBelow by_first r rs → Low r.first rs
low_from r [] none = tt
low_from r (x ∷ xs) none = (not_less x.first r.first none.0, low_from r xs none.1)
  where
    not_less : (a b : ℕ) → nat_lt a b ≡ false → b ≤ a
    not_less a b h = grind (arith, nat_tests, h)

ranges_from : (n m : ℕ) (rs : List LineRange) → Low m rs → Rises by_first rs → list_any (is_wrong n) rs ≡ false → AreRanges n m rs
ranges_from n m [] low rises right = tt
ranges_from n m (r ∷ rs) low rises right =
    let parts = or_parts (is_wrong n r) _ right in
    let range = right_range n r parts.0 in
    (low.0, range.1, range.2, ranges_from n r.first rs (low_from r rs rises.0) rises.1 parts.1)

pub are_ranges : (n : ℕ) (rs : List LineRange) → Rises by_first rs → list_any (is_wrong n) rs ≡ false → AreRanges n 1 rs
are_ranges n rs rises right = ranges_from n 1 rs (low_one n rs right) rises right

-- equal tests of all lines but the last give equal blocks
after_same : (P Q : lines.Line → Bool) (block last : lines.Line) (rest : List lines.Line) → ((i : ℕ) (l : lines.Line) → slice_get (last ∷ rest) i ≡ Some l → i < length rest → P l ≡ Q l) → blocks_after P block last rest ≡ blocks_after Q block last rest
unfolding blocks_after
after_same P Q block last [] same = refl
after_same P Q block last (line ∷ rest) same =
    let here : P last ≡ Q last = same 0 last refl (omega arith) in
    let joined = after_same P Q (record { number = block.number; from = block.from; to = line.to }) line rest (λ i l is inside. same (suc i) l is (omega arith)) in
    let apart = after_same P Q (record { number = block.number + 1; from = line.from; to = line.to }) line rest (λ i l is inside. same (suc i) l is (omega arith)) in
    rw (here, joined, apart) refl

pub blocks_same : (P Q : lines.Line → Bool) (ls : List lines.Line) → IsNumbered ls → ((l : lines.Line) → slice_get ls (l.number - 1) ≡ Some l → l.number < length ls → P l ≡ Q l) → joined_lines P ls ≡ joined_lines Q ls
blocks_same P Q [] numbered same = refl
blocks_same P Q (x ∷ xs) numbered same =
    after_same P Q x x xs (λ i l is inside.
    let number = numbered i l is in
    let place : l.number - 1 ≡ i = omega (arith, number) in
    same l (ap (slice_get (x ∷ xs)) place ∙ is) (omega (arith, number, inside)))

-- a range that hides something stands for what it covers
stands_or_shows : (p : ℕ) (r : Ranged Deco) → stands deco_rules r ≡ false → hides p r ≡ false
stands_or_shows p r h = at r.value h
  where
    at : (d : Deco) → is_point d ≡ false → (is_replacement d && is_between r.from r.to p) ≡ false
    at (deco.Mark m) h = refl
    at (deco.Widget w) h = refl
    at (deco.Replace q) h = cc
    at (deco.Line s) h = refl

pub hidden_by_points : (p : ℕ) (rs : List (Ranged Deco)) → list_any (hides p) (points_of deco_rules rs) ≡ list_any (hides p) rs
hidden_by_points p [] = refl
hidden_by_points p (r ∷ rs) = at (stands deco_rules r) refl (hidden_by_points p rs)
  where
    at : (b : Bool) → stands deco_rules r ≡ b → list_any (hides p) (points_of deco_rules rs) ≡ list_any (hides p) rs
        → list_any (hides p) (cond b (r ∷ points_of deco_rules rs) (points_of deco_rules rs)) ≡ (hides p r || list_any (hides p) rs)
    at true e k = ap (λ b. hides p r || b) k
    at false e k = k ∙ sym (ap (λ b. b || list_any (hides p) rs) (stands_or_shows p r e))
