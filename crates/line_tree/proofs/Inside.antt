-- A list that stands inside another: before it stands `a`, after it `b`.
use Rattle.std.proofs.Common.{◌≡◌, ℕ, zero, suc, ◌+◌, ◌-◌, ◌<◌, ◌≤◌, min, List, [], ◌∷◌, ◌++◌, length, get_or, take, drop, refl, sym, ◌∙◌, ap, arith, length-append}
use Rattle.std.proofs.lemmas.List.{take_all, take_min, drop_min, take_rest, take-append-le, drop-append-le, take-take, length-drop, get_or-append-add, get_or_append_left}
use Rattle.line_tree.specs.Breaks.{count_breaks, IsBreakAt}
use Rattle.line_tree.proofs.Counts.{count-append}

pub take_past : (a b : List ℕ) (n : ℕ) → length a ≤ n → take n (a ++ b) ≡ a ++ take (n - length a) b
take_past [] b n h = ap (λ k. take k b) (let e : n ≡ n - 0 = omega arith in e)
take_past (x ∷ a) b zero h = absurd (omega arith)
take_past (x ∷ a) b (suc n) h = ap (λ r. x ∷ r) (take_past a b n (omega arith) ∙ ap (λ k. a ++ take k b) (let e : n - length a ≡ suc n - length (x ∷ a) = omega arith in e))

pub drop_past : (a b : List ℕ) (n : ℕ) → length a ≤ n → drop n (a ++ b) ≡ drop (n - length a) b
drop_past [] b n h = ap (λ k. drop k b) (let e : n ≡ n - 0 = omega arith in e)
drop_past (x ∷ a) b zero h = absurd (omega arith)
drop_past (x ∷ a) b (suc n) h = drop_past a b n (omega arith) ∙ ap (λ k. drop k b) (let e : n - length a ≡ suc n - length (x ∷ a) = omega arith in e)

pub take_inside : (a v b : List ℕ) (n : ℕ) → length a ≤ n → n ≤ length a + length v → take n (a ++ (v ++ b)) ≡ a ++ take (n - length a) v
take_inside a v b n low high =
    let short : n - length a ≤ length v = omega arith in
    take_past a (v ++ b) n low ∙ ap (λ r. a ++ r) (take-append-le (n - length a) v b short)

pub drop_inside : (a v b : List ℕ) (n : ℕ) → length a ≤ n → n ≤ length a + length v → drop n (a ++ (v ++ b)) ≡ drop (n - length a) v ++ b
drop_inside a v b n low high =
    let short : n - length a ≤ length v = omega arith in
    drop_past a (v ++ b) n low ∙ drop-append-le (n - length a) v b short

pub count_inside : (a v b : List ℕ) (n : ℕ) → length a ≤ n → n ≤ length a + length v → count_breaks (take n (a ++ (v ++ b))) ≡ count_breaks a + count_breaks (take (n - length a) v)
count_inside a v b n low high = ap count_breaks (take_inside a v b n low high) ∙ count-append a (take (n - length a) v)

pub length_inside : (a v b : List ℕ) → length (a ++ (v ++ b)) ≡ length a + (length v + length b)
length_inside a v b = length-append a (v ++ b) ∙ ap (λ n. length a + n) (length-append v b)

pub count_all : (a v b : List ℕ) → count_breaks (a ++ (v ++ b)) ≡ count_breaks a + (count_breaks v + count_breaks b)
count_all a v b = count-append a (v ++ b) ∙ ap (λ n. count_breaks a + n) (count-append v b)

-- a break of the inner list is one of the whole
pub break_inside : (a v b : List ℕ) (k q : ℕ) → IsBreakAt v k q → IsBreakAt (a ++ (v ++ b)) (count_breaks a + k) (length a + q)
break_inside a v b k q is =
    let within : q < length v = is.within in
    let offset : length a + q - length a ≡ q = omega arith in
    record {
      within = omega (arith, length_inside a v b);
      there = get_or-append-add a (v ++ b) q 0 ∙ get_or_append_left v b 0 q within ∙ is.there;
      others = count_inside a v b (length a + q) (omega arith) (omega arith) ∙ ap (λ n. count_breaks a + count_breaks (take n v)) offset ∙ ap (λ n. count_breaks a + n) is.others;
    }

-- the break after the inner list
pub break_after : (a v b : List ℕ) → IsBreakAt (a ++ (v ++ 10 ∷ b)) (count_breaks a + count_breaks v) (length a + length v)
break_after a v b =
    let offset : length a + length v - length a ≡ length v = omega arith in
    record {
      within = omega (arith, length_inside a v (10 ∷ b));
      there = get_or-append-add a (v ++ 10 ∷ b) (length v) 0 ∙ after v;
      others = count_inside a v (10 ∷ b) (length a + length v) (omega arith) (omega arith) ∙ ap (λ n. count_breaks a + count_breaks (take n v)) offset ∙ ap (λ r. count_breaks a + count_breaks r) (all v);
    }
  where
    after : (v : List ℕ) → get_or (v ++ 10 ∷ b) (length v) 0 ≡ 10
    after [] = refl
    after (x ∷ v) = after v

    all : (v : List ℕ) → take (length v) v ≡ v
    all [] = refl
    all (x ∷ v) = ap (λ r. x ∷ r) (all v)

-- characters of the inner list from a place on are those of the whole
pub run_inside : (a v b run : List ℕ) (n : ℕ) → length a ≤ n → n ≤ length a + length v → run ≡ take (length run) (drop (n - length a) v) → n - length a + length run ≤ length v
    → (run ≡ take (length run) (drop n (a ++ (v ++ b)))) × (n + length run ≤ length (a ++ (v ++ b)))
run_inside a v b run n low high is short =
    let fits : length run ≤ length (drop (n - length a) v) = omega (arith, length-drop (n - length a) v) in (
      is ∙ sym (ap (take (length run)) (drop_inside a v b n low high) ∙ take-append-le (length run) (drop (n - length a) v) b fits),
      omega (arith, length_inside a v b),
    )

-- a shorter run
pub run_part : (cs run : List ℕ) (place count : ℕ) → run ≡ take (length run) (drop place cs) → count ≤ length run → take count run ≡ take count (drop place cs)
run_part cs run place count e h = ap (take count) e ∙ take-take count (length run) (drop place cs) h

-- what is left of a list from a place on, as a run
pub rest_run : (v cs : List ℕ) (n : ℕ) → cs ≡ v → n ≤ length v
    → (take (length cs - n) (drop n cs) ≡ take (length (take (length cs - n) (drop n cs))) (drop n v)) × (n + length (take (length cs - n) (drop n cs)) ≤ length v)
rest_run v cs n same within =
    let all = take_rest cs n in
    let e : take (length cs - n) (drop n cs) ≡ drop n v = all ∙ ap (drop n) same in
    let l : length (take (length cs - n) (drop n cs)) ≡ length (drop n v) = ap length e in
    (e ∙ sym (ap (λ k. take k (drop n v)) l ∙ take_all (length (drop n v)) (drop n v) (omega arith)), omega (arith, l, length-drop n v))

pub take_split : (a b : List ℕ) (n : ℕ) → take n (a ++ b) ≡ take n a ++ take (n - length a) b
take_split [] b zero = refl
take_split [] b (suc n) = ap (λ k. take k b) (let e : suc n ≡ suc n - 0 = omega arith in e)
take_split (x ∷ a) b zero = ap (λ k. take k b) (let e : 0 ≡ 0 - length (x ∷ a) = omega arith in e)
take_split (x ∷ a) b (suc n) = ap (λ r. x ∷ r) (take_split a b n) ∙ ap (λ k. x ∷ (take n a ++ take k b)) (let e : n - length a ≡ suc n - length (x ∷ a) = omega arith in e)

pub drop_split : (a b : List ℕ) (n : ℕ) → drop n (a ++ b) ≡ drop n a ++ drop (n - length a) b
drop_split [] b zero = refl
drop_split [] b (suc n) = ap (λ k. drop k b) (let e : suc n ≡ suc n - 0 = omega arith in e)
drop_split (x ∷ a) b zero = ap (λ k. (x ∷ a) ++ drop k b) (let e : 0 ≡ 0 - length (x ∷ a) = omega arith in e)
drop_split (x ∷ a) b (suc n) = drop_split a b n ∙ ap (λ k. drop n a ++ drop k b) (let e : n - length a ≡ suc n - length (x ∷ a) = omega arith in e)

-- `left` characters from the place `skip` on: those of the first list, then those of the second
pub window : (v r : List ℕ) (skip left start now : ℕ) → start ≡ min skip (length v) → now ≡ min left (length v - start)
    → take left (drop skip (v ++ r)) ≡ take now (drop start v) ++ take (left - now) (drop (skip - start) r)
window v r skip left start now s n =
    let d : drop start v ≡ drop skip v = ap (λ k. drop k v) s ∙ drop_min skip v in
    let l : length (drop start v) ≡ length v - start = length-drop start v in
    let f : take now (drop start v) ≡ take left (drop skip v) = ap (λ k. take k (drop start v)) (n ∙ ap (λ k. min left k) (sym l)) ∙ take_min left (drop start v) ∙ ap (take left) d in
    let past : left - length (drop skip v) ≡ left - now = omega (arith, l, ap length d) in
    let rest : skip - length v ≡ skip - start = omega arith in
    ap (take left) (drop_split v r skip) ∙ take_split (drop skip v) (drop (skip - length v) r) left
    ∙ ap (λ a. a ++ take (left - length (drop skip v)) (drop (skip - length v) r)) (sym f)
    ∙ ap (λ k. take now (drop start v) ++ take k (drop (skip - length v) r)) past ∙ ap (λ k. take now (drop start v) ++ take (left - now) (drop k r)) rest
