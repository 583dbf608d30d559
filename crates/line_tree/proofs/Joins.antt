-- Parts that are joined by breaks: their lengths and their breaks.
use Rattle.std.proofs.Common.{◌≡◌, ℕ, zero, suc, ◌+◌, ◌*◌, ◌^◌, ◌<◌, ◌≤◌, List, [], ◌∷◌, ◌++◌, length, get_or, take, refl, sym, ◌∙◌, ap, arith, length-append}
use Rattle.std.proofs.lemmas.List.Sums.{sum_by-cons, sum_by_more, sum_by-take-le}
use Rattle.std.proofs.lemmas.Grind.{pow_more}
use Rattle.std.proofs.Math.Nat.{mul-le-mul_right}
use Rattle.std.specs.List.{sum_by}
use Rattle.line_tree.specs.Text.{TextView}
use Rattle.line_tree.specs.Breaks.{count_breaks}
use Rattle.line_tree.specs.Parts.{after_break, joined, HaveHeight}
use Rattle.line_tree.proofs.Counts.{count-cons, count-append, count_le}

-- the lengths and the breaks of the parts, with one for the break after each
abbrev pub lengths : List TextView → ℕ
lengths vs = sum_by (λ v. length v.characters + 1) vs

abbrev pub breaks : List TextView → ℕ
breaks vs = sum_by (λ v. count_breaks v.characters + 1) vs

lengths-cons : (v : TextView) (vs : List TextView) → lengths (v ∷ vs) ≡ length v.characters + 1 + lengths vs
lengths-cons v vs = sum_by-cons (λ (w : TextView). length w.characters + 1) v vs

breaks-cons : (v : TextView) (vs : List TextView) → breaks (v ∷ vs) ≡ count_breaks v.characters + 1 + breaks vs
breaks-cons v vs = sum_by-cons (λ (w : TextView). count_breaks w.characters + 1) v vs

length-after_break : (vs : List TextView) → length (after_break vs) ≡ lengths vs
length-after_break [] = refl
length-after_break (v ∷ vs) = omega (arith, lengths-cons v vs, length-after_break vs, length-append v.characters (after_break vs))

pub length-joined : (vs : List TextView) → 0 < length vs → length (joined vs) + 1 ≡ lengths vs
length-joined [] h = absurd (omega arith)
length-joined (v ∷ vs) h = omega (arith, lengths-cons v vs, length-after_break vs, length-append v.characters (after_break vs))

count-after_break : (vs : List TextView) → count_breaks (after_break vs) ≡ breaks vs
count-after_break [] = refl
count-after_break (v ∷ vs) =
    let e : count_breaks (after_break (v ∷ vs)) ≡ 1 + count_breaks (v.characters ++ after_break vs) = count-cons 10 (v.characters ++ after_break vs) in
    omega (arith, e, breaks-cons v vs, count-after_break vs, count-append v.characters (after_break vs))

pub count-joined : (vs : List TextView) → 0 < length vs → count_breaks (joined vs) + 1 ≡ breaks vs
count-joined [] h = absurd (omega arith)
count-joined (v ∷ vs) h = omega (arith, breaks-cons v vs, count-after_break vs, count-append v.characters (after_break vs))

-- no text has more breaks than characters
pub breaks_le-lengths : (vs : List TextView) → breaks vs ≤ lengths vs
breaks_le-lengths [] = omega arith
breaks_le-lengths (v ∷ vs) = omega (arith, breaks-cons v vs, lengths-cons v vs, breaks_le-lengths vs, count_le v.characters)

-- one more part
pub lengths-more : (vs : List TextView) (i : ℕ) (v : TextView) → i < length vs → v ≡ get_or vs i v → lengths (take (i + 1) vs) ≡ lengths (take i vs) + (length v.characters + 1)
lengths-more vs i v h e = sum_by_more (λ (w : TextView). length w.characters + 1) vs i v h ∙ ap (λ (w : TextView). lengths (take i vs) + (length w.characters + 1)) (sym e)

pub breaks-more : (vs : List TextView) (i : ℕ) (v : TextView) → i < length vs → v ≡ get_or vs i v → breaks (take (i + 1) vs) ≡ breaks (take i vs) + (count_breaks v.characters + 1)
breaks-more vs i v h e = sum_by_more (λ (w : TextView). count_breaks w.characters + 1) vs i v h ∙ ap (λ (w : TextView). breaks (take i vs) + (count_breaks w.characters + 1)) (sym e)

pub lengths-part : (vs : List TextView) (i : ℕ) → lengths (take i vs) ≤ lengths vs
lengths-part vs i = sum_by-take-le (λ (w : TextView). length w.characters + 1) vs i

pub breaks-part : (vs : List TextView) (i : ℕ) → breaks (take i vs) ≤ breaks vs
breaks-part vs i = sum_by-take-le (λ (w : TextView). count_breaks w.characters + 1) vs i

-- each part has the height
pub height_at : (h : ℕ) (vs : List TextView) (i : ℕ) (d : TextView) → i < length vs → HaveHeight h vs → (get_or vs i d).height ≡ h
height_at h [] i d l k = absurd (omega arith)
height_at h (v ∷ vs) zero d l k = k.0
height_at h (v ∷ vs) (suc i) d l k = height_at h vs i d (omega arith) k.1

-- a power of two is above its exponent
pub below_power : (n : ℕ) → n + 1 ≤ 2 ^ n
below_power zero = omega arith
below_power (suc n) = omega (arith, below_power n, pow_more 2 n, ap (λ k. 2 ^ k) (let e : suc n ≡ n + 1 = omega arith in e))

pub tall_more : (i p b n : ℕ) → i * p ≤ b → p ≤ n → (i + 1) * p ≤ b + n
tall_more i p b n h k = omega (arith, h, k)

-- a node over two or more parts that are as tall as that fits too
pub height_fits : (n h breaks : ℕ) → 2 ≤ n → n * 2 ^ h ≤ breaks + 1 → breaks < 2 ^ 32 → h + 1 < 2 ^ 32
height_fits n h breaks two tall small = omega (arith, below_power h, mul-le-mul_right (2 ^ h) two, tall)

pub tall_next : (n h breaks : ℕ) → 2 ≤ n → n * 2 ^ h ≤ breaks + 1 → 2 ^ (h + 1) ≤ breaks + 1
tall_next n h breaks two tall = omega (arith, pow_more 2 h, mul-le-mul_right (2 ^ h) two, tall)
