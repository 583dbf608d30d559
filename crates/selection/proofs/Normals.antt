-- The normal form has one main range, neighbours that don't meet, and no end past those of the ranges that it was made of.
use Rattle.std.proofs.Common.{◌≡◌, ℕ, zero, suc, ◌+◌, ◌≤◌, ◌<◌, max, Bool, true, false, ◌&&◌, ◌||◌, cond, eqb, ltb, List, [], ◌∷◌, map, length, take, drop, Some, refl, sym, ap, ◌∙◌, arith}
use Rattle.std.proofs.lemmas.Bool.Decides.{nat_tests}
use Rattle.std.specs.Prelude.{slice_get}
use Rattle.selection.specs.declared.range.Range.{Range}
use Rattle.selection.specs.declared.marked.Marked.{Marked}
use Rattle.stable_order.specs.StableSort.{insert_by, stable_sort}
use Rattle.stable_order.proofs.StableSort.{list_any-stable_sort}
use Rattle.std.specs.List.{list_any}
use Rattle.selection.specs.Ranges.{low, high, is_empty, is_backward, ordered_range, meet, joined_range}
use Rattle.selection.specs.Selections.{IsSelection, LieIn, all_joined, are_apart, begins_before, joined, joined_from, main_of, marked_from, normal_form, range_of}

-- the one range at an index
pub one_at : (i : ℕ) (rs : List Range) (r : Range) → slice_get rs i ≡ Some r → take 1 (drop i rs) ≡ r ∷ []
one_at i [] r e = cc
one_at zero (q ∷ rs) r e = let same : q ≡ r = cc in ap (λ x. x ∷ []) same
one_at (suc i) (q ∷ rs) r e = one_at i rs r e

-- neighbours
low-ordered : (from to : ℕ) (b : Bool) → from ≤ to → low (ordered_range from to b) ≡ from
low-ordered from to true l = omega (arith, l)
low-ordered from to false l = omega (arith, l)

pub high-ordered : (from to : ℕ) (b : Bool) → from ≤ to → high (ordered_range from to b) ≡ to
high-ordered from to true l = omega (arith, l)
high-ordered from to false l = omega (arith, l)

pub low_high : (r : Range) → low r ≤ high r
low_high r = omega arith

pub low-joined : (a b : Range) → low (joined_range a b) ≡ low a
low-joined a b = low-ordered (low a) (max (high a) (high b)) (is_backward b) (omega (arith, low_high a))

pub high-joined : (a b : Range) → high (joined_range a b) ≡ max (high a) (high b)
high-joined a b = high-ordered (low a) (max (high a) (high b)) (is_backward b) (omega (arith, low_high a))

empty_ends : (r : Range) → is_empty r ≡ eqb (low r) (high r)
empty_ends r = grind (arith, nat_tests)

meets_by_ends : (la ha lb hb kb : ℕ) → lb ≤ hb → hb ≤ kb → (ltb lb ha || (eqb lb ha && (eqb la ha || eqb lb hb))) ≡ false → (ltb lb ha || (eqb lb ha && (eqb la ha || eqb lb kb))) ≡ false
meets_by_ends la ha lb hb kb l m h = grind (arith, nat_tests)

-- what doesn't meet a range doesn't meet what that is joined to
meets-joined : (a b c : Range) → meet a b ≡ false → meet a (joined_range b c) ≡ false
meets-joined a b c h =
    rw (empty_ends a, empty_ends (joined_range b c), low-joined b c, high-joined b c)
    (meets_by_ends (low a) (high a) (low b) (high b) (max (high b) (high c)) (low_high b) (omega arith) (rw (← empty_ends a, ← empty_ends b) h))

prefix_apart : (a : Range) (m : Marked) (ms : List Marked) → meet a m.range ≡ false → are_apart (map range_of (joined_from m ms)) ≡ true → are_apart (a ∷ map range_of (joined_from m ms)) ≡ true
prefix_apart a m [] h p = rw h refl
prefix_apart a m (k ∷ ms) h p = cases (meet m.range k.range) p (prefix_apart a (joined m k) ms (meets-joined a m.range k.range h))
  where
    cases : (b : Bool) → are_apart (map range_of (cond b (joined_from (joined m k) ms) (m ∷ joined_from k ms))) ≡ true →
        (are_apart (map range_of (joined_from (joined m k) ms)) ≡ true → are_apart (a ∷ map range_of (joined_from (joined m k) ms)) ≡ true) →
        are_apart (a ∷ map range_of (cond b (joined_from (joined m k) ms) (m ∷ joined_from k ms))) ≡ true
    cases true p ih = ih p
    cases false p ih = rw h p

joined_apart : (m : Marked) (ms : List Marked) → are_apart (map range_of (joined_from m ms)) ≡ true
joined_apart m [] = refl
joined_apart m (k ∷ ms) = cases (meet m.range k.range) refl (joined_apart (joined m k) ms) (joined_apart k ms)
  where
    cases : (b : Bool) → meet m.range k.range ≡ b → are_apart (map range_of (joined_from (joined m k) ms)) ≡ true → are_apart (map range_of (joined_from k ms)) ≡ true →
        are_apart (map range_of (cond b (joined_from (joined m k) ms) (m ∷ joined_from k ms))) ≡ true
    cases true e p q = p
    cases false e p q = prefix_apart m.range k ms e q

all_apart : (ms : List Marked) → are_apart (map range_of (all_joined ms)) ≡ true
all_apart [] = refl
all_apart (m ∷ ms) = joined_apart m ms

-- the main range
abbrev pub has_main : List Marked → Bool
has_main = list_any (λ (m : Marked). m.is_main)

or-assoc : (a b c : Bool) → ((a || b) || c) ≡ (a || (b || c))
or-assoc true b c = refl
or-assoc false b c = refl

has_main-joined : (m : Marked) (ms : List Marked) → has_main (joined_from m ms) ≡ (m.is_main || has_main ms)
has_main-joined m [] = refl
has_main-joined m (k ∷ ms) = cases (meet m.range k.range) (has_main-joined (joined m k) ms) (has_main-joined k ms)
  where
    cases : (b : Bool) → has_main (joined_from (joined m k) ms) ≡ ((m.is_main || k.is_main) || has_main ms) → has_main (joined_from k ms) ≡ (k.is_main || has_main ms) →
        has_main (cond b (joined_from (joined m k) ms) (m ∷ joined_from k ms)) ≡ (m.is_main || (k.is_main || has_main ms))
    cases true e f = e ∙ or-assoc m.is_main k.is_main (has_main ms)
    cases false e f = ap (λ b. m.is_main || b) f

has_main-marked : (i k : ℕ) (rs : List Range) → k < length rs → has_main (marked_from i (i + k) rs) ≡ true
has_main-marked i k [] l = absurd (omega arith)
has_main-marked i zero (r ∷ rs) l = let e : eqb i (i + 0) ≡ true = grind (arith, nat_tests) in rw e refl
has_main-marked i (suc k) (r ∷ rs) l =
    let e : i + suc k ≡ suc i + k = omega arith in
    right (eqb i (i + suc k)) (ap (λ n. has_main (marked_from (suc i) n rs)) e ∙ has_main-marked (suc i) k rs (omega arith))
  where
    right : (b : Bool) → has_main (marked_from (suc i) (i + suc k) rs) ≡ true → (b || has_main (marked_from (suc i) (i + suc k) rs)) ≡ true
    right true h = refl
    right false h = h

main_within : (ms : List Marked) → has_main ms ≡ true → main_of ms < length (map range_of ms)
main_within [] h = cc
main_within (m ∷ ms) h = cases m.is_main h (main_within ms)
  where
    cases : (b : Bool) → (b || has_main ms) ≡ true → (has_main ms ≡ true → main_of ms < length (map range_of ms)) → cond b 0 (suc (main_of ms)) < suc (length (map range_of ms))
    cases true h ih = omega arith
    cases false h ih = omega (arith, ih h)

has_main-all : (ms : List Marked) → has_main (all_joined ms) ≡ has_main ms
has_main-all [] = refl
has_main-all (m ∷ ms) = has_main-joined m ms

pub normal-has_main : (ranges : List Range) (main : ℕ) → main < length ranges → has_main (all_joined (stable_sort begins_before (marked_from 0 main ranges))) ≡ true
normal-has_main ranges main l =
    let marks : List Marked = marked_from 0 main ranges in
    let e : 0 + main ≡ main = omega arith in
    has_main-all (stable_sort begins_before marks)
    ∙ (list_any-stable_sort begins_before (λ (m : Marked). m.is_main) marks ∙ (ap (λ n. has_main (marked_from 0 n ranges)) (sym e) ∙ has_main-marked 0 main ranges l))

pub normal-is_selection : (ranges : List Range) (main : ℕ) → main < length ranges → IsSelection (normal_form ranges main)
normal-is_selection ranges main l =
    let sorted : List Marked = stable_sort begins_before (marked_from 0 main ranges) in
    record { apart = all_apart sorted; within = main_within (all_joined sorted) (normal-has_main ranges main l) }

pub ranges-marked : (i main : ℕ) (rs : List Range) → map range_of (marked_from i main rs) ≡ rs
ranges-marked i main [] = refl
ranges-marked i main (r ∷ rs) = ap (λ s. r ∷ s) (ranges-marked (suc i) main rs)

-- ends
abbrev MarksIn : ℕ → List Marked → Type 0
MarksIn len [] = Unit {0}
MarksIn len (m ∷ ms) = (high m.range ≤ len) × MarksIn len ms

marks_in : (len i main : ℕ) (rs : List Range) → LieIn len rs → MarksIn len (marked_from i main rs)
marks_in len i main [] h = tt
marks_in len i main (r ∷ rs) h = (h.0, marks_in len (suc i) main rs h.1)

inserted_in : (len : ℕ) (m : Marked) (ms : List Marked) → high m.range ≤ len → MarksIn len ms → MarksIn len (insert_by begins_before m ms)
inserted_in len m [] h k = (h, tt)
inserted_in len m (x ∷ ms) h k =
    elim (begins_before x m) as (λ b. MarksIn len (cond b (x ∷ insert_by begins_before m ms) (m ∷ x ∷ ms)))
    [ true ↦ (k.0, inserted_in len m ms h k.1) | false ↦ (h, k) ]

sorted_in : (len : ℕ) (ms : List Marked) → MarksIn len ms → MarksIn len (stable_sort begins_before ms)
sorted_in len [] h = tt
sorted_in len (m ∷ ms) h = inserted_in len m (stable_sort begins_before ms) h.0 (sorted_in len ms h.1)

joined_in : (len : ℕ) (m : Marked) (ms : List Marked) → high m.range ≤ len → MarksIn len ms → MarksIn len (joined_from m ms)
joined_in len m [] h k = (h, tt)
joined_in len m (x ∷ ms) h k =
    elim (meet m.range x.range) as (λ b. MarksIn len (cond b (joined_from (joined m x) ms) (m ∷ joined_from x ms)))
    [ true ↦ joined_in len (joined m x) ms (omega (arith, high-joined m.range x.range, h, k.0)) k.1 | false ↦ (h, joined_in len x ms k.0 k.1) ]

all_joined_in : (len : ℕ) (ms : List Marked) → MarksIn len ms → MarksIn len (all_joined ms)
all_joined_in len [] h = tt
all_joined_in len (m ∷ ms) h = joined_in len m ms h.0 h.1

ranges_in : (len : ℕ) (ms : List Marked) → MarksIn len ms → LieIn len (map range_of ms)
ranges_in len [] h = tt
ranges_in len (m ∷ ms) h = (h.0, ranges_in len ms h.1)

pub normal-inside : (len : ℕ) (ranges : List Range) (main : ℕ) → LieIn len ranges → LieIn len (normal_form ranges main).ranges
normal-inside len ranges main h =
    let sorted : List Marked = stable_sort begins_before (marked_from 0 main ranges) in
    ranges_in len (all_joined sorted) (all_joined_in len sorted (sorted_in len (marked_from 0 main ranges) (marks_in len 0 main ranges h)))

pub one_at-inside : (len i : ℕ) (rs : List Range) → LieIn len rs → LieIn len (take 1 (drop i rs))
one_at-inside len zero [] h = tt
one_at-inside len (suc i) [] h = tt
one_at-inside len zero (r ∷ rs) h = (h.0, tt)
one_at-inside len (suc i) (r ∷ rs) h = one_at-inside len i rs h.1
