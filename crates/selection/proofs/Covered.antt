-- The normal form covers the places that its ranges cover, and its main range those of the given main range.
use Rattle.std.proofs.Common.{◌≡◌, ℕ, zero, suc, ◌+◌, ◌≤◌, ◌<◌, max, Bool, true, false, ◌&&◌, ◌||◌, cond, eqb, leb, ltb, List, [], ◌∷◌, map, length, refl, sym, ap, subst, ◌∙◌, arith}
use Rattle.std.proofs.lemmas.Bool.Decides.{nat_tests}
use Rattle.std.specs.List.{list_any}
use Rattle.selection.specs.declared.range.Range.{Range}
use Rattle.selection.specs.declared.marked.Marked.{Marked}
use Rattle.stable_order.specs.StableSort.{insert_by, stable_sort}
use Rattle.stable_order.proofs.StableSort.{Rises, Rises-stable_sort, list_any-stable_sort}
use Rattle.selection.specs.Ranges.{low, high, covers, meet, joined_range}
use Rattle.selection.specs.Selections.{all_joined, begins_before, is_covered, is_covered_at, joined, joined_from, main_of, marked_from, normal_form, range_of}
use Rattle.selection.proofs.Normals.{has_main, high-joined, low-joined, low_high, normal-has_main, ranges-marked}
use Rattle.selection.proofs.SelectionOrder.{begins_before-order}

-- each range begins no earlier than the one before it, the first no earlier than at n
abbrev Ascend : ℕ → List Marked → Type 0
Ascend n [] = Unit {0}
Ascend n (m ∷ ms) = (n ≤ low m.range) × Ascend (low m.range) ms

Ascend-less : (n k : ℕ) (ms : List Marked) → n ≤ k → Ascend k ms → Ascend n ms
Ascend-less n k [] l h = tt
Ascend-less n k (m ∷ ms) l h = (omega (arith, h.0), h.1)

not_less : (a b : ℕ) → ltb a b ≡ false → b ≤ a
not_less a b h = grind (arith, nat_tests)

ascends : (m : Marked) (ms : List Marked) → Rises begins_before (m ∷ ms) → Ascend (low m.range) ms
ascends m [] h = tt
ascends m (k ∷ ms) h = (not_less (low k.range) (low m.range) h.0.0, ascends k ms h.1)

-- two ranges that meet cover what the joined one covers
covers_both : (la ha lb hb place : ℕ) → la ≤ lb → lb ≤ ha → la ≤ ha → lb ≤ hb
    → (leb la place && leb place (max ha hb)) ≡ ((leb la place && leb place ha) || (leb lb place && leb place hb))
covers_both la ha lb hb place s t u v = grind (arith, nat_tests)

meet_reaches : (lb ha : ℕ) (c : Bool) → (ltb lb ha || (eqb lb ha && c)) ≡ true → lb ≤ ha
meet_reaches lb ha c h = grind (arith, nat_tests)

covers-joined : (place : ℕ) (a b : Range) → low a ≤ low b → meet a b ≡ true → covers place (joined_range a b) ≡ (covers place a || covers place b)
covers-joined place a b l h =
    rw (low-joined a b, high-joined a b)
    (covers_both (low a) (high a) (low b) (high b) place l (meet_reaches (low b) (high a) _ h) (low_high a) (low_high b))

or-assoc : (a b c : Bool) → ((a || b) || c) ≡ (a || (b || c))
or-assoc true b c = refl
or-assoc false b c = refl

covered-joined : (place : ℕ) (m : Marked) (ms : List Marked) → Ascend (low m.range) ms
    → is_covered place (map range_of (joined_from m ms)) ≡ (covers place m.range || is_covered place (map range_of ms))
covered-joined place m [] h = refl
covered-joined place m (k ∷ ms) h =
    cases (meet m.range k.range) refl
    (covered-joined place (joined m k) ms (rw (low-joined m.range k.range) (Ascend-less (low m.range) (low k.range) ms h.0 h.1)))
    (covered-joined place k ms h.1)
  where
    cases : (b : Bool) → meet m.range k.range ≡ b
        → is_covered place (map range_of (joined_from (joined m k) ms)) ≡ (covers place (joined_range m.range k.range) || is_covered place (map range_of ms))
        → is_covered place (map range_of (joined_from k ms)) ≡ (covers place k.range || is_covered place (map range_of ms))
        → is_covered place (map range_of (cond b (joined_from (joined m k) ms) (m ∷ joined_from k ms)))
        ≡ (covers place m.range || (covers place k.range || is_covered place (map range_of ms)))
    cases true e p q =
        p ∙ ap (λ b. b || is_covered place (map range_of ms)) (covers-joined place m.range k.range h.0 e)
        ∙ or-assoc (covers place m.range) (covers place k.range) (is_covered place (map range_of ms))
    cases false e p q = ap (λ b. covers place m.range || b) q

covered-all : (place : ℕ) (ms : List Marked) → Rises begins_before ms → is_covered place (map range_of (all_joined ms)) ≡ is_covered place (map range_of ms)
covered-all place [] h = refl
covered-all place (m ∷ ms) h = covered-joined place m ms (ascends m ms h)

list_any-map : {X Y : Type 0} (q : Y → Bool) (f : X → Y) (xs : List X) → list_any q (map f xs) ≡ list_any (λ x. q (f x)) xs
list_any-map q f [] = refl
list_any-map q f (x ∷ xs) = ap (λ b. q (f x) || b) (list_any-map q f xs)

covered-sorted : (place : ℕ) (ms : List Marked) → is_covered place (map range_of (stable_sort begins_before ms)) ≡ is_covered place (map range_of ms)
covered-sorted place ms =
    list_any-map (covers place) range_of (stable_sort begins_before ms)
    ∙ list_any-stable_sort begins_before (λ (m : Marked). covers place m.range) ms
    ∙ sym (list_any-map (covers place) range_of ms)

pub normal-covered : (ranges : List Range) (main place : ℕ) → is_covered place (normal_form ranges main).ranges ≡ is_covered place ranges
normal-covered ranges main place =
    let marks : List Marked = marked_from 0 main ranges in
    covered-all place (stable_sort begins_before marks) (Rises-stable_sort begins_before begins_before-order marks)
    ∙ (covered-sorted place marks ∙ ap (is_covered place) (ranges-marked 0 main ranges))

-- what is marked as the main range covers a place
abbrev MainsCover : ℕ → List Marked → Type 0
MainsCover place [] = Unit {0}
MainsCover place (m ∷ ms) = (m.is_main ≡ true → covers place m.range ≡ true) × MainsCover place ms

apart : (a b : ℕ) → a < b → eqb a b ≡ true → ⊥
apart a b l h = let n : eqb a b ≡ false = grind (arith, nat_tests) in cc

none_marked : (place i main : ℕ) (rs : List Range) → main < i → MainsCover place (marked_from i main rs)
none_marked place i main [] l = tt
none_marked place i main (r ∷ rs) l = ((λ e. absurd (after i main l e)), none_marked place (suc i) main rs (omega arith))
  where
    after : (a b : ℕ) → b < a → eqb a b ≡ true → ⊥
    after a b l h = let n : eqb a b ≡ false = grind (arith, nat_tests) in cc

or_false : (b : Bool) → (b || false) ≡ true → b ≡ true
or_false true h = refl
or_false false h = h

false_or : (b : Bool) → b ≡ true → (b || false) ≡ true
false_or true h = refl
false_or false h = h

mains-marked : (place i k : ℕ) (rs : List Range) → is_covered_at k place rs ≡ true → MainsCover place (marked_from i (i + k) rs)
mains-marked place i k [] h = tt
mains-marked place i zero (r ∷ rs) h = ((λ e. or_false (covers place r) h), none_marked place (suc i) (i + 0) rs (omega arith))
mains-marked place i (suc k) (r ∷ rs) h =
    let e : suc i + k ≡ i + suc k = omega arith in
    ((λ x. absurd (apart i (i + suc k) (omega arith) x)), subst (λ n. MainsCover place (marked_from (suc i) n rs)) e (mains-marked place (suc i) k rs h))

mains-insert : (place : ℕ) (m : Marked) (ms : List Marked) → (m.is_main ≡ true → covers place m.range ≡ true) → MainsCover place ms → MainsCover place (insert_by begins_before m ms)
mains-insert place m [] h k = (h, tt)
mains-insert place m (x ∷ ms) h k =
    elim (begins_before x m) as (λ b. MainsCover place (cond b (x ∷ insert_by begins_before m ms) (m ∷ x ∷ ms)))
    [ true ↦ (k.0, mains-insert place m ms h k.1) | false ↦ (h, k) ]

mains-sorted : (place : ℕ) (ms : List Marked) → MainsCover place ms → MainsCover place (stable_sort begins_before ms)
mains-sorted place [] h = tt
mains-sorted place (m ∷ ms) h = mains-insert place m (stable_sort begins_before ms) h.0 (mains-sorted place ms h.1)

either : (a b p q : Bool) → (a ≡ true → p ≡ true) → (b ≡ true → q ≡ true) → (a || b) ≡ true → (p || q) ≡ true
either true b p q f g h = rw (f refl) refl
either false b true q f g h = refl
either false b false q f g h = g h

mains-joined : (place : ℕ) (m : Marked) (ms : List Marked) → Ascend (low m.range) ms → MainsCover place (m ∷ ms) → MainsCover place (joined_from m ms)
mains-joined place m [] a h = h
mains-joined place m (k ∷ ms) a h =
    cases (meet m.range k.range) refl
    (λ x. mains-joined place (joined m k) ms (rw (low-joined m.range k.range) (Ascend-less (low m.range) (low k.range) ms a.0 a.1)) (x, h.1.1))
    (mains-joined place k ms a.1 h.1)
  where
    cases : (b : Bool) → meet m.range k.range ≡ b
        → (((m.is_main || k.is_main) ≡ true → covers place (joined_range m.range k.range) ≡ true) → MainsCover place (joined_from (joined m k) ms))
        → MainsCover place (joined_from k ms)
        → MainsCover place (cond b (joined_from (joined m k) ms) (m ∷ joined_from k ms))
    cases true e p q =
        p (λ x. rw (covers-joined place m.range k.range a.0 e) (either m.is_main k.is_main (covers place m.range) (covers place k.range) h.0 h.1.0 x))
    cases false e p q = (h.0, q)

mains-all : (place : ℕ) (ms : List Marked) → Rises begins_before ms → MainsCover place ms → MainsCover place (all_joined ms)
mains-all place [] r h = tt
mains-all place (m ∷ ms) r h = mains-joined place m ms (ascends m ms r) h

main_covers : (place : ℕ) (ms : List Marked) → has_main ms ≡ true → MainsCover place ms → is_covered_at (main_of ms) place (map range_of ms) ≡ true
main_covers place [] e h = cc
main_covers place (m ∷ ms) e h = cases m.is_main e h.0 (λ k. main_covers place ms k h.1)
  where
    cases : (b : Bool) → (b || has_main ms) ≡ true → (b ≡ true → covers place m.range ≡ true)
        → (has_main ms ≡ true → is_covered_at (main_of ms) place (map range_of ms) ≡ true)
        → is_covered_at (cond b 0 (suc (main_of ms))) place (m.range ∷ map range_of ms) ≡ true
    cases true e h k = false_or (covers place m.range) (h refl)
    cases false e h k = k e

pub normal-main : (ranges : List Range) (main place : ℕ) → main < length ranges → is_covered_at main place ranges ≡ true
    → is_covered_at (normal_form ranges main).main place (normal_form ranges main).ranges ≡ true
normal-main ranges main place l h =
    let marks : List Marked = marked_from 0 main ranges in
    let sorted : List Marked = stable_sort begins_before marks in
    let e : 0 + main ≡ main = omega arith in
    main_covers place (all_joined sorted) (normal-has_main ranges main l)
    (mains-all place sorted (Rises-stable_sort begins_before begins_before-order marks)
    (mains-sorted place marks (subst (λ n. MainsCover place (marked_from 0 n ranges)) e (mains-marked place 0 main ranges h))))
