-- Where places go that no replaced range overlaps or touches.
use Rattle.std.proofs.Common.{◌≡◌, ℕ, zero, suc, ◌+◌, ◌-◌, ◌<◌, ◌≤◌, Bool, true, false, ◌&&◌, ◌||◌, cond, leb, ltb, not, List, [], ◌∷◌, Option, Some, None, ◌⊎◌, inl, inr, refl, sym, ap, ◌∙◌, subst, arith}
use Rattle.std.proofs.lemmas.Bool.Decides.{nat_tests}
use Rattle.std.specs.List.{list_any}
use Rattle.change_desc.specs.declared.section.Section.{Section}
use Rattle.change_desc.specs.declared.section.Section.TheVariants.{Keep, Replace}
use Rattle.change_desc.specs.declared.changed_range.ChangedRange.{ChangedRange}
use Rattle.change_desc.specs.declared.map_mode.MapMode.{MapMode}
use Rattle.change_desc.specs.declared.map_mode.MapMode.TheVariants.{Simple, TrackDel, TrackBefore, TrackAfter}
use Rattle.change_desc.specs.Sections.{counted, old_size}
use Rattle.change_desc.specs.Positions.{cuts, is_lost, map_pos, moved}
use Rattle.change_desc.specs.Ranges.{meets, replaced_from, replaced}
use Rattle.change_desc.specs.Steps.{plus}
use Rattle.change_desc.proofs.Moves.{lost-keep_in, lost-keep_on, lost-replace_on, moved-keep_in, moved-keep_on, moved-replace_left, moved-replace_on, moved-replace_right, moved-replace_start}

abbrev pub Sections : Type 0
Sections = List (Section ℕ)

-- no replaced range overlaps or touches the places from a to b, where the sections begin at the places o and n
abbrev pub ClearFrom : (o n a b : ℕ) → Sections → Type 0
ClearFrom o n a b s = list_any (meets (o + a) (o + b)) (replaced_from o n s) ≡ false

abbrev pub IsClear : (a b : ℕ) → Sections → Type 0
IsClear a b s = list_any (meets a b) (replaced s) ≡ false

or_left : (a b : Bool) → (a || b) ≡ false → a ≡ false
or_left false b h = refl
or_left true b h = h

or_right : (a b : Bool) → (a || b) ≡ false → b ≡ false
or_right false b h = h
or_right true b h = cc

both_false : (a b : Bool) → a ≡ false → b ≡ false → (a || b) ≡ false
both_false false b h k = k
both_false true b h k = cc

-- what a clear place carries begins at it or after it, and none meets what is from it on
pub carried_parts : (a b : ℕ) (met : Bool) → (leb a b && not met) ≡ true → (a ≤ b) × (met ≡ false)
carried_parts a b met h = (from met h, clear met h)
  where
    from : (met : Bool) → (leb a b && not met) ≡ true → a ≤ b
    from true h = grind (arith, nat_tests)
    from false h = grind (arith, nat_tests)

    clear : (met : Bool) → (leb a b && not met) ≡ true → met ≡ false
    clear true h = grind (arith, nat_tests)
    clear false h = refl

-- a narrower range meets less
meets-narrow : (a b c d : ℕ) (r : ChangedRange) → a ≤ c → d ≤ b → meets a b r ≡ false → meets c d r ≡ false
meets-narrow a b c d r l k h = tests r.from_a r.to_a h
  where
    tests : (f t : ℕ) → (leb f b && leb a t) ≡ false → (leb f d && leb c t) ≡ false
    tests f t h = grind (arith, nat_tests)

pub none-narrow : (a b c d : ℕ) (rs : List ChangedRange) → a ≤ c → d ≤ b → list_any (meets a b) rs ≡ false → list_any (meets c d) rs ≡ false
none-narrow a b c d [] l k h = refl
none-narrow a b c d (r ∷ rs) l k h =
    both_false (meets c d r) (list_any (meets c d) rs) (meets-narrow a b c d r l k (or_left _ _ h)) (none-narrow a b c d rs l k (or_right (meets a b r) _ h))

-- the sections after a Keep, and after a Replace that lies before
clear-keep : (o n k a b a' b' : ℕ) (s : Sections) → o + a ≤ o + k + a' → o + k + b' ≤ o + b → ClearFrom o n a b (Keep k ∷ s) → ClearFrom (o + k) (n + k) a' b' s
clear-keep o n k a b a' b' s l m h = none-narrow (o + a) (o + b) (o + k + a') (o + k + b') (replaced_from (o + k) (n + k) s) l m h

clear-replace : (o n k t a b : ℕ) (s : Sections) → a ≤ b → ClearFrom o n a b (Replace k t ∷ s) → (k < a) × ClearFrom (o + k) (n + t) (a - k) (b - k) s
clear-replace o n k t a b s l h =
    let first : k < a = tests (leb o (o + b)) (or_left _ _ h) in
    let from : o + a ≤ o + k + (a - k) = omega arith in
    let to : o + k + (b - k) ≤ o + b = omega arith in
    (first, none-narrow (o + a) (o + b) (o + k + (a - k)) (o + k + (b - k)) (replaced_from (o + k) (n + t) s) from to (or_right _ _ h))
  where
    tests : (c : Bool) → (leb o (o + b) && leb (o + a) (o + k)) ≡ false → k < a
    tests c h = grind (arith, nat_tests)

-- the new place of a clear place
abbrev pub clear_place : Sections → ℕ → ℕ
clear_place [] p = p
clear_place (Keep n ∷ s) p = cond (ltb p n) p (n + clear_place s (p - n))
clear_place (Replace n t ∷ s) p = t + clear_place s (p - n)

keep_in : (n p : ℕ) (s : Sections) → p < n → clear_place (Keep n ∷ s) p ≡ p
keep_in n p s l = let e : ltb p n ≡ true = grind (arith, nat_tests) in rw e refl

keep_on : (n p : ℕ) (s : Sections) → n ≤ p → clear_place (Keep n ∷ s) p ≡ n + clear_place s (p - n)
keep_on n p s l = let e : ltb p n ≡ false = grind (arith, nat_tests) in rw e refl

in_or_on : (p n : ℕ) → (p < n) ⊎ (n ≤ p)
in_or_on p n = grind arith

-- a clear place goes there on either side
moved-clear_from : (o n : ℕ) (s : Sections) (p : ℕ) (negative : Bool) → p ≤ old_size s → ClearFrom o n p p s → moved negative p (cuts counted s) ≡ Some (clear_place s p)
moved-clear_from o n [] p true l h = let e : p ≡ 0 = omega arith in rw e refl
moved-clear_from o n [] p false l h = let e : p ≡ 0 = omega arith in rw e refl
moved-clear_from o n (Keep k ∷ s) p negative l h = cases (in_or_on p k) (λ m. moved-clear_from (o + k) (n + k) s (p - k) negative (omega arith) (clear-keep o n k p p (p - k) (p - k) s (omega arith) (omega arith) h))
  where
    cases : (p < k) ⊎ (k ≤ p) → (k ≤ p → moved negative (p - k) (cuts counted s) ≡ Some (clear_place s (p - k))) → moved negative p (cuts counted (Keep k ∷ s)) ≡ Some (clear_place (Keep k ∷ s) p)
    cases (inl m) ih = moved-keep_in counted negative k s p m ∙ ap Some (sym (keep_in k p s m))
    cases (inr m) ih = moved-keep_on counted negative k s p m ∙ (ap (plus k) (ih m) ∙ ap Some (sym (keep_on k p s m)))
moved-clear_from o n (Replace k t ∷ s) p negative l h =
    let c : (k < p) × ClearFrom (o + k) (n + t) (p - k) (p - k) s = clear-replace o n k t p p s (omega arith) h in
    moved-replace_on counted negative k t s p (omega arith) (λ e. omega arith) ∙ ap (plus t) (moved-clear_from (o + k) (n + t) s (p - k) negative (omega arith) c.1)

-- and nothing that a mode tracks there is lost
lost-clear_from : (o n : ℕ) (s : Sections) (p : ℕ) (mode : MapMode) → p ≤ old_size s → ClearFrom o n p p s → is_lost counted mode p s ≡ false
lost-clear_from o n [] p Simple l h = refl
lost-clear_from o n [] p TrackDel l h = let e : p ≡ 0 = omega arith in rw e refl
lost-clear_from o n [] p TrackBefore l h = let e : p ≡ 0 = omega arith in rw e refl
lost-clear_from o n [] p TrackAfter l h = let e : p ≡ 0 = omega arith in rw e refl
lost-clear_from o n (Keep k ∷ s) p mode l h = cases (in_or_on p k) (λ m. lost-clear_from (o + k) (n + k) s (p - k) mode (omega arith) (clear-keep o n k p p (p - k) (p - k) s (omega arith) (omega arith) h))
  where
    cases : (p < k) ⊎ (k ≤ p) → (k ≤ p → is_lost counted mode (p - k) s ≡ false) → is_lost counted mode p (Keep k ∷ s) ≡ false
    cases (inl m) ih = lost-keep_in counted mode k p s m
    cases (inr m) ih = lost-keep_on counted mode k p s m ∙ ih m
lost-clear_from o n (Replace k t ∷ s) p mode l h =
    let c : (k < p) × ClearFrom (o + k) (n + t) (p - k) (p - k) s = clear-replace o n k t p p s (omega arith) h in
    lost-replace_on counted mode k t s p (omega arith) (λ e. inl c.0) ∙ lost-clear_from (o + k) (n + t) s (p - k) mode (omega arith) c.1

-- the start, where it is clear, stays
pub clear_start : (o n : ℕ) (s : Sections) → ClearFrom o n 0 0 s → clear_place s 0 ≡ 0
clear_start o n [] h = refl
clear_start o n (Keep zero ∷ s) h =
    let e : 0 - 0 ≡ 0 = omega arith in
    keep_on 0 0 s (omega arith) ∙ (ap (λ p. 0 + clear_place s p) e ∙ (let z = clear_start (o + 0) (n + 0) s (clear-keep o n 0 0 0 0 0 s (omega arith) (omega arith) h) in omega (arith, z)))
clear_start o n (Keep (suc k) ∷ s) h = keep_in (suc k) 0 s (omega arith)
clear_start o n (Replace k t ∷ s) h = absurd (omega (arith, (clear-replace o n k t 0 0 s (omega arith) h).0))

-- clear places keep their distance
apart_from : (o n : ℕ) (s : Sections) (p q : ℕ) → p ≤ q → ClearFrom o n p q s → clear_place s q ≡ clear_place s p + (q - p)
apart_from o n [] p q l h = omega arith
apart_from o n (Keep k ∷ s) p q l h =
    cases (in_or_on p k) (in_or_on q k)
    (λ m. apart_from (o + k) (n + k) s (p - k) (q - k) (omega arith) (clear-keep o n k p q (p - k) (q - k) s (omega arith) (omega arith) h))
    (λ m i. apart_from (o + k) (n + k) s 0 (q - k) (omega arith) (clear-keep o n k p q 0 (q - k) s (omega arith) (omega arith) h))
    (λ m i. clear_start (o + k) (n + k) s (clear-keep o n k p q 0 0 s (omega arith) (omega arith) h))
  where
    cases : (p < k) ⊎ (k ≤ p) → (q < k) ⊎ (k ≤ q)
        → (k ≤ p → clear_place s (q - k) ≡ clear_place s (p - k) + (q - k - (p - k)))
        → (k ≤ q → p < k → clear_place s (q - k) ≡ clear_place s 0 + (q - k - 0))
        → (k ≤ q → p < k → clear_place s 0 ≡ 0)
        → clear_place (Keep k ∷ s) q ≡ clear_place (Keep k ∷ s) p + (q - p)
    cases (inl i) (inl j) on past start = let e = keep_in k p s i in let f = keep_in k q s j in omega (arith, e, f)
    cases (inl i) (inr j) on past start =
        let e = keep_in k p s i in let f = keep_on k q s j in let g = past j i in let z = start j i in omega (arith, e, f, g, z)
    cases (inr i) (inl j) on past start = absurd (omega arith)
    cases (inr i) (inr j) on past start = let e = keep_on k p s i in let f = keep_on k q s j in let g = on i in omega (arith, e, f, g)
apart_from o n (Replace k t ∷ s) p q l h =
    let c : (k < p) × ClearFrom (o + k) (n + t) (p - k) (q - k) s = clear-replace o n k t p q s l h in
    let g = apart_from (o + k) (n + t) s (p - k) (q - k) (omega arith) c.1 in omega (arith, g, c.0)

clear_after_start : (o n : ℕ) (s : Sections) (p : ℕ) → 0 < p → p ≤ old_size s → ClearFrom o n p p s → 0 < clear_place s p
clear_after_start o n [] p l m h = absurd (omega arith)
clear_after_start o n (Keep k ∷ s) p l m h = cases (in_or_on p k) (λ e i. clear_after_start (o + k) (n + k) s (p - k) (omega arith) (omega arith) (clear-keep o n k p p (p - k) (p - k) s (omega arith) (omega arith) h))
  where
    cases : (p < k) ⊎ (k ≤ p) → (k ≡ 0 → k ≤ p → 0 < clear_place s (p - k)) → 0 < clear_place (Keep k ∷ s) p
    cases (inl i) ih = let e = keep_in k p s i in omega (arith, e)
    cases (inr i) ih = let e = keep_on k p s i in zero_or k e i ih
      where
        zero_or : (j : ℕ) → clear_place (Keep k ∷ s) p ≡ k + clear_place s (p - k) → k ≤ p → (k ≡ 0 → k ≤ p → 0 < clear_place s (p - k)) → 0 < clear_place (Keep k ∷ s) p
        zero_or j e i ih = grind (arith, ih)
clear_after_start o n (Replace k t ∷ s) p l m h =
    let c : (k < p) × ClearFrom (o + k) (n + t) (p - k) (p - k) s = clear-replace o n k t p p s (omega arith) h in
    omega (arith, clear_after_start (o + k) (n + t) s (p - k) (omega arith) (omega arith) c.1)

-- what the cases of a position give: the place is kept in order with a clear place
plus-some : (n : ℕ) (o : Option ℕ) (m : ℕ) → plus n o ≡ Some m → (k : ℕ) × (o ≡ Some k) × (m ≡ n + k)
plus-some n None m h = cc
plus-some n (Some k) m h = (k, refl, (let e : n + k ≡ m = cc in sym e))

-- a later place goes further on
after_from : (o n : ℕ) (s : Sections) (u q m : ℕ) (negative : Bool) → u < q → q ≤ old_size s → ClearFrom o n u u s → moved negative q (cuts counted s) ≡ Some m → clear_place s u < m
after_from o n [] u q m negative l k h e = absurd (omega arith)
after_from o n (Keep c ∷ s) u q m negative l k h e =
    cases (in_or_on u c) (in_or_on q c)
    (λ i j x y. after_from (o + c) (n + c) s (u - c) (q - c) x negative (omega arith) (omega arith) (clear-keep o n c u u (u - c) (u - c) s (omega arith) (omega arith) h) y)
  where
    cases : (u < c) ⊎ (c ≤ u) → (q < c) ⊎ (c ≤ q)
        → (c ≤ u → c ≤ q → (x : ℕ) → moved negative (q - c) (cuts counted s) ≡ Some x → clear_place s (u - c) < x) → clear_place (Keep c ∷ s) u < m
    cases (inl i) (inl j) ih = let a = keep_in c u s i in let b : Some q ≡ Some m = sym (moved-keep_in counted negative c s q j) ∙ e in let d : q ≡ m = cc in omega (arith, a, d)
    cases (inl i) (inr j) ih =
        let a = keep_in c u s i in
        let b = plus-some c (moved negative (q - c) (cuts counted s)) m (sym (moved-keep_on counted negative c s q j) ∙ e) in
        omega (arith, a, b.2)
    cases (inr i) (inl j) ih = absurd (omega arith)
    cases (inr i) (inr j) ih =
        let a = keep_on c u s i in
        let b = plus-some c (moved negative (q - c) (cuts counted s)) m (sym (moved-keep_on counted negative c s q j) ∙ e) in
        let d = ih i j b.0 b.1 in omega (arith, a, d, b.2)
after_from o n (Replace c t ∷ s) u q m negative l k h e =
    let x : (c < u) × ClearFrom (o + c) (n + t) (u - c) (u - c) s = clear-replace o n c t u u s (omega arith) h in
    let first = x.0 in
    let b = plus-some t (moved negative (q - c) (cuts counted s)) m (sym (moved-replace_on counted negative c t s q (omega (arith, first)) (λ z. omega (arith, first))) ∙ e) in
    let d = after_from (o + c) (n + t) s (u - c) (q - c) b.0 negative (omega (arith, first)) (omega arith) x.1 b.1 in
    omega (arith, d, b.2)

-- an earlier place doesn't
before_from : (o n : ℕ) (s : Sections) (u q m : ℕ) (negative : Bool) → q < u → u ≤ old_size s → ClearFrom o n u u s → moved negative q (cuts counted s) ≡ Some m → m < clear_place s u
before_from o n [] u q m negative l k h e = absurd (omega arith)
before_from o n (Keep c ∷ s) u q m negative l k h e =
    cases (in_or_on u c) (in_or_on q c)
    (λ i j x y. before_from (o + c) (n + c) s (u - c) (q - c) x negative (omega arith) (omega arith) (clear-keep o n c u u (u - c) (u - c) s (omega arith) (omega arith) h) y)
  where
    cases : (u < c) ⊎ (c ≤ u) → (q < c) ⊎ (c ≤ q)
        → (c ≤ u → c ≤ q → (x : ℕ) → moved negative (q - c) (cuts counted s) ≡ Some x → x < clear_place s (u - c)) → m < clear_place (Keep c ∷ s) u
    cases (inl i) (inl j) ih = let a = keep_in c u s i in let b : Some q ≡ Some m = sym (moved-keep_in counted negative c s q j) ∙ e in let d : q ≡ m = cc in omega (arith, a, d)
    cases (inl i) (inr j) ih = absurd (omega arith)
    cases (inr i) (inl j) ih = let a = keep_on c u s i in let b : Some q ≡ Some m = sym (moved-keep_in counted negative c s q j) ∙ e in let d : q ≡ m = cc in omega (arith, a, d)
    cases (inr i) (inr j) ih =
        let a = keep_on c u s i in
        let b = plus-some c (moved negative (q - c) (cuts counted s)) m (sym (moved-keep_on counted negative c s q j) ∙ e) in
        let d = ih i j b.0 b.1 in omega (arith, a, d, b.2)
before_from o n (Replace c t ∷ s) u q m negative l k h e =
    let x : (c < u) × ClearFrom (o + c) (n + t) (u - c) (u - c) s = clear-replace o n c t u u s (omega arith) h in
    let first = x.0 in
    let rest = clear_after_start (o + c) (n + t) s (u - c) (omega (arith, first)) (omega arith) x.1 in
    let on : c ≤ q → (negative ≡ true → 0 < q) → m < t + clear_place s (u - c) = λ i j.
    let b = plus-some t (moved negative (q - c) (cuts counted s)) m (sym (moved-replace_on counted negative c t s q i j) ∙ e) in
    let d = before_from (o + c) (n + t) s (u - c) (q - c) b.0 negative (omega arith) (omega arith) x.1 b.1 in
    omega (arith, d, b.2) in
    cases negative refl (in_or_on q c) e rest on
  where
    cases : (b : Bool) → b ≡ negative → (q < c) ⊎ (c ≤ q) → moved negative q (cuts counted (Replace c t ∷ s)) ≡ Some m → 0 < clear_place s (u - c)
        → (c ≤ q → (negative ≡ true → 0 < q) → m < t + clear_place s (u - c)) → m < t + clear_place s (u - c)
    cases true f (inl i) e r on =
        let a : Some 0 ≡ Some m = sym (moved-replace_left counted c t s q (inl i)) ∙ subst (λ b. moved b q (cuts counted (Replace c t ∷ s)) ≡ Some m) (sym f) e in
        let d : 0 ≡ m = cc in omega (arith, d, r)
    cases true f (inr i) e r on = start q refl
      where
        start : (p : ℕ) → p ≡ q → m < t + clear_place s (u - c)
        start zero z =
            let a : Some 0 ≡ Some m = sym (moved-replace_left counted c t s q (inr (sym z))) ∙ subst (λ b. moved b q (cuts counted (Replace c t ∷ s)) ≡ Some m) (sym f) e in
            let d : 0 ≡ m = cc in omega (arith, d, r)
        start (suc p) z = on i (λ y. omega (arith, z))
    cases false f (inl i) e r on = start q refl
      where
        start : (p : ℕ) → p ≡ q → m < t + clear_place s (u - c)
        start zero z =
            let w : moved false 0 (cuts counted (Replace c t ∷ s)) ≡ Some m = subst (λ p. moved false p (cuts counted (Replace c t ∷ s)) ≡ Some m) (sym z) (subst (λ b. moved b q (cuts counted (Replace c t ∷ s)) ≡ Some m) (sym f) e) in
            let a : Some 0 ≡ Some m = sym (moved-replace_start counted c t s (omega (arith, i))) ∙ w in
            let d : 0 ≡ m = cc in omega (arith, d, r)
        start (suc p) z =
            let a : Some t ≡ Some m = sym (moved-replace_right counted c t s q (omega (arith, z)) i) ∙ subst (λ b. moved b q (cuts counted (Replace c t ∷ s)) ≡ Some m) (sym f) e in
            let d : t ≡ m = cc in omega (arith, d, r)
    cases false f (inr i) e r on = on i (λ y. let z : false ≡ true = f ∙ y in cc)

-- the same of whole descriptions
from_start : (a b : ℕ) (s : Sections) → IsClear a b s → ClearFrom 0 0 a b s
from_start a b s h =
    let e : 0 + a ≡ a = omega arith in
    let f : 0 + b ≡ b = omega arith in
    rw (e, f) h

pub map_pos-clear : (s : Sections) (p : ℕ) (negative : Bool) (mode : MapMode) → p ≤ old_size s → IsClear p p s → map_pos counted s p negative mode ≡ Some (clear_place s p)
map_pos-clear s p negative mode l h =
    rw (lost-clear_from 0 0 s p mode l (from_start p p s h)) (moved-clear_from 0 0 s p negative l (from_start p p s h))

pub clear_apart : (s : Sections) (p q : ℕ) → p ≤ q → IsClear p q s → clear_place s q ≡ clear_place s p + (q - p)
clear_apart s p q l h = apart_from 0 0 s p q l (from_start p q s h)

map_pos-moved : (s : Sections) (p : ℕ) (negative : Bool) (mode : MapMode) (m : ℕ) → map_pos counted s p negative mode ≡ Some m → moved negative p (cuts counted s) ≡ Some m
map_pos-moved s p negative mode m h = at (is_lost counted mode p s) h
  where
    at : (b : Bool) → cond b None (moved negative p (cuts counted s)) ≡ Some m → moved negative p (cuts counted s) ≡ Some m
    at true e = cc
    at false e = e

pub goes_after : (s : Sections) (u q m : ℕ) (negative : Bool) (mode : MapMode) → u < q → q ≤ old_size s → IsClear u u s → map_pos counted s q negative mode ≡ Some m → clear_place s u < m
goes_after s u q m negative mode l k h e = after_from 0 0 s u q m negative l k (from_start u u s h) (map_pos-moved s q negative mode m e)

pub goes_before : (s : Sections) (u q m : ℕ) (negative : Bool) (mode : MapMode) → q < u → u ≤ old_size s → IsClear u u s → map_pos counted s q negative mode ≡ Some m → m < clear_place s u
goes_before s u q m negative mode l k h e = before_from 0 0 s u q m negative l k (from_start u u s h) (map_pos-moved s q negative mode m e)
