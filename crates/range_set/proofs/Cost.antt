-- How many ranges are mapped by themselves at most.
use Rattle.std.proofs.Common.{◌≡◌, ℕ, zero, suc, ◌+◌, ◌*◌, ◌<◌, ◌≤◌, Bool, true, false, ◌&&◌, ◌||◌, cond, leb, List, [], ◌∷◌, ◌++◌, length, map, filter, refl, sym, ap, subst, ◌∙◌, arith}
use Rattle.std.proofs.lemmas.Bool.Decides.{nat_tests}
use Rattle.std.proofs.lemmas.List.{length-append}
use Rattle.std.proofs.lemmas.List.Elements.{filter-append}
use Rattle.std.specs.List.{list_any}
use Rattle.std.specs.Prelude.{nat_le}
use Rattle.change_desc.specs.Ranges.{meets, replaced}
use Rattle.change_desc.specs.declared.changed_range.ChangedRange.{ChangedRange}
use Rattle.range_set.specs.Rules.{RangeRules}
use Rattle.range_set.specs.Mapping.{is_affected, is_turned, meets_hull, most_mapped}
use Rattle.range_set.specs.PrivateChunks.{AreChunks, Ascend, IsChunk, content, first_start, flat, greatest_end, shift}
use Rattle.range_set.specs.declared.ranged.Ranged.{Ranged}
use Rattle.range_set.specs.declared.chunk.Placed.{Placed}
use Rattle.range_set.proofs.Chunks.{ascend-rest, greatest_shifted, turned-shifted}
use Rattle.range_set.proofs.Clear.{Sections}

or_left : (a b : Bool) → (a || b) ≡ false → a ≡ false
or_left false b h = refl
or_left true b h = h

or_right : (a b : Bool) → (a || b) ≡ false → b ≡ false
or_right false b h = h
or_right true b h = cc

or_true : (b : Bool) → (b || true) ≡ true
or_true true = refl
or_true false = refl

le_holds : (a b : ℕ) → a ≤ b → nat_le a b ≡ true
le_holds a b l = grind (arith, nat_tests)

le_fails : (a b : ℕ) → b < a → nat_le a b ≡ false
le_fails a b l = grind (arith, nat_tests)

not_le : (a b : ℕ) → nat_le a b ≡ false → b < a
not_le a b h = grind (arith, nat_tests)

meets_ends : (f t a b : ℕ) → (leb f b && leb a t) ≡ true → (f ≤ b) × (a ≤ t)
meets_ends f t a b h = (grind (arith, nat_tests), grind (arith, nat_tests))

meets_not : (f t a b : ℕ) → (leb f b && leb a t) ≡ false → f ≤ b → t < a
meets_not f t a b h l = grind (arith, nat_tests)

pub both_true : (a b : Bool) → a ≡ true → b ≡ true → (a && b) ≡ true
both_true true b e f = f
both_true false b e f = cc

second_false : (a b : Bool) → b ≡ false → (a && b) ≡ false
second_false true b e = e
second_false false b e = refl

module _ {T : Type 0} where
  pub any_append : (p : Ranged T → Bool) (xs ys : List (Ranged T)) → list_any p xs ≡ true → list_any p (xs ++ ys) ≡ true
  any_append p [] ys h = cc
  any_append p (x ∷ xs) ys h = at (p x) h (any_append p xs ys)
    where
      at : (b : Bool) → (b || list_any p xs) ≡ true → (list_any p xs ≡ true → list_any p (xs ++ ys) ≡ true) → (b || list_any p (xs ++ ys)) ≡ true
      at true h k = refl
      at false h k = k h

  any_after : (p : Ranged T → Bool) (xs ys : List (Ranged T)) → list_any p ys ≡ true → list_any p (xs ++ ys) ≡ true
  any_after p [] ys h = h
  any_after p (x ∷ xs) ys h = rw (any_after p xs ys h) (or_true (p x))

  -- a hull that is met is met where ranges are put before it
  hull_more : (xs ys : List (Ranged T)) (c : ChangedRange) → meets_hull ys c ≡ true → meets_hull (xs ++ ys) c ≡ true
  hull_more xs ys c h = at (list_any (λ (r : Ranged T). nat_le c.from_a r.to) ys) (list_any (λ (r : Ranged T). nat_le r.from c.to_a) ys) refl refl h
    where
      at : (a b : Bool) → list_any (λ (r : Ranged T). nat_le c.from_a r.to) ys ≡ a → list_any (λ (r : Ranged T). nat_le r.from c.to_a) ys ≡ b → (a && b) ≡ true → meets_hull (xs ++ ys) c ≡ true
      at true true e f h = both_true _ _ (any_after (λ (r : Ranged T). nat_le c.from_a r.to) xs ys e) (any_after (λ (r : Ranged T). nat_le r.from c.to_a) xs ys f)
      at true false e f h = cc
      at false b e f h = cc

  -- no range meets a replaced one
  abbrev NoneMeet : List (Ranged T) → ChangedRange → Type 0
  NoneMeet [] c = Unit {0}
  NoneMeet (r ∷ rs) c = (meets r.from r.to c ≡ false) × NoneMeet rs c

  reaches : (rs : List (Ranged T)) (n : ℕ) → 1 ≤ length rs → n ≤ greatest_end rs → list_any (λ (r : Ranged T). nat_le n r.to) rs ≡ true
  reaches [] n some h = absurd (omega arith)
  reaches (r ∷ []) n some h = rw (le_holds n r.to (omega (arith, h))) refl
  reaches (r ∷ q ∷ rs) n some h = at (nat_le n r.to) refl (reaches (q ∷ rs) n (omega arith))
    where
      at : (b : Bool) → nat_le n r.to ≡ b → (n ≤ greatest_end (q ∷ rs) → list_any (λ (r : Ranged T). nat_le n r.to) (q ∷ rs) ≡ true) → (b || list_any (λ (r : Ranged T). nat_le n r.to) (q ∷ rs)) ≡ true
      at true e k = refl
      at false e k = k (let l = not_le n r.to e in omega (arith, h, l))

  none_begin : (n t : ℕ) (ys : List (Ranged T)) → t < n → Ascend n ys → list_any (λ (r : Ranged T). nat_le r.from t) ys ≡ false
  none_begin n t [] l h = refl
  none_begin n t (y ∷ ys) l h = rw (le_fails y.from t (omega (arith, h.0))) (none_begin y.from t ys (omega (arith, h.0)) h.1)

  -- ranges of which none meets a replaced one whose start they reach: what follows begins past it
  begin_past : (n : ℕ) (rs ys : List (Ranged T)) (c : ChangedRange) → 1 ≤ length rs → Ascend n (rs ++ ys) → NoneMeet rs c → c.from_a ≤ greatest_end rs → list_any (λ (r : Ranged T). nat_le r.from c.to_a) ys ≡ false
  begin_past n [] ys c some h k l = absurd (omega arith)
  begin_past n (r ∷ rs) ys c some h k l = at (nat_le c.from_a r.to) refl rs h.1 k.1 l (λ s t u. begin_past r.from rs ys c s h.1 t u)
    where
      at : (b : Bool) → nat_le c.from_a r.to ≡ b → (qs : List (Ranged T)) → Ascend r.from (rs ++ ys) → NoneMeet rs c → c.from_a ≤ greatest_end (r ∷ rs)
          → (1 ≤ length rs → NoneMeet rs c → c.from_a ≤ greatest_end rs → list_any (λ (r : Ranged T). nat_le r.from c.to_a) ys ≡ false) → list_any (λ (r : Ranged T). nat_le r.from c.to_a) ys ≡ false
      at true e qs a m g k' =
          let past = meets_not c.from_a c.to_a r.from r.to k.0 (reached e) in
          none_begin r.from c.to_a ys past (ascend-rest r.from rs ys a)
        where
          reached : nat_le c.from_a r.to ≡ true → c.from_a ≤ r.to
          reached e = grind (arith, nat_tests)
      at false e qs a m g k' = let l' = not_le c.from_a r.to e in let g' : c.from_a ≤ greatest_end rs = omega (arith, g, l') in k' (some_left rs (omega (arith, l', g'))) m g'
        where
          some_left : (ws : List (Ranged T)) → 0 < greatest_end ws → 1 ≤ length ws
          some_left [] h = absurd (omega arith)
          some_left (w ∷ ws) h = omega arith

  abbrev hulls_met : List (Ranged T) → List ChangedRange → ℕ
  hulls_met rs cs = length (filter (meets_hull rs) cs)

  pub counts_more : (xs ys : List (Ranged T)) (cs : List ChangedRange) → hulls_met ys cs ≤ hulls_met (xs ++ ys) cs
  counts_more xs ys [] = omega arith
  counts_more xs ys (c ∷ cs) = at (meets_hull ys c) (meets_hull (xs ++ ys) c) (hull_more xs ys c) (counts_more xs ys cs)
    where
      at : (a b : Bool) → (a ≡ true → b ≡ true) → hulls_met ys cs ≤ hulls_met (xs ++ ys) cs → length (cond a (c ∷ filter (meets_hull ys) cs) (filter (meets_hull ys) cs)) ≤ length (cond b (c ∷ filter (meets_hull (xs ++ ys)) cs) (filter (meets_hull (xs ++ ys)) cs))
      at true true f k = omega (arith, k)
      at true false f k = let z : false ≡ true = f refl in cc
      at false true f k = omega (arith, k)
      at false false f k = k

  abbrev NoneMeetAny : List (Ranged T) → List ChangedRange → Type 0
  NoneMeetAny rs [] = Unit {0}
  NoneMeetAny rs (c ∷ cs) = NoneMeet rs c × NoneMeetAny rs cs

  -- a hull that is met between its ranges is counted once
  charge : (n a b : ℕ) (r : Ranged T) (rs ys : List (Ranged T)) (cs : List ChangedRange) → r.from ≤ a → b ≤ greatest_end (r ∷ rs) → Ascend n ((r ∷ rs) ++ ys) → NoneMeetAny (r ∷ rs) cs → list_any (meets a b) cs ≡ true
      → suc (hulls_met ys cs) ≤ hulls_met ((r ∷ rs) ++ ys) cs
  charge n a b r rs ys [] f g h k e = cc
  charge n a b r rs ys (c ∷ cs) f g h k e = at (meets a b c) refl e (charge n a b r rs ys cs f g h k.1) (counts_more (r ∷ rs) ys cs)
    where
      later : (x y : Bool) → (x ≡ true → y ≡ true) → suc (hulls_met ys cs) ≤ hulls_met ((r ∷ rs) ++ ys) cs
          → suc (length (cond x (c ∷ filter (meets_hull ys) cs) (filter (meets_hull ys) cs))) ≤ length (cond y (c ∷ filter (meets_hull ((r ∷ rs) ++ ys)) cs) (filter (meets_hull ((r ∷ rs) ++ ys)) cs))
      later true true f k = omega (arith, k)
      later true false f k = let z : false ≡ true = f refl in cc
      later false true f k = omega (arith, k)
      later false false f k = k

      here : (x y : Bool) → x ≡ false → y ≡ true → hulls_met ys cs ≤ hulls_met ((r ∷ rs) ++ ys) cs
          → suc (length (cond x (c ∷ filter (meets_hull ys) cs) (filter (meets_hull ys) cs))) ≤ length (cond y (c ∷ filter (meets_hull ((r ∷ rs) ++ ys)) cs) (filter (meets_hull ((r ∷ rs) ++ ys)) cs))
      here true y p q k = cc
      here false true p q k = omega (arith, k)
      here false false p q k = cc

      at : (m : Bool) → meets a b c ≡ m → (m || list_any (meets a b) cs) ≡ true → (list_any (meets a b) cs ≡ true → suc (hulls_met ys cs) ≤ hulls_met ((r ∷ rs) ++ ys) cs) → hulls_met ys cs ≤ hulls_met ((r ∷ rs) ++ ys) cs
          → suc (hulls_met ys (c ∷ cs)) ≤ hulls_met ((r ∷ rs) ++ ys) (c ∷ cs)
      at true e x ih more =
          let ends = meets_ends c.from_a c.to_a a b e in
          let reach : c.from_a ≤ greatest_end (r ∷ rs) = omega (arith, ends.0, g) in
          let none = begin_past n (r ∷ rs) ys c (omega arith) h k.0 reach in
          here (meets_hull ys c) (meets_hull ((r ∷ rs) ++ ys) c) (second_false _ _ none)
          (both_true _ _ (any_append (λ (q : Ranged T). nat_le c.from_a q.to) (r ∷ rs) ys (reaches (r ∷ rs) c.from_a (omega arith) reach))
          (any_append (λ (q : Ranged T). nat_le q.from c.to_a) (r ∷ rs) ys (ap (λ z. z || list_any (λ (q : Ranged T). nat_le q.from c.to_a) rs) (le_holds r.from c.to_a (omega (arith, f, ends.1))))))
          more
      at false e x ih more = later (meets_hull ys c) (meets_hull ((r ∷ rs) ++ ys) c) (hull_more (r ∷ rs) ys c) (ih x)

module _ {T : Type 0} (rules : RangeRules T) (d : Sections) where
  -- whether the ranges of a chunk are mapped by themselves, and how many ranges are mapped by themselves at most
  abbrev pub chunk_affected : Placed T → Bool
  chunk_affected p = (content p).is_turned || list_any (meets p.start (p.start + (content p).reach)) (replaced d)

  abbrev pub allowance : List (Placed T) → ℕ
  allowance [] = 0
  allowance (p ∷ ps) = cond (chunk_affected p) 128 0 + allowance ps

  affected_none : (rs : List (Ranged T)) → length (filter (is_affected rules d) rs) ≡ 0 → list_any (is_affected rules d) rs ≡ false
  affected_none [] h = refl
  affected_none (r ∷ rs) h = at (is_affected rules d r) h (affected_none rs)
    where
      at : (b : Bool) → length (cond b (r ∷ filter (is_affected rules d) rs) (filter (is_affected rules d) rs)) ≡ 0 → (length (filter (is_affected rules d) rs) ≡ 0 → list_any (is_affected rules d) rs ≡ false) → (b || list_any (is_affected rules d) rs) ≡ false
      at true h k = absurd (omega arith)
      at false h k = k h

  none_turned : (start : ℕ) (rs : List (Ranged T)) → list_any (is_affected rules d) (map (shift start) rs) ≡ false → list_any (is_turned rules) rs ≡ false
  none_turned start [] h = refl
  none_turned start (r ∷ rs) h =
      let x = or_right (list_any (meets (r.from + start) (r.to + start)) (replaced d)) _ (or_left _ (list_any (is_affected rules d) (map (shift start) rs)) h) in
      let y : is_turned rules r ≡ false = sym (turned-shifted rules start r) ∙ x in
      rw (y, none_turned start rs (or_right (is_affected rules d (shift start r)) _ h)) refl

  none_meet_one : (rs : List (Ranged T)) (c : ChangedRange) (cs : List ChangedRange) → list_any (λ (r : Ranged T). list_any (meets r.from r.to) (c ∷ cs)) rs ≡ false → NoneMeet rs c × (list_any (λ (r : Ranged T). list_any (meets r.from r.to) cs) rs ≡ false)
  none_meet_one [] c cs h = (tt, refl)
  none_meet_one (r ∷ rs) c cs h =
      let first = or_left (list_any (meets r.from r.to) (c ∷ cs)) _ h in
      let rest = none_meet_one rs c cs (or_right (list_any (meets r.from r.to) (c ∷ cs)) _ h) in
      ((or_left (meets r.from r.to c) _ first, rest.0), rw (or_right (meets r.from r.to c) _ first, rest.1) refl)

  none_meet : (rs : List (Ranged T)) (cs : List ChangedRange) → list_any (λ (r : Ranged T). list_any (meets r.from r.to) cs) rs ≡ false → NoneMeetAny rs cs
  none_meet rs [] h = tt
  none_meet rs (c ∷ cs) h = let k = none_meet_one rs c cs h in (k.0, none_meet rs cs k.1)

  none_met : (rs : List (Ranged T)) → list_any (is_affected rules d) rs ≡ false → list_any (λ (r : Ranged T). list_any (meets r.from r.to) (replaced d)) rs ≡ false
  none_met [] h = refl
  none_met (r ∷ rs) h =
      rw (or_left (list_any (meets r.from r.to) (replaced d)) _ (or_left (is_affected rules d r) _ h), none_met rs (or_right (is_affected rules d r) _ h)) refl

  chunk_charge : (n : ℕ) (p : Placed T) (ys : List (Ranged T)) → IsChunk rules p.start (content p) → 1 ≤ length (content p).ranges → Ascend n (map (shift p.start) (content p).ranges ++ ys)
      → list_any (is_affected rules d) (map (shift p.start) (content p).ranges) ≡ false → chunk_affected p ≡ true
      → suc (hulls_met ys (replaced d)) ≤ hulls_met (map (shift p.start) (content p).ranges ++ ys) (replaced d)
  chunk_charge n p ys h some asc none aff = at (content p).ranges refl
    where
      items : List (Ranged T)
      items = (content p).ranges

      met : (b : Bool) → b ≡ false → (b || list_any (meets p.start (p.start + (content p).reach)) (replaced d)) ≡ true → list_any (meets p.start (p.start + (content p).reach)) (replaced d) ≡ true
      met true e x = cc
      met false e x = x

      at : (rs : List (Ranged T)) → rs ≡ (content p).ranges → suc (hulls_met ys (replaced d)) ≤ hulls_met (map (shift p.start) (content p).ranges ++ ys) (replaced d)
      at [] e = absurd (let l = ap length e in omega (arith, l, some))
      at (r ∷ rs) e =
          let first : r.from ≡ 0 = ap first_start e ∙ h.first in
          let reach = greatest_shifted p.start (r ∷ rs) (omega arith) in
          let end = ap greatest_end e in
          let k = h.reach in
          subst (λ xs. suc (hulls_met ys (replaced d)) ≤ hulls_met (map (shift p.start) xs ++ ys) (replaced d)) e
          (charge n p.start (p.start + (content p).reach) (shift p.start r) (map (shift p.start) rs) ys (replaced d) (omega (arith, first)) (omega (arith, reach, end, k))
          (subst (λ xs. Ascend n (map (shift p.start) xs ++ ys)) (sym e) asc)
          (none_meet (map (shift p.start) (r ∷ rs)) (replaced d) (subst (λ xs. list_any (λ (r : Ranged T). list_any (meets r.from r.to) (replaced d)) (map (shift p.start) xs) ≡ false) (sym e) (none_met (map (shift p.start) (content p).ranges) none)))
          (met (content p).is_turned (h.turned ∙ none_turned p.start (content p).ranges none) aff))

  pub allowed : (n : ℕ) (ps : List (Placed T)) → AreChunks rules ps → Ascend n (flat ps) → allowance ps ≤ most_mapped rules d (flat ps)
  allowed n [] h a = omega arith
  allowed n (p ∷ ps) h a =
      let c = map (shift p.start) (content p).ranges in
      let ih = allowed n ps h.1 (ascend-rest n c (flat ps) a) in
      let parts = ap length (filter-append (is_affected rules d) c (flat ps)) ∙ length-append (filter (is_affected rules d) c) (filter (is_affected rules d) (flat ps)) in
      at (chunk_affected p) refl (length (filter (is_affected rules d) c)) refl ih parts (counts_more c (flat ps) (replaced d))
    where
      at : (b : Bool) → chunk_affected p ≡ b → (k : ℕ) → length (filter (is_affected rules d) (map (shift p.start) (content p).ranges)) ≡ k
          → allowance ps ≤ 128 * (length (filter (is_affected rules d) (flat ps)) + hulls_met (flat ps) (replaced d))
          → length (filter (is_affected rules d) (flat (p ∷ ps))) ≡ length (filter (is_affected rules d) (map (shift p.start) (content p).ranges)) + length (filter (is_affected rules d) (flat ps))
          → hulls_met (flat ps) (replaced d) ≤ hulls_met (flat (p ∷ ps)) (replaced d)
          → cond b 128 0 + allowance ps ≤ 128 * (length (filter (is_affected rules d) (flat (p ∷ ps))) + hulls_met (flat (p ∷ ps)) (replaced d))
      at false e k z ih parts more = omega (arith, ih, parts, more)
      at true e (suc k) z ih parts more = omega (arith, z, ih, parts, more)
      at true e zero z ih parts more =
          let one = chunk_charge n p (flat ps) h.0.0 h.0.1 a (affected_none (map (shift p.start) (content p).ranges) z) e in
          omega (arith, z, ih, parts, one)
