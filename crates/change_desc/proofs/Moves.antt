-- Where a position goes, section by section.
use Rattle.std.proofs.Common.{◌≡◌, ℕ, zero, suc, ◌+◌, ◌-◌, ◌≤◌, ◌<◌, Bool, true, false, cond, not, ◌&&◌, eqb, ltb, ◌⊎◌, inl, inr, eq-or-lt_of_le, List, [], ◌∷◌, ◌++◌, filter, refl, sym, ap, ◌∙◌, Some, None, Option, MatchOption, ◌≢◌, arith, one-add, add-zero, zero-add}
use Rattle.std.proofs.lemmas.List.Elements.{filter-append}
use Rattle.std.proofs.lemmas.Bool.Decides.{nat_tests}
use Rattle.std.specs.Option.{option_or}
use Rattle.change_desc.specs.declared.section.Section.{Section}
use Rattle.change_desc.specs.declared.section.Section.TheVariants.{Keep, Replace}
use Rattle.change_desc.specs.declared.map_mode.MapMode.{MapMode}
use Rattle.change_desc.specs.declared.map_mode.MapMode.TheVariants.{Simple, TrackDel, TrackBefore, TrackAfter}
use Rattle.change_desc.specs.Sections.{Texts, counted, old_size}
use Rattle.change_desc.specs.Positions.{Pair, shift, diagonal, cuts, kept, first_new, last_new, at, before, after, moved, is_there, is_lost}
use Rattle.change_desc.specs.Steps.{plus, loses, StopsAt, GoesOn, DecidesLoss, LeavesLoss}

first_new-append : (xs ys : List Pair) → first_new (xs ++ ys) ≡ option_or (first_new xs) (first_new ys)
first_new-append [] ys = refl
first_new-append (x ∷ xs) ys = refl

option_or-none : (o : Option ℕ) → option_or o None ≡ o
option_or-none None = refl
option_or-none (Some n) = refl

option_or-assoc : (a b c : Option ℕ) → option_or (option_or a b) c ≡ option_or a (option_or b c)
option_or-assoc None b c = refl
option_or-assoc (Some n) b c = refl

last_new-append : (xs ys : List Pair) → last_new (xs ++ ys) ≡ option_or (last_new ys) (last_new xs)
last_new-append [] ys = sym (option_or-none (last_new ys))
last_new-append (x ∷ xs) ys = ap (λ o. option_or o (Some x.1)) (last_new-append xs ys) ∙ option_or-assoc (last_new ys) (last_new xs) (Some x.1)

first_new-shift : (o n : ℕ) (cs : List Pair) → first_new (shift o n cs) ≡ plus n (first_new cs)
first_new-shift o n [] = refl
first_new-shift o n (c ∷ cs) = refl

last_new-shift : (o n : ℕ) (cs : List Pair) → last_new (shift o n cs) ≡ plus n (last_new cs)
last_new-shift o n [] = refl
last_new-shift o n (c ∷ cs) = ap (λ v. option_or v (Some (n + c.1))) (last_new-shift o n cs) ∙ plus-or (last_new cs) c.1
  where
    plus-or : (v : Option ℕ) (m : ℕ) → option_or (plus n v) (Some (n + m)) ≡ plus n (option_or v (Some m))
    plus-or None m = refl
    plus-or (Some k) m = refl

is_there-shift : (o n : ℕ) (cs : List Pair) → is_there (shift o n cs) ≡ is_there cs
is_there-shift o n [] = refl
is_there-shift o n (c ∷ cs) = refl

filter-shift : (f g : Pair → Bool) (o n : ℕ) → ((c : Pair) → f (o + c.0, n + c.1) ≡ g c) → (cs : List Pair) → filter f (shift o n cs) ≡ shift o n (filter g cs)
filter-shift f g o n h [] = refl
filter-shift f g o n h (c ∷ cs) = rw (h c, filter-shift f g o n h cs) (cases (g c))
  where
    cases : (b : Bool) → cond b ((o + c.0, n + c.1) ∷ shift o n (filter g cs)) (shift o n (filter g cs)) ≡ shift o n (cond b (c ∷ filter g cs) (filter g cs))
    cases true = refl
    cases false = refl

filter-shift-none : (f : Pair → Bool) (o n : ℕ) → ((c : Pair) → f (o + c.0, n + c.1) ≡ false) → (cs : List Pair) → filter f (shift o n cs) ≡ []
filter-shift-none f o n h [] = refl
filter-shift-none f o n h (c ∷ cs) = rw (h c) (filter-shift-none f o n h cs)

filter-shift-all : (f : Pair → Bool) (o n : ℕ) → ((c : Pair) → f (o + c.0, n + c.1) ≡ true) → (cs : List Pair) → filter f (shift o n cs) ≡ shift o n cs
filter-shift-all f o n h [] = refl
filter-shift-all f o n h (c ∷ cs) = rw (h c, filter-shift-all f o n h cs) refl

at-shift : (p o n : ℕ) (cs : List Pair) → o ≤ p → at p (shift o n cs) ≡ shift o n (at (p - o) cs)
at-shift p o n cs l = filter-shift (λ c. eqb c.0 p) (λ c. eqb c.0 (p - o)) o n (λ c. tests c.0) cs
  where
    tests : (a : ℕ) → eqb (o + a) p ≡ eqb a (p - o)
    tests a = grind (arith, nat_tests)

at-shift-none : (p o n : ℕ) (cs : List Pair) → p < o → at p (shift o n cs) ≡ []
at-shift-none p o n cs l = filter-shift-none (λ c. eqb c.0 p) o n (λ c. tests c.0) cs
  where
    tests : (a : ℕ) → eqb (o + a) p ≡ false
    tests a = grind (arith, nat_tests)

before-shift : (p o n : ℕ) (cs : List Pair) → o ≤ p → before p (shift o n cs) ≡ shift o n (before (p - o) cs)
before-shift p o n cs l = filter-shift (λ c. ltb c.0 p) (λ c. ltb c.0 (p - o)) o n (λ c. tests c.0) cs
  where
    tests : (a : ℕ) → ltb (o + a) p ≡ ltb a (p - o)
    tests a = grind (arith, nat_tests)

before-shift-none : (p o n : ℕ) (cs : List Pair) → p ≤ o → before p (shift o n cs) ≡ []
before-shift-none p o n cs l = filter-shift-none (λ c. ltb c.0 p) o n (λ c. tests c.0) cs
  where
    tests : (a : ℕ) → ltb (o + a) p ≡ false
    tests a = grind (arith, nat_tests)

after-shift : (p o n : ℕ) (cs : List Pair) → o ≤ p → after p (shift o n cs) ≡ shift o n (after (p - o) cs)
after-shift p o n cs l = filter-shift (λ c. ltb p c.0) (λ c. ltb (p - o) c.0) o n (λ c. tests c.0) cs
  where
    tests : (a : ℕ) → ltb p (o + a) ≡ ltb (p - o) a
    tests a = grind (arith, nat_tests)

after-shift-all : (p o n : ℕ) (cs : List Pair) → p < o → after p (shift o n cs) ≡ shift o n cs
after-shift-all p o n cs l = filter-shift-all (λ c. ltb p c.0) o n (λ c. tests c.0) cs
  where
    tests : (a : ℕ) → ltb p (o + a) ≡ true
    tests a = grind (arith, nat_tests)

eqb-zero-suc : (p : ℕ) → eqb 0 (suc p) ≡ false
eqb-zero-suc p = grind (arith, nat_tests)

ltb-suc-zero : (p : ℕ) → ltb p 0 ≡ false
ltb-suc-zero p = grind (arith, nat_tests)

suc-sub-one : (p : ℕ) → suc p - 1 ≡ p
suc-sub-one p = omega arith

at-diagonal : (n p : ℕ) → p < n → at p (diagonal n) ≡ (p, p) ∷ []
at-diagonal zero p l = absurd (omega arith)
at-diagonal (suc n) zero l = rw (at-shift-none 0 1 1 (diagonal n) (omega arith)) refl
at-diagonal (suc n) (suc p) l =
    rw (eqb-zero-suc p, at-shift (suc p) 1 1 (diagonal n) (omega arith), suc-sub-one p, at-diagonal n p (omega arith), one-add p) refl

at-diagonal-none : (n p : ℕ) → n ≤ p → at p (diagonal n) ≡ []
at-diagonal-none zero p l = refl
at-diagonal-none (suc n) zero l = absurd (omega arith)
at-diagonal-none (suc n) (suc p) l =
    rw (eqb-zero-suc p, at-shift (suc p) 1 1 (diagonal n) (omega arith), suc-sub-one p, at-diagonal-none n p (omega arith)) refl

after-diagonal-none : (n p : ℕ) → n ≤ p → after p (diagonal n) ≡ []
after-diagonal-none zero p l = refl
after-diagonal-none (suc n) zero l = absurd (omega arith)
after-diagonal-none (suc n) (suc p) l =
    rw (ltb-suc-zero (suc p), after-shift (suc p) 1 1 (diagonal n) (omega arith), suc-sub-one p, after-diagonal-none n p (omega arith)) refl

option_or-some : (o : Option ℕ) (n : ℕ) → (v : ℕ) × (option_or o (Some n) ≡ Some v)
option_or-some None n = (n, refl)
option_or-some (Some m) n = (m, refl)

last_from_first : (cs : List Pair) (v : ℕ) → first_new cs ≡ Some v → (w : ℕ) × (last_new cs ≡ Some w)
last_from_first [] v h = cc
last_from_first (c ∷ cs) v h = option_or-some (last_new cs) c.1

module _ {T C : Type 0} (X : Texts T C) where
  first_new-cuts : (s : List (Section T)) → first_new (cuts X s) ≡ Some 0
  first_new-cuts [] = refl
  first_new-cuts (Keep zero ∷ s) = rw (first_new-shift 0 0 (cuts X s), first_new-cuts s) refl
  first_new-cuts (Keep (suc n) ∷ s) = refl
  first_new-cuts (Replace n t ∷ s) = refl

  first_new-at_zero : (s : List (Section T)) → first_new (at 0 (cuts X s)) ≡ Some 0
  first_new-at_zero [] = refl
  first_new-at_zero (Keep zero ∷ s) = rw (at-shift 0 0 0 (cuts X s) (omega arith), first_new-shift 0 0 (at 0 (cuts X s)), first_new-at_zero s) refl
  first_new-at_zero (Keep (suc n) ∷ s) = refl
  first_new-at_zero (Replace n t ∷ s) = refl

  last_new-at_zero : (s : List (Section T)) → (w : ℕ) × (last_new (at 0 (cuts X s)) ≡ Some w)
  last_new-at_zero s = last_from_first (at 0 (cuts X s)) 0 (first_new-at_zero s)

  ltb-zero : (q : ℕ) → 0 < q → ltb 0 q ≡ true
  ltb-zero q l = grind (arith, nat_tests)

  cond-true : {A : Type 0} (b : Bool) (x y : A) → b ≡ true → cond b x y ≡ x
  cond-true true x y h = refl
  cond-true false x y h = cc

  last_new-prefix : (cs : List Pair) (q : ℕ) → 0 < q → (w : ℕ) × (last_new (before q ((0, 0) ∷ cs)) ≡ Some w)
  last_new-prefix cs q l =
      let h : (w : ℕ) × (option_or (last_new (before q cs)) (Some 0) ≡ Some w) = option_or-some (last_new (before q cs)) 0 in
      (h.0, ap last_new (cond-true (ltb 0 q) ((0, 0) ∷ before q cs) (before q cs) (ltb-zero q l)) ∙ h.1)

  last_new-before : (s : List (Section T)) (q : ℕ) → 0 < q → (w : ℕ) × (last_new (before q (cuts X s)) ≡ Some w)
  last_new-before [] q l = last_new-prefix [] q l
  last_new-before (Keep zero ∷ s) q l =
      let h : (w : ℕ) × (last_new (before q (cuts X s)) ≡ Some w) = last_new-before s q l in
      let e : q - 0 ≡ q = omega arith in
      (h.0, rw (before-shift q 0 0 (cuts X s) (omega arith), e, last_new-shift 0 0 (before q (cuts X s)), h.1, zero-add h.0) refl)
  last_new-before (Keep (suc n) ∷ s) q l = last_new-prefix (shift 1 1 (diagonal n) ++ shift (suc n) (suc n) (cuts X s)) q l
  last_new-before (Replace n t ∷ s) q l = last_new-prefix (shift n (X.size t) (cuts X s)) q l

  -- a cut at the place or before it has a new place
  moved-some : (s : List (Section T)) (q : ℕ) → (w : ℕ) × (moved true q (cuts X s) ≡ Some w)
  moved-some s zero = (0, rw (first_new-at_zero s) refl)
  moved-some s (suc q) =
      let h : (w : ℕ) × (last_new (before (suc q) (cuts X s)) ≡ Some w) = last_new-before s (suc q) (omega arith) in
      rw h.1 (option_or-some (first_new (at (suc q) (cuts X s))) h.0)

  -- moving on past one section
  or-plus-negative : (a b r : Option ℕ) (n w : ℕ) → option_or a b ≡ Some w → option_or (plus n a) (option_or (plus n b) r) ≡ plus n (option_or a b)
  or-plus-negative (Some m) b r n w h = refl
  or-plus-negative None (Some m) r n w h = refl
  or-plus-negative None None r n w h = cc

  or-plus : (a b : Option ℕ) (n : ℕ) → option_or (plus n a) (plus n b) ≡ plus n (option_or a b)
  or-plus (Some m) b n = refl
  or-plus None b n = refl

  or-plus-some : (a b r : Option ℕ) (n w : ℕ) → a ≡ Some w → option_or (option_or (plus n a) r) (plus n b) ≡ plus n (option_or a b)
  or-plus-some (Some m) b r n w h = refl
  or-plus-some None b r n w h = cc

  pub moved-keep_in : (negative : Bool) (n : ℕ) (s : List (Section T)) (p : ℕ) → p < n → moved negative p (cuts X (Keep n ∷ s)) ≡ Some p
  moved-keep_in true n s p l =
      rw (filter-append (λ (c : Pair). eqb c.0 p) (diagonal n) (shift n n (cuts X s)), at-diagonal n p l) refl
  moved-keep_in false n s p l =
      rw (filter-append (λ (c : Pair). eqb c.0 p) (diagonal n) (shift n n (cuts X s)), at-diagonal n p l, at-shift-none p n n (cuts X s) l) refl

  pub moved-keep_on : (negative : Bool) (n : ℕ) (s : List (Section T)) (p : ℕ) → n ≤ p → moved negative p (cuts X (Keep n ∷ s)) ≡ plus n (moved negative (p - n) (cuts X s))
  moved-keep_on true n s p l =
      let h : (w : ℕ) × (moved true (p - n) (cuts X s) ≡ Some w) = moved-some s (p - n) in
      rw (
        filter-append (λ (c : Pair). eqb c.0 p) (diagonal n) (shift n n (cuts X s)),
        at-diagonal-none n p l,
        at-shift p n n (cuts X s) l,
        first_new-shift n n (at (p - n) (cuts X s)),
        filter-append (λ (c : Pair). ltb c.0 p) (diagonal n) (shift n n (cuts X s)),
        before-shift p n n (cuts X s) l,
        last_new-append (before p (diagonal n)) (shift n n (before (p - n) (cuts X s))),
        last_new-shift n n (before (p - n) (cuts X s)),
      )
      (or-plus-negative (first_new (at (p - n) (cuts X s))) (last_new (before (p - n) (cuts X s))) (last_new (before p (diagonal n))) n h.0 h.1)
  moved-keep_on false n s p l =
      rw (
        filter-append (λ (c : Pair). eqb c.0 p) (diagonal n) (shift n n (cuts X s)),
        at-diagonal-none n p l,
        at-shift p n n (cuts X s) l,
        last_new-shift n n (at (p - n) (cuts X s)),
        filter-append (λ (c : Pair). ltb p c.0) (diagonal n) (shift n n (cuts X s)),
        after-diagonal-none n p l,
        after-shift p n n (cuts X s) l,
        first_new-shift n n (after (p - n) (cuts X s)),
      )
      (or-plus (last_new (at (p - n) (cuts X s))) (first_new (after (p - n) (cuts X s))) n)

  eqb-zero : (p : ℕ) → 0 < p → eqb 0 p ≡ false
  eqb-zero p l = grind (arith, nat_tests)

  cond-false : {A : Type 0} (b : Bool) (x y : A) → b ≡ false → cond b x y ≡ y
  cond-false true x y h = cc
  cond-false false x y h = refl

  at-prefix : (cs : List Pair) (p : ℕ) → 0 < p → at p ((0, 0) ∷ cs) ≡ at p cs
  at-prefix cs p l = cond-false (eqb 0 p) ((0, 0) ∷ at p cs) (at p cs) (eqb-zero p l)

  before-prefix : (cs : List Pair) (p : ℕ) → 0 < p → before p ((0, 0) ∷ cs) ≡ (0, 0) ∷ before p cs
  before-prefix cs p l = cond-true (ltb 0 p) ((0, 0) ∷ before p cs) (before p cs) (ltb-zero p l)

  after-prefix : (cs : List Pair) (p : ℕ) → after p ((0, 0) ∷ cs) ≡ after p cs
  after-prefix cs p = cond-false (ltb p 0) ((0, 0) ∷ after p cs) (after p cs) (ltb-suc-zero p)

  pub moved-replace_left : (n : ℕ) (t : T) (s : List (Section T)) (p : ℕ) → (p < n) ⊎ (p ≡ 0) → moved true p (cuts X (Replace n t ∷ s)) ≡ Some 0
  moved-replace_left n t s zero h = refl
  moved-replace_left n t s (suc p) h =
      let l : suc p < n = omega (arith, h) in
      rw (
        at-prefix (shift n (X.size t) (cuts X s)) (suc p) (omega arith),
        at-shift-none (suc p) n (X.size t) (cuts X s) l,
        before-prefix (shift n (X.size t) (cuts X s)) (suc p) (omega arith),
        before-shift-none (suc p) n (X.size t) (cuts X s) (omega arith),
      ) refl

  pub moved-replace_start : (n : ℕ) (t : T) (s : List (Section T)) → 0 < n → moved false 0 (cuts X (Replace n t ∷ s)) ≡ Some 0
  moved-replace_start n t s l = rw (at-shift-none 0 n (X.size t) (cuts X s) l) refl

  pub moved-replace_right : (n : ℕ) (t : T) (s : List (Section T)) (p : ℕ) → 0 < p → p < n → moved false p (cuts X (Replace n t ∷ s)) ≡ Some (X.size t)
  moved-replace_right n t s p k l =
      rw (
        at-prefix (shift n (X.size t) (cuts X s)) p k,
        at-shift-none p n (X.size t) (cuts X s) l,
        after-prefix (shift n (X.size t) (cuts X s)) p,
        after-shift-all p n (X.size t) (cuts X s) l,
        first_new-shift n (X.size t) (cuts X s),
        first_new-cuts s,
        add-zero (X.size t),
      ) refl

  pub moved-replace_on : (negative : Bool) (n : ℕ) (t : T) (s : List (Section T)) (p : ℕ) → n ≤ p → (negative ≡ true → 0 < p) →
      moved negative p (cuts X (Replace n t ∷ s)) ≡ plus (X.size t) (moved negative (p - n) (cuts X s))
  moved-replace_on true n t s p l k =
      let h : (w : ℕ) × (moved true (p - n) (cuts X s) ≡ Some w) = moved-some s (p - n) in
      rw (
        at-prefix (shift n (X.size t) (cuts X s)) p (k refl),
        at-shift p n (X.size t) (cuts X s) l,
        first_new-shift n (X.size t) (at (p - n) (cuts X s)),
        before-prefix (shift n (X.size t) (cuts X s)) p (k refl),
        before-shift p n (X.size t) (cuts X s) l,
        last_new-shift n (X.size t) (before (p - n) (cuts X s)),
      )
      (or-plus-negative (first_new (at (p - n) (cuts X s))) (last_new (before (p - n) (cuts X s))) (Some 0) (X.size t) h.0 h.1)
  moved-replace_on false zero t s zero l k =
      let h : (w : ℕ) × (last_new (at 0 (cuts X s)) ≡ Some w) = last_new-at_zero s in
      rw (
        at-shift 0 0 (X.size t) (cuts X s) (omega arith),
        last_new-shift 0 (X.size t) (at 0 (cuts X s)),
        after-prefix (shift 0 (X.size t) (cuts X s)) 0,
        after-shift 0 0 (X.size t) (cuts X s) (omega arith),
        first_new-shift 0 (X.size t) (after 0 (cuts X s)),
      )
      (or-plus-some (last_new (at 0 (cuts X s))) (first_new (after 0 (cuts X s))) (Some 0) (X.size t) h.0 h.1)
  moved-replace_on false (suc n) t s zero l k = absurd (omega arith)
  moved-replace_on false n t s (suc p) l k =
      rw (
        at-prefix (shift n (X.size t) (cuts X s)) (suc p) (omega arith),
        at-shift (suc p) n (X.size t) (cuts X s) l,
        last_new-shift n (X.size t) (at (suc p - n) (cuts X s)),
        after-prefix (shift n (X.size t) (cuts X s)) (suc p),
        after-shift (suc p) n (X.size t) (cuts X s) l,
        first_new-shift n (X.size t) (after (suc p - n) (cuts X s)),
      )
      (or-plus (last_new (at (suc p - n) (cuts X s))) (first_new (after (suc p - n) (cuts X s))) (X.size t))

  -- what is kept, section by section
  there-keep_in : (n p : ℕ) (s : List Pair) → p < n → is_there (at p (diagonal n ++ s)) ≡ true
  there-keep_in n p s l = rw (filter-append (λ (c : Pair). eqb c.0 p) (diagonal n) s, at-diagonal n p l) refl

  there-keep_on : (n p : ℕ) (s : List Pair) → n ≤ p → is_there (at p (diagonal n ++ shift n n s)) ≡ is_there (at (p - n) s)
  there-keep_on n p s l =
      rw (filter-append (λ (c : Pair). eqb c.0 p) (diagonal n) (shift n n s), at-diagonal-none n p l, at-shift p n n s l) (is_there-shift n n (at (p - n) s))

  there-shift : (n m p : ℕ) (s : List Pair) → n ≤ p → is_there (at p (shift n m s)) ≡ is_there (at (p - n) s)
  there-shift n m p s l = rw (at-shift p n m s l) (is_there-shift n m (at (p - n) s))

  there-shift-none : (n m p : ℕ) (s : List Pair) → p < n → is_there (at p (shift n m s)) ≡ false
  there-shift-none n m p s l = rw (at-shift-none p n m s l) refl

  and-false : (b : Bool) → (b && false) ≡ false
  and-false true = refl
  and-false false = refl

  pub lost-keep_in : (mode : MapMode) (n p : ℕ) (s : List (Section T)) → p < n → is_lost X mode p (Keep n ∷ s) ≡ false
  lost-keep_in Simple n p s l = refl
  lost-keep_in TrackDel n p s l = ap not (there-keep_in n p (shift n n (cuts X s)) l)
  lost-keep_in TrackBefore n zero s l = refl
  lost-keep_in TrackBefore n (suc p) s l = rw (there-keep_in n (suc p - 1) (shift n n (kept X s)) (omega arith)) (and-false (ltb 0 (suc p)))
  lost-keep_in TrackAfter n p s l = rw (there-keep_in n p (shift n n (kept X s)) l) (and-false (ltb p (n + old_size s)))

  is_false : (b c : Bool) → b ≡ false → (b && c) ≡ false
  is_false true c h = cc
  is_false false c h = refl

  ltb-none : (n p : ℕ) → p ≤ n → ltb 0 (p - n) ≡ false
  ltb-none n p l = grind (arith, nat_tests)

  -- the character before, at the end of a section and past it
  lost-before_end : (n p : ℕ) (s : List Pair) → n ≡ p → (ltb 0 p && not (is_there (at (p - 1) (diagonal n ++ s)))) ≡ false
  lost-before_end n zero s e = refl
  lost-before_end n (suc p) s e = rw (there-keep_in n (suc p - 1) s (omega arith)) (and-false (ltb 0 (suc p)))

  lost-before_past : (n p : ℕ) (here there : List Pair) → n < p → is_there (at (p - 1) there) ≡ is_there (at (p - 1 - n) here) →
      (ltb 0 p && not (is_there (at (p - 1) there))) ≡ (ltb 0 (p - n) && not (is_there (at (p - n - 1) here)))
  lost-before_past n p here there l h =
      let e : p - n - 1 ≡ p - 1 - n = omega arith in
      rw (ltb-zero p (omega arith), ltb-zero (p - n) (omega arith), h, e) refl

  pub lost-keep_on : (mode : MapMode) (n p : ℕ) (s : List (Section T)) → n ≤ p → is_lost X mode p (Keep n ∷ s) ≡ is_lost X mode (p - n) s
  lost-keep_on Simple n p s l = refl
  lost-keep_on TrackDel n p s l = ap not (there-keep_on n p (cuts X s) l)
  lost-keep_on TrackBefore n p s l = cases (eq-or-lt_of_le l)
    where
      cases : (n ≡ p) ⊎ (n < p) → is_lost X TrackBefore p (Keep n ∷ s) ≡ is_lost X TrackBefore (p - n) s
      cases (inl e) = lost-before_end n p (shift n n (kept X s)) e ∙ sym (is_false (ltb 0 (p - n)) (not (is_there (at (p - n - 1) (kept X s)))) (ltb-none n p (omega arith)))
      cases (inr k) = lost-before_past n p (kept X s) (diagonal n ++ shift n n (kept X s)) k (there-keep_on n (p - 1) (kept X s) (omega arith))
  lost-keep_on TrackAfter n p s l = rw (there-keep_on n p (kept X s) l) (ap (λ b. b && not (is_there (at (p - n) (kept X s)))) (tests (old_size s)))
    where
      tests : (m : ℕ) → ltb p (n + m) ≡ ltb (p - n) m
      tests m = grind (arith, nat_tests)

there_from_first : (cs : List Pair) (v : ℕ) → first_new cs ≡ Some v → is_there cs ≡ true
there_from_first [] v h = cc
there_from_first (c ∷ cs) v h = refl

module _ {T C : Type 0} (X : Texts T C) where
  there-prefix : (cs : List Pair) (p : ℕ) → is_there (at p ((0, 0) ∷ cs)) ≡ cond (eqb 0 p) true (is_there (at p cs))
  there-prefix cs p = cases (eqb 0 p)
    where
      cases : (b : Bool) → is_there (cond b ((0, 0) ∷ at p cs) (at p cs)) ≡ cond b true (is_there (at p cs))
      cases true = refl
      cases false = refl

  pub lost-replace_in : (mode : MapMode) (n : ℕ) (t : T) (s : List (Section T)) (p : ℕ) → p < n → is_lost X mode p (Replace n t ∷ s) ≡ loses mode p
  lost-replace_in Simple n t s p l = refl
  lost-replace_in TrackDel n t s p l =
      rw (there-prefix (shift n (X.size t) (cuts X s)) p, there-shift-none X n (X.size t) p (cuts X s) l) (grind (arith, nat_tests))
  lost-replace_in TrackBefore n t s p l =
      rw (there-shift-none X n (X.size t) (p - 1) (kept X s) (omega arith)) (grind (arith, nat_tests))
  lost-replace_in TrackAfter n t s p l =
      rw (there-shift-none X n (X.size t) p (kept X s) l) (grind (arith, nat_tests))

  -- the character before a Replace's end
  pub lost-replace_end : (n : ℕ) (t : T) (s : List (Section T)) → 0 < n → is_lost X TrackBefore n (Replace n t ∷ s) ≡ true
  lost-replace_end n t s l = rw (there-shift-none X n (X.size t) (n - 1) (kept X s) (omega arith)) (grind (arith, nat_tests))

  pub lost-replace_on : (mode : MapMode) (n : ℕ) (t : T) (s : List (Section T)) (p : ℕ) → n ≤ p → (mode ≡ TrackBefore → (n < p) ⊎ (p ≡ 0)) → is_lost X mode p (Replace n t ∷ s) ≡ is_lost X mode (p - n) s
  lost-replace_on Simple n t s p l h = refl
  lost-replace_on TrackDel n t s p l h =
      rw (there-prefix (shift n (X.size t) (cuts X s)) p, there-shift X n (X.size t) p (cuts X s) l) (ap not (cases p l))
    where
      cases : (p : ℕ) → n ≤ p → cond (eqb 0 p) true (is_there (at (p - n) (cuts X s))) ≡ is_there (at (p - n) (cuts X s))
      cases zero l = let e : 0 - n ≡ 0 = omega arith in rw e (sym (there_from_first (at 0 (cuts X s)) 0 (first_new-at_zero X s)))
      cases (suc p) l = cond-false X (eqb 0 (suc p)) true (is_there (at (suc p - n) (cuts X s))) (eqb-zero-suc p)
  lost-replace_on TrackBefore n t s p l h = cases (h refl)
    where
      cases : (n < p) ⊎ (p ≡ 0) → is_lost X TrackBefore p (Replace n t ∷ s) ≡ is_lost X TrackBefore (p - n) s
      cases (inl k) = lost-before_past X n p (kept X s) (shift n (X.size t) (kept X s)) k (there-shift X n (X.size t) (p - 1) (kept X s) (omega arith))
      cases (inr e) = is_false X (ltb 0 p) (not (is_there (at (p - 1) (shift n (X.size t) (kept X s))))) (grind (arith, nat_tests)) ∙
          sym (is_false X (ltb 0 (p - n)) (not (is_there (at (p - n - 1) (kept X s)))) (ltb-none X n p (omega arith)))
  lost-replace_on TrackAfter n t s p l h = rw (there-shift X n (X.size t) p (kept X s) l) (ap (λ b. b && not (is_there (at (p - n) (kept X s)))) (tests (old_size s)))
    where
      tests : (m : ℕ) → ltb p (n + m) ≡ ltb (p - n) m
      tests m = grind (arith, nat_tests)

-- one section of the way
pub stops_keep : (x : Section ℕ) (n p : ℕ) (negative : Bool) → x ≡ Keep n → p < n → StopsAt x p negative p
stops_keep x n p negative e l = rw e (record { goes = λ s. moved-keep_in counted negative n s p l; within = omega arith })

pub on_keep : (x : Section ℕ) (n p : ℕ) (negative : Bool) → x ≡ Keep n → n ≤ p → GoesOn x p negative
on_keep x n p negative e l = rw e (record { goes = λ s. moved-keep_on counted negative n s p l; past = omega arith })

pub stops_left : (x : Section ℕ) (n t p : ℕ) (negative : Bool) → x ≡ Replace n t → negative ≡ true → (p < n) ⊎ (p ≡ 0) → StopsAt x p negative 0
stops_left x n t p negative e m l = rw (e, m) (record { goes = λ s. moved-replace_left counted n t s p l; within = omega arith })

pub stops_start : (x : Section ℕ) (n t p : ℕ) (negative : Bool) → x ≡ Replace n t → p ≡ 0 → 0 < n → StopsAt x p negative 0
stops_start x n t p true e m l = stops_left x n t p true e refl (inr m)
stops_start x n t p false e m l = rw (e, m) (record { goes = λ s. moved-replace_start counted n t s l; within = omega arith })

pub stops_right : (x : Section ℕ) (n t p : ℕ) (negative : Bool) → x ≡ Replace n t → negative ≡ false → 0 < p → p < n → StopsAt x p negative t
stops_right x n t p negative e m k l = rw (e, m) (record { goes = λ s. moved-replace_right counted n t s p k l; within = omega arith })

pub on_replace : (x : Section ℕ) (n t p : ℕ) (negative : Bool) → x ≡ Replace n t → n ≤ p → (negative ≡ true → 0 < p) → GoesOn x p negative
on_replace x n t p negative e l k = rw e (record { goes = λ s. moved-replace_on counted negative n t s p l k; past = omega arith })

pub keeps_kept : (x : Section ℕ) (n p : ℕ) (mode : MapMode) → x ≡ Keep n → p < n → DecidesLoss x p mode false
keeps_kept x n p mode e l = rw e (record { says = λ s. lost-keep_in counted mode n p s l })

pub leaves_keep : (x : Section ℕ) (n p : ℕ) (mode : MapMode) → x ≡ Keep n → n ≤ p → LeavesLoss x p mode
leaves_keep x n p mode e l = rw e (record { says = λ s. lost-keep_on counted mode n p s l; past = omega arith })

pub loses_in : (x : Section ℕ) (n t p : ℕ) (mode : MapMode) (lost : Bool) → x ≡ Replace n t → p < n → loses mode p ≡ lost → DecidesLoss x p mode lost
loses_in x n t p mode lost e l h = rw (e, ← h) (record { says = λ s. lost-replace_in counted mode n t s p l })

pub loses_end : (x : Section ℕ) (n t p : ℕ) (mode : MapMode) → x ≡ Replace n t → p ≡ n → 0 < p → mode ≡ TrackBefore → DecidesLoss x p mode true
loses_end x n t p mode e m k h = rw (e, m, h) (record { says = λ s. lost-replace_end counted n t s (omega arith) })

pub leaves_replace : (x : Section ℕ) (n t p : ℕ) (mode : MapMode) → x ≡ Replace n t → n ≤ p → (mode ≡ TrackBefore → (n < p) ⊎ (p ≡ 0)) → LeavesLoss x p mode
leaves_replace x n t p mode e l h = rw e (record { says = λ s. lost-replace_on counted mode n t s p l h; past = omega arith })

pub loss_at_end : (o : Option Bool) (x : Section ℕ) (n t p : ℕ) (mode : MapMode) → MatchOption o (mode ≢ TrackBefore) (λ lost. (lost ≡ true) × (mode ≡ TrackBefore)) →
    x ≡ Replace n t → p ≡ n → 0 < p → MatchOption o (LeavesLoss x p mode) (λ lost. DecidesLoss x p mode lost)
loss_at_end None x n t p mode h e m k = leaves_replace x n t p mode e (omega arith) (λ b. absurd (h b))
loss_at_end (Some lost) x n t p mode h e m k = rw h.0 (loses_end x n t p mode e m k h.1)
