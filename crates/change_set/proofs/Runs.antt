-- Protected ranges joined, and runs of characters that are all protected or all not.
use Rattle.std.proofs.Common.{◌≡◌, ℕ, zero, suc, ◌+◌, ◌≤◌, ◌<◌, min, max, Bool, true, false, not, ◌&&◌, ◌||◌, leb, ltb, ◌⊎◌, inl, inr, List, [], ◌∷◌, ◌++◌, length, take, drop, cond, refl, sym, ap, subst, ◌∙◌, append_assoc, arith}
use Rattle.std.proofs.lemmas.Bool.{cases_lt, ltb-false, lt-ltb, le-ltb, le-leb, lt-leb}
use Rattle.std.proofs.lemmas.List.MinMax.{IsStrictWeakOrder-by_number}
use Rattle.std.proofs.lemmas.List.{map-append}
use Rattle.change_desc.specs.Filter.{is_in, is_protected, is_inside}
use Rattle.stable_order.specs.StableSort.{insert_by, stable_sort}
use Rattle.stable_order.proofs.StableSort.{NoneBelow, Rises, Rises-stable_sort}
use Rattle.change_set.specs.declared.protected_range.ProtectedRange.{ProtectedRange}
use Rattle.change_set.specs.Protected.{Range, Apart, is_within, HasEnded, IsRun, has, StartBy, Joins, pairs, AllFrom, Rising, AreSorted, StartBefore}

has-in : (r : Range) (p : ℕ) → r.0 ≤ p → p < r.1 → has r p ≡ true
has-in r p a b = rw (le-leb r.0 p a, lt-ltb p r.1 b) refl

has-before : (r : Range) (p : ℕ) → p < r.0 → has r p ≡ false
has-before r p a = rw (lt-leb r.0 p a) refl

and-false : (b : Bool) → (b && false) ≡ false
and-false true = refl
and-false false = refl

has-after : (r : Range) (p : ℕ) → r.1 ≤ p → has r p ≡ false
has-after r p a = ap (λ b. leb r.0 p && b) (le-ltb p r.1 a) ∙ and-false (leb r.0 p)

apart_lower : (low more : ℕ) (rs : List Range) → low ≤ more → Apart more rs → Apart low rs
apart_lower low more [] l h = tt
apart_lower low more (r ∷ rs) l h = (omega (arith, h.0), h.1, h.2)

none_before : (low : ℕ) (rs : List Range) (p : ℕ) → Apart low rs → p < low → is_in rs p ≡ false
none_before low [] p h l = refl
none_before low (r ∷ rs) p h l = rw (has-before r p (omega (arith, h.0)), none_before (suc r.1) rs p h.2 (omega (arith, h.0, h.1))) refl

none_within : (low : ℕ) (rs : List Range) (p : ℕ) → Apart low rs → p ≤ low → is_within rs p ≡ false
none_within low [] p h l = refl
none_within low (r ∷ rs) p h l = rw (le-ltb r.0 p (omega (arith, h.0)), none_within (suc r.1) rs p h.2 (omega (arith, h.0, h.1))) refl

-- strictly inside one range: the characters on both sides are in ranges
pub within-both : (low : ℕ) (rs : List Range) (p : ℕ) → Apart low rs → is_within rs (suc p) ≡ (is_in rs p && is_in rs (suc p))
within-both low [] p h = refl
within-both low (r ∷ rs) p h = cases (cases_lt p r.0) (cases_lt (suc p) r.1) (within-both (suc r.1) rs p h.2)
  where
    cases : (p < r.0) ⊎ (r.0 ≤ p) → (suc p < r.1) ⊎ (r.1 ≤ suc p) → is_within rs (suc p) ≡ (is_in rs p && is_in rs (suc p)) → is_within (r ∷ rs) (suc p) ≡ (is_in (r ∷ rs) p && is_in (r ∷ rs) (suc p))
    cases (inl a) b i = rw (le-ltb r.0 (suc p) (omega arith), none_within (suc r.1) rs (suc p) h.2 (omega (arith, h.1)), lt-leb r.0 p a, none_before (suc r.1) rs p h.2 (omega (arith, h.1))) refl
    cases (inr a) (inl b) i = rw (lt-ltb r.0 (suc p) (omega arith), lt-ltb (suc p) r.1 b, le-leb r.0 p a, lt-ltb p r.1 (omega arith), le-leb r.0 (suc p) (omega arith)) refl
    cases (inr a) (inr b) i =
        rw (le-ltb (suc p) r.1 b, and-false (ltb r.0 (suc p)), and-false (leb r.0 (suc p)), i)
        (last (cases_lt p r.1))
      where
        last : (p < r.1) ⊎ (r.1 ≤ p) → (is_in rs p && is_in rs (suc p)) ≡ (((leb r.0 p && ltb p r.1) || is_in rs p) && is_in rs (suc p))
        last (inl c) = rw (none_before (suc r.1) rs p h.2 (omega arith), none_before (suc r.1) rs (suc p) h.2 (omega (arith, b))) (sym (and-false (leb r.0 p && ltb p r.1 || false)))
        last (inr c) = rw (has-after r p c) refl

pub ended-none : (rs : List Range) (pos : ℕ) → Apart 0 rs → HasEnded rs 0 pos
ended-none rs pos h = record { within = omega arith; apart = h; same = λ p l. refl; strict = λ p l. refl }

pub ended-later : (rs : List Range) (k pos next : ℕ) → pos ≤ next → HasEnded rs k pos → HasEnded rs k next
ended-later rs k pos next l h = record { within = h.within; apart = h.apart; same = λ p m. h.same p (omega arith); strict = λ p m. h.strict p (omega arith) }

pub ended-more : (rs : List Range) (k pos : ℕ) (r : Range) → HasEnded rs k pos → k < length rs → drop k rs ≡ r ∷ drop (k + 1) rs → r.1 ≤ pos → HasEnded rs (k + 1) pos
ended-more rs k pos r h l e g = record {
  within = omega arith;
  apart = let a : Apart 0 (r ∷ drop (k + 1) rs) = subst (Apart 0) e h.apart in apart_lower 0 (suc r.1) (drop (k + 1) rs) (omega arith) a.2;
  same = λ p m. h.same p m ∙ (ap (λ d. is_in d p) e ∙ ap (λ b. b || is_in (drop (k + 1) rs) p) (has-after r p (omega arith)));
  strict = λ p m. h.strict p m ∙ (ap (λ d. is_within d p) e ∙ ap (λ b. b || is_within (drop (k + 1) rs) p) (ap (λ b. ltb r.0 p && b) (le-ltb p r.1 (omega arith)) ∙ and-false (ltb r.0 p)));
}

in-document : (rs : List Range) (len p : ℕ) → p < len → is_protected rs len p ≡ is_in rs p
in-document rs len p h = rw (lt-ltb p len h) refl

-- from facts on the ranges that are left
run_of : (rs : List Range) (k len pos to end : ℕ) (b : Bool) → HasEnded rs k pos → pos < to → to ≤ end → end ≤ len → ((p : ℕ) → pos ≤ p → p < to → is_in (drop k rs) p ≡ b) →
    (to < end → is_in (drop k rs) to ≡ not b) → IsRun rs len pos to end × (b ≡ is_protected rs len pos)
run_of rs k len pos to end b h s w d a l =
    let at : (p : ℕ) → pos ≤ p → p < to → is_protected rs len p ≡ b = λ p m n. in-document rs len p (omega arith) ∙ (h.same p m ∙ a p m n) in (
      record {
        some = s;
        within = w;
        alike = λ p m n. at p m n ∙ sym (at pos (omega arith) s);
        longest = λ m. in-document rs len to (omega arith) ∙ (h.same to (omega arith) ∙ (l m ∙ ap not (sym (at pos (omega arith) s))));
      },
      sym (at pos (omega arith) s),
    )

pub run_none : (rs : List Range) (k len pos end : ℕ) → HasEnded rs k pos → drop k rs ≡ [] → pos < end → end ≤ len → IsRun rs len pos end end × (false ≡ is_protected rs len pos)
run_none rs k len pos end h e s d = run_of rs k len pos end end false h s (omega arith) d (λ p m n. ap (λ r. is_in r p) e) (λ m. absurd (omega arith))

pub run_in : (rs : List Range) (k len pos end : ℕ) (r : Range) → HasEnded rs k pos → drop k rs ≡ r ∷ drop (k + 1) rs → r.0 ≤ pos → pos < r.1 → pos < end → end ≤ len →
    IsRun rs len pos (min r.1 end) end × (true ≡ is_protected rs len pos)
run_in rs k len pos end r h e g f s d =
    let a : Apart 0 (r ∷ drop (k + 1) rs) = subst (Apart 0) e h.apart in
    run_of rs k len pos (min r.1 end) end true h (omega arith) (omega arith) d (λ p m n. ap (λ q. is_in q p) e ∙ ap (λ b. b || is_in (drop (k + 1) rs) p) (has-in r p (omega arith) (omega arith)))
    (λ m. let t : min r.1 end ≡ r.1 = omega arith in
    rw t (ap (λ q. is_in q r.1) e ∙ (ap (λ b. b || is_in (drop (k + 1) rs) r.1) (has-after r r.1 (omega arith)) ∙ none_before (suc r.1) (drop (k + 1) rs) r.1 a.2 (omega arith))))

pub run_before : (rs : List Range) (k len pos end : ℕ) (r : Range) → HasEnded rs k pos → drop k rs ≡ r ∷ drop (k + 1) rs → pos < r.0 → pos < end → end ≤ len →
    IsRun rs len pos (min r.0 end) end × (false ≡ is_protected rs len pos)
run_before rs k len pos end r h e g s d =
    let a : Apart 0 (r ∷ drop (k + 1) rs) = subst (Apart 0) e h.apart in
    run_of rs k len pos (min r.0 end) end false h (omega arith) (omega arith) d
    (λ p m n. ap (λ q. is_in q p) e ∙ (ap (λ b. b || is_in (drop (k + 1) rs) p) (has-before r p (omega arith)) ∙ none_before (suc r.1) (drop (k + 1) rs) p a.2 (omega (arith, a.1))))
    (λ m. let t : min r.0 end ≡ r.0 = omega arith in rw t (ap (λ q. is_in q r.0) e ∙ ap (λ b. b || is_in (drop (k + 1) rs) r.0) (has-in r r.0 (omega arith) a.1)))

-- a place strictly inside
pub inside-within : (rs : List Range) (len p : ℕ) → Apart 0 rs → is_inside rs len p ≡ (ltb p len && is_within rs p)
inside-within rs len zero h = sym (ap (λ b. ltb 0 len && b) (none_within 0 rs 0 h (omega arith)) ∙ and-false (ltb 0 len))
inside-within rs len (suc p) h = cases (cases_lt (suc p) len)
  where
    cases : (suc p < len) ⊎ (len ≤ suc p) → is_inside rs len (suc p) ≡ (ltb (suc p) len && is_within rs (suc p))
    cases (inl a) = rw (lt-ltb (suc p) len a, lt-ltb p len (omega arith)) (sym (within-both 0 rs p h))
    cases (inr a) = rw (le-ltb (suc p) len a) (and-false (ltb p len && is_in rs p))

pub within-first : (rs : List Range) (k pos : ℕ) (r : Range) → HasEnded rs k pos → drop k rs ≡ r ∷ drop (k + 1) rs → pos < r.1 → is_within rs pos ≡ ltb r.0 pos
within-first rs k pos r h e l =
    let a : Apart 0 (r ∷ drop (k + 1) rs) = subst (Apart 0) e h.apart in
    h.strict pos (omega arith) ∙ (ap (λ q. is_within q pos) e ∙ rw (lt-ltb pos r.1 l, none_within (suc r.1) (drop (k + 1) rs) pos a.2 (omega arith)) (both (ltb r.0 pos)))
  where
    both : (b : Bool) → ((b && true) || false) ≡ b
    both true = refl
    both false = refl

pub within-none : (rs : List Range) (k pos : ℕ) → HasEnded rs k pos → drop k rs ≡ [] → is_within rs pos ≡ false
within-none rs k pos h e = h.strict pos (omega arith) ∙ ap (λ q. is_within q pos) e

or-assoc : (a b c : Bool) → (a || (b || c)) ≡ ((a || b) || c)
or-assoc true b c = refl
or-assoc false b c = refl

or-false : (a : Bool) → (a || false) ≡ a
or-false true = refl
or-false false = refl

pub is_in-append : (rs : List Range) (r : Range) (p : ℕ) → is_in (rs ++ r ∷ []) p ≡ (is_in rs p || has r p)
is_in-append [] r p = or-false (has r p)
is_in-append (x ∷ rs) r p = ap (λ b. has x p || b) (is_in-append rs r p) ∙ or-assoc (has x p) (is_in rs p) (has r p)

pub joins_empty : (old : List Range) (r : Range) → Apart 0 old → r.1 ≤ r.0 → Joins old old r
joins_empty old r h e = record { apart = h; same = λ p. sym (ap (λ b. is_in old p || b) (empty p) ∙ or-false (is_in old p)); starts = λ n s l. s }
  where
    empty : (p : ℕ) → has r p ≡ false
    empty p = cases (cases_lt p r.0)
      where
        cases : (p < r.0) ⊎ (r.0 ≤ p) → has r p ≡ false
        cases (inl a) = has-before r p a
        cases (inr a) = has-after r p (omega arith)

pub joins_first : (r : Range) → r.0 < r.1 → Joins [] (r ∷ []) r
joins_first r l = record { apart = (omega arith, l, tt); same = λ p. or-false (has r p); starts = λ n s m. (m, tt) }

apart-longer : (low : ℕ) (front : List Range) (last new : Range) → Apart low (front ++ last ∷ []) → new.0 ≡ last.0 → new.0 < new.1 → Apart low (front ++ new ∷ [])
apart-longer low [] last new h e l = (omega (arith, h.0), l, tt)
apart-longer low (x ∷ front) last new h e l = (h.0, h.1, apart-longer (suc x.1) front last new h.2 e l)

apart-more : (low : ℕ) (front : List Range) (last new : Range) → Apart low (front ++ last ∷ []) → last.1 < new.0 → new.0 < new.1 → Apart low (front ++ last ∷ new ∷ [])
apart-more low [] last new h e l = (h.0, h.1, (omega arith, l, tt))
apart-more low (x ∷ front) last new h e l = (h.0, h.1, apart-more (suc x.1) front last new h.2 e l)

start-last : (front : List Range) (last : Range) (n : ℕ) → StartBy (front ++ last ∷ []) n → last.0 ≤ n
start-last [] last n h = h.0
start-last (x ∷ front) last n h = start-last front last n h.1

start-same : (front : List Range) (last new : Range) (n : ℕ) → new.0 ≡ last.0 → StartBy (front ++ last ∷ []) n → StartBy (front ++ new ∷ []) n
start-same [] last new n e h = (omega (arith, h.0), tt)
start-same (x ∷ front) last new n e h = (h.0, start-same front last new n e h.1)

start-more : (front : List Range) (last new : Range) (n : ℕ) → StartBy (front ++ last ∷ []) n → new.0 ≤ n → StartBy (front ++ last ∷ new ∷ []) n
start-more [] last new n h l = (h.0, (l, tt))
start-more (x ∷ front) last new n h l = (h.0, start-more front last new n h.1 l)

apart-last : (low : ℕ) (front : List Range) (last : Range) → Apart low (front ++ last ∷ []) → last.0 < last.1
apart-last low [] last h = h.1
apart-last low (x ∷ front) last h = apart-last (suc x.1) front last h.2

united : (a b c d p : ℕ) → a ≤ c → c ≤ b → has (a, max b d) p ≡ (has (a, b) p || has (c, d) p)
united a b c d p l m = cases (cases_lt p a) (cases_lt p b) (cases_lt p d)
  where
    cases : (p < a) ⊎ (a ≤ p) → (p < b) ⊎ (b ≤ p) → (p < d) ⊎ (d ≤ p) → has (a, max b d) p ≡ (has (a, b) p || has (c, d) p)
    cases (inl x) y z = rw (has-before (a, max b d) p x, has-before (a, b) p x, has-before (c, d) p (omega arith)) refl
    cases (inr x) (inl y) z = rw (has-in (a, max b d) p x (omega arith), has-in (a, b) p x y) refl
    cases (inr x) (inr y) (inl z) = rw (has-in (a, max b d) p x (omega arith), has-after (a, b) p y, has-in (c, d) p (omega arith) z) refl
    cases (inr x) (inr y) (inr z) = rw (has-after (a, max b d) p (omega arith), has-after (a, b) p y, has-after (c, d) p z) refl

pub joins_longer : (old front : List Range) (last : Range) (from to : ℕ) → old ≡ front ++ last ∷ [] → Apart 0 old → StartBy old from → from ≤ last.1 →
    Joins old (front ++ (last.0, max last.1 to) ∷ []) (from, to)
joins_longer old front last from to e h s l =
    let a : Apart 0 (front ++ last ∷ []) = subst (Apart 0) e h in
    let b : last.0 ≤ from = start-last front last from (subst (λ r. StartBy r from) e s) in
    let c : last.0 < last.1 = apart-last 0 front last a in
    record {
      apart = apart-longer 0 front last (last.0, max last.1 to) a refl (omega arith);
      same = λ p. is_in-append front (last.0, max last.1 to) p ∙ (ap (λ d. is_in front p || d) (united last.0 last.1 from to p b l) ∙
          (or-assoc (is_in front p) (has last p) (has (from, to) p) ∙ ap (λ d. d || has (from, to) p) (sym (ap (λ r. is_in r p) e ∙ is_in-append front last p))));
      starts = λ n t m. start-same front last (last.0, max last.1 to) n refl (subst (λ r. StartBy r n) e t);
    }

pub joins_more : (old front : List Range) (last : Range) (from to : ℕ) → old ≡ front ++ last ∷ [] → Apart 0 old → last.1 < from → from < to →
    Joins old (front ++ last ∷ [] ++ (from, to) ∷ []) (from, to)
joins_more old front last from to e h l m =
    let a : Apart 0 (front ++ last ∷ []) = subst (Apart 0) e h in
    rw (append_assoc front (last ∷ []) ((from, to) ∷ []))
    (record {
      apart = apart-more 0 front last (from, to) a l m;
      same = λ p. ap (λ r. is_in r p) (sym (append_assoc front (last ∷ []) ((from, to) ∷ []))) ∙ (is_in-append (front ++ last ∷ []) (from, to) p ∙ ap (λ r. is_in r p || has (from, to) p) (sym e));
      starts = λ n t k. start-more front last (from, to) n (subst (λ r. StartBy r n) e t) k;
    })

-- SORTING
or-swap : (a b c : Bool) → (a || (b || c)) ≡ (b || (a || c))
or-swap true true c = refl
or-swap true false c = refl
or-swap false true c = refl
or-swap false false c = refl

abbrev pub lt : ProtectedRange → ProtectedRange → Bool
lt a b = ltb a.from b.from

in-insert : (x : ProtectedRange) (rs : List ProtectedRange) (p : ℕ) → is_in (pairs (insert_by lt x rs)) p ≡ (has (x.from, x.to) p || is_in (pairs rs) p)
in-insert x [] p = refl
in-insert x (y ∷ rs) p = cases (lt y x) (in-insert x rs p)
  where
    cases : (b : Bool) → is_in (pairs (insert_by lt x rs)) p ≡ (has (x.from, x.to) p || is_in (pairs rs) p) →
        is_in (pairs (cond b (y ∷ insert_by lt x rs) (x ∷ y ∷ rs))) p ≡ (has (x.from, x.to) p || (has (y.from, y.to) p || is_in (pairs rs) p))
    cases true h = ap (λ c. has (y.from, y.to) p || c) h ∙ or-swap (has (y.from, y.to) p) (has (x.from, x.to) p) (is_in (pairs rs) p)
    cases false h = refl

pub in-sorted : (rs : List ProtectedRange) (p : ℕ) → is_in (pairs (stable_sort lt rs)) p ≡ is_in (pairs rs) p
in-sorted [] p = refl
in-sorted (x ∷ rs) p = in-insert x (stable_sort lt rs) p ∙ ap (λ b. has (x.from, x.to) p || b) (in-sorted rs p)

all-from : (x : ProtectedRange) (rs : List ProtectedRange) → NoneBelow lt x rs → AllFrom x.from rs
all-from x [] h = tt
all-from x (y ∷ rs) h = (ltb-false y.from x.from h.0, all-from x rs h.1)

rising : (rs : List ProtectedRange) → Rises lt rs → Rising rs
rising [] h = tt
rising (x ∷ rs) h = (all-from x rs h.0, rising rs h.1)

pub sorted : (given : List Range) (rs s : List ProtectedRange) → pairs rs ≡ given → s ≡ stable_sort lt rs → AreSorted given s
sorted given rs s e f = record {
  same = λ p. ap (λ r. is_in (pairs r) p) f ∙ (in-sorted rs p ∙ ap (λ r. is_in r p) e);
  rising = rising s (rw f (Rises-stable_sort lt (IsStrictWeakOrder-by_number (λ (r : ProtectedRange). r.from)) rs));
}

-- one more range joined
pub start-before : (old new : List Range) (x : ProtectedRange) (rs : List ProtectedRange) → Joins old new (x.from, x.to) → AllFrom x.from rs → StartBefore old rs → StartBefore new rs
start-before old new x [] j a s = tt
start-before old new x (y ∷ rs) j a s = (j.starts y.from s.0 a.0, start-before old new x rs j a.1 s.1)

pub joined-more : (old new : List Range) (i : ℕ) (s : List ProtectedRange) (x : ProtectedRange) → Joins old new (x.from, x.to) → take (i + 1) s ≡ take i s ++ x ∷ [] →
    ((p : ℕ) → is_in old p ≡ is_in (pairs (take i s)) p) → (p : ℕ) → is_in new p ≡ is_in (pairs (take (i + 1) s)) p
joined-more old new i s x j t h p =
    j.same p ∙ (ap (λ b. b || has (x.from, x.to) p) (h p) ∙
    (sym (is_in-append (pairs (take i s)) (x.from, x.to) p) ∙ ap (λ r. is_in r p) (sym (ap pairs t ∙ map-append (λ (r : ProtectedRange). (r.from, r.to)) (take i s) (x ∷ [])))))

pub start-none : (rs : List ProtectedRange) → StartBefore [] rs
start-none [] = tt
start-none (r ∷ rs) = (tt, start-none rs)

-- whether a place is strictly inside
pub inside_past : (rs : List Range) (len p : ℕ) → Apart 0 rs → len ≤ p → false ≡ is_inside rs len p
inside_past rs len p h l = sym (inside-within rs len p h ∙ rw (le-ltb p len l) refl)

pub inside_none : (rs : List Range) (k len p : ℕ) → Apart 0 rs → HasEnded rs k p → p < len → drop k rs ≡ [] → false ≡ is_inside rs len p
inside_none rs k len p h e l d = sym (inside-within rs len p h ∙ rw (lt-ltb p len l, within-none rs k p e d) refl)

pub inside_first : (rs : List Range) (k len p : ℕ) (r : Range) → Apart 0 rs → HasEnded rs k p → p < len → drop k rs ≡ r ∷ drop (k + 1) rs → p < r.1 → ltb r.0 p ≡ is_inside rs len p
inside_first rs k len p r h e l d m = sym (inside-within rs len p h ∙ rw (lt-ltb p len l, within-first rs k p r e d m) refl)
