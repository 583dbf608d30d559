-- Contents of compartments as ascending lists.
use Rattle.std.proofs.Common.{◌≡◌, ◌<◌, ◌≤◌, ◌∙◌, ℕ, List, [], ◌∷◌, Bool, true, false, cond, ◌||◌, eqb, Option, Some, None, refl, sym, ap, subst, ⊎_elim, arith}
use Rattle.std.proofs.lemmas.Bool.{cases_eq, cases_order, eq-eqb, ne_eqb, lt-ltb, le-ltb}
use Rattle.std.specs.declared.cmp.Ordering.{Ordering}
use Rattle.std.specs.declared.cmp.Ordering.TheVariants.{Less, Equal, Greater}
use Rattle.std.specs.Ordering.{nat_cmp, is_eq, match_ordering}
use Rattle.std.specs.List.{list_any, AllByRecursion}
use Rattle.std.specs.List.Sorted.{IsStrictlySortedBy}
use Rattle.std.specs.Map.{keys_of}
use Rattle.compartments.specs.Contents.{content_of, with_content, kept_content, AreAscending}
use Rattle.resolution.specs.Resolution.{with_kept, contents_of}

-- comparisons
cmp-less : (c k : ℕ) → c < k → nat_cmp c k ≡ Less
cmp-less c k lt = rw (lt-ltb c k lt) refl

cmp-equal : (c k : ℕ) → c ≡ k → nat_cmp c k ≡ Equal
cmp-equal c k e = rw (le-ltb c k (omega (arith, e)), eq-eqb c k e) refl

cmp-greater : (c k : ℕ) → k < c → nat_cmp c k ≡ Greater
cmp-greater c k lt = let ne : c ≡ k → ⊥ = λ e. omega (arith, lt, e) in rw (le-ltb c k (omega (arith, lt)), ne_eqb c k ne) refl

less-cmp : (c k : ℕ) → nat_cmp c k ≡ Less → c < k
less-cmp c k h =
    ⊎_elim (λ (e : c ≡ k). absurd (equal (sym (cmp-equal c k e) ∙ h))) (λ r. ⊎_elim (λ lt. lt) (λ (gt : k < c). absurd (greater (sym (cmp-greater c k gt) ∙ h))) r) (cases_order c k)
  where
    equal : Equal ≡ Less → ⊥
    equal e = cc

    greater : Greater ≡ Less → ⊥
    greater e = cc

-- the first pair of some contents, and the others
content-here : (c k n : ℕ) (es : List (ℕ × ℕ)) → c ≡ k → content_of ((k, n) ∷ es) c ≡ Some n
content-here c k n es e = rw (cmp-equal c k e) refl

content-there : (c k n : ℕ) (es : List (ℕ × ℕ)) → (c ≡ k → ⊥) → content_of ((k, n) ∷ es) c ≡ content_of es c
content-there c k n es ne =
    ⊎_elim (λ (e : c ≡ k). absurd (ne e)) (λ r. ⊎_elim (λ lt. rw (cmp-less c k lt) refl) (λ (gt : k < c). rw (cmp-greater c k gt) refl) r) (cases_order c k)

-- what is set has its content, and the others keep theirs
with-step : (es : List (ℕ × ℕ)) (k m c n : ℕ) (r : Ordering) → nat_cmp c k ≡ r → with_content ((k, m) ∷ es) c n ≡ match_ordering r ((c, n) ∷ (k, m) ∷ es) ((k, n) ∷ es) ((k, m) ∷ with_content es c n)
with-step es k m c n r h = ap (λ (o : Ordering). match_ordering o ((c, n) ∷ (k, m) ∷ es) ((k, n) ∷ es) ((k, m) ∷ with_content es c n)) h

pub with-here : (es : List (ℕ × ℕ)) (c n : ℕ) → content_of (with_content es c n) c ≡ Some n
with-here [] c n = content-here c c n [] refl
with-here (e ∷ es) c n =
    ⊎_elim
    (λ (q : c ≡ e.0). rw (with-step es e.0 e.1 c n Equal (cmp-equal c e.0 q)) (content-here c e.0 n es q))
    (λ r. ⊎_elim
    (λ (lt : c < e.0). rw (with-step es e.0 e.1 c n Less (cmp-less c e.0 lt)) (content-here c c n (e ∷ es) refl))
    (λ (gt : e.0 < c). rw (with-step es e.0 e.1 c n Greater (cmp-greater c e.0 gt)) (content-there c e.0 e.1 (with_content es c n) (λ q. omega (arith, q, gt)) ∙ with-here es c n)) r)
    (cases_order c e.0)

pub with-other : (es : List (ℕ × ℕ)) (c n q : ℕ) → (q ≡ c → ⊥) → content_of (with_content es c n) q ≡ content_of es q
with-other [] c n q ne = content-there q c n [] ne
with-other (e ∷ es) c n q ne =
    ⊎_elim
    (λ (s : c ≡ e.0). let apart : q ≡ e.0 → ⊥ = λ t. ne (t ∙ sym s) in
    rw (with-step es e.0 e.1 c n Equal (cmp-equal c e.0 s)) (content-there q e.0 n es apart ∙ sym (content-there q e.0 e.1 es apart)))
    (λ r. ⊎_elim
    (λ (lt : c < e.0). rw (with-step es e.0 e.1 c n Less (cmp-less c e.0 lt)) (content-there q c n (e ∷ es) ne))
    (λ (gt : e.0 < c). rw (with-step es e.0 e.1 c n Greater (cmp-greater c e.0 gt)) (ap (λ (o : Option ℕ). cond (is_eq (nat_cmp q e.0)) (Some e.1) o) (with-other es c n q ne))) r)
    (cases_order c e.0)

-- setting keeps what is the same
pub with-same : (es fs : List (ℕ × ℕ)) → ((c : ℕ) → content_of es c ≡ content_of fs c) → (c n q : ℕ) → content_of (with_content es c n) q ≡ content_of (with_content fs c n) q
with-same es fs h c n q =
    ⊎_elim
    (λ (e : q ≡ c). subst (λ (x : ℕ). content_of (with_content es c n) x ≡ content_of (with_content fs c n) x) (sym e) (with-here es c n ∙ sym (with-here fs c n)))
    (λ (ne : q ≡ c → ⊥). with-other es c n q ne ∙ h q ∙ sym (with-other fs c n q ne))
    (cases_eq q c)

-- setting keeps the order
all-with : (P : ℕ → Type 0) (es : List (ℕ × ℕ)) (c n : ℕ) → AllByRecursion P (keys_of es) → P c → AllByRecursion P (keys_of (with_content es c n))
all-with P [] c n all here = (here, tt)
all-with P (e ∷ es) c n all here =
    ⊎_elim
    (λ (s : c ≡ e.0). rw (with-step es e.0 e.1 c n Equal (cmp-equal c e.0 s)) all)
    (λ r. ⊎_elim
    (λ (lt : c < e.0). rw (with-step es e.0 e.1 c n Less (cmp-less c e.0 lt)) (here, all))
    (λ (gt : e.0 < c). rw (with-step es e.0 e.1 c n Greater (cmp-greater c e.0 gt)) (all.0, all-with P es c n all.1 here)) r)
    (cases_order c e.0)

all-less : (c k : ℕ) → c < k → (ks : List ℕ) → AllByRecursion (λ (y : ℕ). nat_cmp k y ≡ Less) ks → AllByRecursion (λ (y : ℕ). nat_cmp c y ≡ Less) ks
all-less c k lt [] all = tt
all-less c k lt (y ∷ ks) all = let past = less-cmp k y all.0 in (cmp-less c y (omega (arith, lt, past)), all-less c k lt ks all.1)

pub with-ascending : (es : List (ℕ × ℕ)) (c n : ℕ) → AreAscending es → AreAscending (with_content es c n)
unfolding IsStrictlySortedBy
with-ascending [] c n s = (tt, tt)
with-ascending (e ∷ es) c n s =
    ⊎_elim
    (λ (q : c ≡ e.0). rw (with-step es e.0 e.1 c n Equal (cmp-equal c e.0 q)) s)
    (λ r. ⊎_elim
    (λ (lt : c < e.0). rw (with-step es e.0 e.1 c n Less (cmp-less c e.0 lt)) ((cmp-less c e.0 lt, all-less c e.0 lt (keys_of es) s.0), s))
    (λ (gt : e.0 < c). rw (with-step es e.0 e.1 c n Greater (cmp-greater c e.0 gt)) (all-with (λ (y : ℕ). nat_cmp e.0 y ≡ Less) es c n s.0 (cmp-less e.0 c gt), with-ascending es c n s.1)) r)
    (cases_order c e.0)

-- contents of some compartments ascend
kept-ascending : (kept : List (ℕ × ℕ)) (c : ℕ) (o : Option ℕ) → AreAscending kept → AreAscending (with_kept kept c o)
kept-ascending kept c None s = s
kept-ascending kept c (Some n) s = with-ascending kept c n s

pub contents-ascending : (cs : List ℕ) (contents : List (ℕ × ℕ)) → AreAscending (contents_of cs contents)
unfolding IsStrictlySortedBy
contents-ascending [] contents = tt
contents-ascending (c ∷ cs) contents = kept-ascending (contents_of cs contents) c (content_of contents c) (contents-ascending cs contents)

-- and they are the contents of these compartments alone
none-kept : (b : Bool) (o : Option ℕ) → o ≡ None → cond b o None ≡ None
none-kept true o e = e
none-kept false o e = refl

kept-one : (kept : List (ℕ × ℕ)) (c q : ℕ) (b : Bool) (o mine : Option ℕ) → content_of kept q ≡ cond b mine None → (q ≡ c → mine ≡ o) → content_of (with_kept kept c o) q ≡ cond (eqb q c || b) mine None
kept-one kept c q b None mine before same =
    ⊎_elim
    (λ (e : q ≡ c). let none : mine ≡ None = same e in rw (eq-eqb q c e) (before ∙ none-kept b mine none ∙ sym none))
    (λ (ne : q ≡ c → ⊥). rw (ne_eqb q c ne) before)
    (cases_eq q c)
kept-one kept c q b (Some n) mine before same =
    ⊎_elim
    (λ (e : q ≡ c). rw (eq-eqb q c e) (subst (λ (x : ℕ). content_of (with_content kept c n) x ≡ Some n) (sym e) (with-here kept c n) ∙ sym (same e)))
    (λ (ne : q ≡ c → ⊥). rw (ne_eqb q c ne) (with-other kept c n q ne ∙ before))
    (cases_eq q c)

pub contents-kept : (cs : List ℕ) (contents : List (ℕ × ℕ)) (q : ℕ) → content_of (contents_of cs contents) q ≡ kept_content cs contents q
contents-kept [] contents q = refl
contents-kept (c ∷ cs) contents q =
    kept-one (contents_of cs contents) c q (list_any (eqb q) cs) (content_of contents c) (content_of contents q) (contents-kept cs contents q) (λ e. ap (content_of contents) e)

-- of two ascending lists with the same content at each compartment one is the other
past-all : (q k : ℕ) → q ≤ k → (es : List (ℕ × ℕ)) → AllByRecursion (λ (y : ℕ). nat_cmp k y ≡ Less) (keys_of es) → content_of es q ≡ None
past-all q k le [] all = refl
past-all q k le (e ∷ es) all = let past = less-cmp k e.0 all.0 in content-there q e.0 e.1 es (λ s. omega (arith, s, le, past)) ∙ past-all q k le es all.1

none-some : {n : ℕ} → None ≡ Some n → ⊥
none-some e = cc

pub same-contents : (es fs : List (ℕ × ℕ)) → AreAscending es → AreAscending fs → ((c : ℕ) → content_of es c ≡ content_of fs c) → es ≡ fs
unfolding IsStrictlySortedBy
same-contents [] [] s r h = refl
same-contents [] (f ∷ fs) s r h = absurd (none-some (h f.0 ∙ content-here f.0 f.0 f.1 fs refl))
same-contents (e ∷ es) [] s r h = absurd (none-some (sym (h e.0) ∙ content-here e.0 e.0 e.1 es refl))
same-contents (e ∷ es) (f ∷ fs) s r h =
    ⊎_elim
    (λ (q : e.0 ≡ f.0).
    let value : e.1 ≡ f.1 = one (sym (content-here e.0 e.0 e.1 es refl) ∙ h e.0 ∙ content-here e.0 f.0 f.1 fs q) in
    let rest : es ≡ fs = same-contents es fs s.1 r.1 (λ c. ⊎_elim
    (λ (t : c ≡ e.0). past-all c e.0 (omega (arith, t)) es s.0 ∙ sym (past-all c f.0 (omega (arith, t, q)) fs r.0))
    (λ (t : c ≡ e.0 → ⊥). sym (content-there c e.0 e.1 es t) ∙ h c ∙ content-there c f.0 f.1 fs (λ u. t (u ∙ sym q)))
    (cases_eq c e.0)) in
    rw (rest, q, value) refl)
    (λ o. ⊎_elim
    (λ (lt : e.0 < f.0). absurd (none-some (sym (past-first f fs e.0 lt r.0) ∙ sym (h e.0) ∙ content-here e.0 e.0 e.1 es refl)))
    (λ (gt : f.0 < e.0). absurd (none-some (sym (past-first e es f.0 gt s.0) ∙ h f.0 ∙ content-here f.0 f.0 f.1 fs refl)))
    o)
    (cases_order e.0 f.0)
  where
    one : {x y : ℕ} → Some x ≡ Some y → x ≡ y
    one q = cc

    past-first : (g : ℕ × ℕ) (gs : List (ℕ × ℕ)) (q : ℕ) → q < g.0 → AllByRecursion (λ (y : ℕ). nat_cmp g.0 y ≡ Less) (keys_of gs) → content_of (g ∷ gs) q ≡ None
    past-first g gs q lt all = content-there q g.0 g.1 gs (λ t. omega (arith, t, lt)) ∙ past-all q g.0 (omega (arith, lt)) gs all
