use Rattle.std.proofs.Common.{◌≡◌, ◌<◌, ◌+◌, ◌-◌, ◌++◌, ◌∙◌, ◌≢◌, ℕ, zero, suc, List, [], ◌∷◌, Bool, true, false, cond, not, ◌&&◌, ◌||◌, eqb, length, reverse, sum_by, get_or, refl, sym, ap, subst, ⊎_elim, inl, inr, arith, append_assoc, length-append, length-set, get_or-set_other, get_or-set_same}
use Rattle.std.proofs.lemmas.Bool.{cases_Bool, cases_eq, eqb-true, eqb-false, ne_eqb, eq-eqb, true≢false, or_cases}
use Rattle.std.proofs.lemmas.List.{reverse-append}
use Rattle.std.proofs.lemmas.List.Folds.{list_any-append}
use Rattle.std.proofs.lemmas.List.Sums.{sum_by-set}
use Rattle.std.specs.List.{list_any, AllByRecursion}
use Rattle.dep_graph.specs.declared.edge.Edge.{Edge}
use Rattle.id_lists.specs.Members.{In}
use Rattle.dep_graph.specs.Order.{IsEdge, edge, DependsOn, IsOrdered}
use Rattle.dep_graph.proofs.Members.{in-end, in-more, in-parts, in-reverse, from-reverse}
use Rattle.dep_graph.specs.Counting.{has, is_left, left, dependents_of, times, waits, IsProgress, IsTold}

-- what is done
or-true : (b : Bool) → (b || true) ≡ true
or-true true = refl
or-true false = refl

pub has-in : (ns : List ℕ) (n : ℕ) → In n ns → has ns n ≡ true
has-in [] n i = absurd i
has-in (m ∷ ns) n i = ⊎_elim (λ e. let q : eqb n m ≡ true = eq-eqb n m e in rw q refl) (λ j. let ih = has-in ns n j in ⊎_elim (λ q. rw q refl) (λ q. rw ih (or-true (eqb n m))) (cases_Bool (eqb n m))) i

pub in-has : (ns : List ℕ) (n : ℕ) → has ns n ≡ true → In n ns
in-has [] n h = absurd (true≢false (sym h))
in-has (m ∷ ns) n h = ⊎_elim (λ e. inl (eqb-true n m e)) (λ e. inr (in-has ns n e)) (or_cases (eqb n m) (list_any (eqb n) ns) h)

-- where no dependency is left, all are done
pub left-none : (done : List ℕ) (v d : ℕ) (es : List Edge) → left done v es ≡ 0 → DependsOn es v d → has done d ≡ true
left-none done v d [] none i = absurd i
left-none done v d (e ∷ es) none i =
    ⊎_elim
    (λ same. first (subst (λ (x : Edge). is_left done v x ≡ false) (sym same) (no_more (is_left done v e) (left done v es) none).0))
    (λ j. left-none done v d es (no_more (is_left done v e) (left done v es) none).1 j)
    i
  where
    no_more : (b : Bool) (n : ℕ) → cond b 1 0 + n ≡ 0 → (b ≡ false) × (n ≡ 0)
    no_more true n h = absurd (omega (arith, h))
    no_more false n h = (refl, omega (arith, h))

    first : is_left done v (edge v d) ≡ false → has done d ≡ true
    first h = ⊎_elim (λ q. q) (λ q. absurd (true≢false (sym (shown q) ∙ h))) (cases_Bool (has done d))
      where
        shown : has done d ≡ false → is_left done v (edge v d) ≡ true
        shown q = let one : eqb v v ≡ true = eq-eqb v v refl in rw (one, q) refl

-- and where all are done none is left
pub none-left : (done : List ℕ) (v : ℕ) (es : List Edge) → ((d : ℕ) → DependsOn es v d → has done d ≡ true) → left done v es ≡ 0
none-left done v [] all = refl
none-left done v (e ∷ es) all =
    let ih = none-left done v es (λ d i. all d (inr i)) in
    ⊎_elim
    (λ q. let same : v ≡ e.vertex = sym (eqb-true e.vertex v q) in
    let h : has done e.dependency ≡ true = all e.dependency (inl (ap (λ (x : ℕ). edge x e.dependency) same)) in
    let off : is_left done v e ≡ false = rw (q, h) refl in rw (off, ih) refl)
    (λ q. let off : is_left done v e ≡ false = rw q refl in rw (off, ih) refl)
    (cases_Bool (eqb e.vertex v))

-- one more is done: its dependents are to be told
pub has-more : (done : List ℕ) (d n : ℕ) → has (done ++ d ∷ []) n ≡ (has done n || eqb n d)
has-more done d n = rw (list_any-append (eqb n) done (d ∷ [])) (grind arith)

split : (a b c : Bool) (all less told : ℕ) → (b ≡ true → c ≡ false) → all ≡ less + told → cond (a && not c) 1 0 + all ≡ cond (a && not (c || b)) 1 0 + less + cond b (cond a 1 0 + told) told
split a true true all less told new is = absurd (true≢false (new refl))
split true true false all less told new is = omega (arith, is)
split false true false all less told new is = omega (arith, is)
split true false true all less told new is = omega (arith, is)
split false false true all less told new is = omega (arith, is)
split true false false all less told new is = omega (arith, is)
split false false false all less told new is = omega (arith, is)

times-cond : (v n : ℕ) (b : Bool) (ns : List ℕ) → times v (cond b (n ∷ ns) ns) ≡ cond b (cond (eqb n v) 1 0 + times v ns) (times v ns)
times-cond v n true ns = refl
times-cond v n false ns = refl

pub left-more : (done : List ℕ) (v d : ℕ) (es : List Edge) → has done d ≡ false → left done v es ≡ left (done ++ d ∷ []) v es + times v (dependents_of d es)
left-more done v d [] new = refl
left-more done v d (e ∷ es) new =
    let ih = left-more done v d es new in
    rw (times-cond v e.vertex (eqb e.dependency d) (dependents_of d es), has-more done d e.dependency)
    (split (eqb e.vertex v) (eqb e.dependency d) (has done e.dependency) (left done v es) (left (done ++ d ∷ []) v es) (times v (dependents_of d es))
    (λ q. let same : e.dependency ≡ d = eqb-true e.dependency d q in subst (λ (x : ℕ). has done x ≡ false) (sym same) new) ih)

-- a dependent is told
module _ (count : ℕ) (es : List Edge) (done : List ℕ) (v : ℕ) (pending counts order counts' order' : List ℕ)
    (p : IsProgress count es done (v ∷ pending) counts order) (told : IsTold v counts order counts' order') where
  within : v < count
  within = p.pending_within.0

  pub here : get_or counts v 0 ≡ left done v es + (1 + times v pending)
  here = let one : eqb v v ≡ true = eq-eqb v v refl in p.counted v within ∙ rw one refl

  now : get_or counts' v 0 ≡ get_or counts v 0 - 1
  now = let inside : v < length counts = omega (arith, within, p.as_many) in rw told.counts_are (rw get_or-set_same refl)

  other : (u : ℕ) → u ≢ v → get_or counts' u 0 ≡ get_or counts u 0
  other u ne = rw told.counts_are (rw (get_or-set_other counts v u (get_or counts v 0 - 1) 0 ne) refl)

  skip : (u : ℕ) → eqb v u ≡ false → times u (v ∷ pending) ≡ times u pending
  skip u e = rw e (omega arith)

  counted : (u : ℕ) → u < count → get_or counts' u 0 ≡ left done u es + times u pending
  counted u lt =
      ⊎_elim
      (λ e. rw e (let h = here in let k = now in omega (arith, h, k)))
      (λ (ne : u ≢ v). let zero : eqb v u ≡ false = ne_eqb v u (λ q. ne (sym q)) in let k = p.counted u lt in
      let t : times u (v ∷ pending) ≡ times u pending = skip u zero in rw (other u ne) (k ∙ ap (λ (n : ℕ). left done u es + n) t))
      (cases_eq u v)

  as_many : length counts' ≡ count
  as_many = rw told.counts_are (rw length-set p.as_many)

  sums : sum_by waits counts' + waits (get_or counts v 0) ≡ sum_by waits counts + waits (get_or counts v 0 - 1)
  sums = let inside : v < length counts = omega (arith, within, p.as_many) in rw told.counts_are (sum_by-set waits counts v (get_or counts v 0 - 1) 0 inside)

  -- the last dependency was done
  ready : eqb (get_or counts v 0) 1 ≡ true → IsProgress count es done pending counts' order'
  ready q =
      let one : get_or counts v 0 ≡ 1 = eqb-true (get_or counts v 0) 1 q in
      let grown : order' ≡ order ++ v ∷ [] = rw told.order_is (rw q refl) in
      let h = here in let k = now in
      let none : left done v es ≡ 0 = omega (arith, h, one) in
      let zero : get_or counts' v 0 ≡ 0 = omega (arith, k, one) in
      let new : In v order → ⊥ = λ i. let z = (p.in_ready v i).1 in omega (arith, z, one) in
      let w1 : waits (get_or counts v 0) ≡ 1 = rw one refl in
      let w0 : waits (get_or counts v 0 - 1) ≡ 0 = rw one refl in
      let s = sums in let room = p.room in
      record {
        as_many = as_many;
        counted = counted;
        ready_in = λ u lt z. rw grown (⊎_elim (λ e. in-end order (v ∷ []) u (inl e)) (λ ne. in-more order (v ∷ []) u (p.ready_in u lt (sym (other u ne) ∙ z))) (cases_eq u v));
        in_ready = λ u i. ⊎_elim (λ j. let ne : u ≢ v = λ e. new (subst (λ (n : ℕ). In n order) e j) in let r = p.in_ready u j in (r.0, other u ne ∙ r.1))
            (λ j. ⊎_elim (λ e. (rw e within, rw e zero)) (λ none. absurd none) j)
            (in-parts order (v ∷ []) u (subst (λ (ns : List ℕ). In u ns) grown i));
        pending_within = p.pending_within.1;
        done_in = λ u d. rw grown (in-more order (v ∷ []) u (p.done_in u d));
        ordered = rw grown (rw reverse-append ((λ d i. in-reverse order d (p.done_in d (left-none done v d es none i))), (λ i. new (from-reverse order v i)), p.ordered));
        room = rw grown (rw length-append (omega (arith, s, w1, w0, room)));
      }

  -- others are left
  waiting : eqb (get_or counts v 0) 1 ≡ false → IsProgress count es done pending counts' order'
  waiting q =
      let same : order' ≡ order = rw told.order_is (rw q refl) in
      let ne : get_or counts v 0 ≢ 1 = eqb-false (get_or counts v 0) 1 q in
      let h = here in let k = now in
      let out : In v order → ⊥ = λ i. let z = (p.in_ready v i).1 in omega (arith, z, h) in
      let w1 : waits (get_or counts v 0) ≡ 1 = still (get_or counts v 0) (omega (arith, h)) in
      let w2 : waits (get_or counts v 0 - 1) ≡ 1 = still (get_or counts v 0 - 1) (omega (arith, h, ne)) in
      let s = sums in let room = p.room in
      record {
        as_many = as_many;
        counted = counted;
        ready_in = λ u lt z. rw same (⊎_elim (λ e. absurd (let g : get_or counts' v 0 ≡ 0 = subst (λ (n : ℕ). get_or counts' n 0 ≡ 0) e z in omega (arith, h, k, ne, g))) (λ d. p.ready_in u lt (sym (other u d) ∙ z)) (cases_eq u v));
        in_ready = λ u i. let j : In u order = subst (λ (ns : List ℕ). In u ns) same i in let d : u ≢ v = λ e. out (subst (λ (n : ℕ). In n order) e j) in let r = p.in_ready u j in (r.0, other u d ∙ r.1);
        pending_within = p.pending_within.1;
        done_in = λ u d. rw same (p.done_in u d);
        ordered = rw same p.ordered;
        room = rw same (omega (arith, s, w1, w2, room));
      }
    where
      still : (n : ℕ) → 0 < n → waits n ≡ 1
      still zero lt = absurd (omega (arith, lt))
      still (suc n) lt = let z : eqb (suc n) 0 ≡ false = ne_eqb (suc n) 0 (λ e. omega (arith, e)) in rw z refl

  pub told-one : IsProgress count es done pending counts' order'
  told-one = ⊎_elim ready waiting (cases_Bool (eqb (get_or counts v 0) 1))

-- a vertex of the order is done, and its dependents are to be told
ordered-end : (es : List Edge) (xs ys : List ℕ) → IsOrdered es (xs ++ ys) → IsOrdered es ys
ordered-end es [] ys h = h
ordered-end es (x ∷ xs) ys h = ordered-end es xs ys h.2

dependents-within : (count d : ℕ) (es : List Edge) → AllByRecursion (IsEdge count) es → AllByRecursion (λ v. v < count) (dependents_of d es)
dependents-within count d [] h = h
dependents-within count d (e ∷ es) h =
    let ih = dependents-within count d es h.1 in ⊎_elim (λ q. rw q (h.0.vertex, ih)) (λ q. rw q ih) (cases_Bool (eqb e.dependency d))

pub tells : (count : ℕ) (es : List Edge) (done counts order : List ℕ) (d : ℕ) (rest : List ℕ) → AllByRecursion (IsEdge count) es → order ≡ done ++ d ∷ rest → IsProgress count es done [] counts order → IsProgress count es (done ++ d ∷ []) (dependents_of d es) counts order
tells count es done counts order d rest edges is p =
    let new : In d (reverse done) → ⊥ =
    (ordered-end es (reverse rest) (d ∷ reverse done) (subst (λ (ns : List ℕ). IsOrdered es ns) (ap reverse is ∙ back) p.ordered)).1 in
    let out : has done d ≡ false = ⊎_elim (λ q. absurd (new (in-reverse done d (in-has done d q)))) (λ q. q) (cases_Bool (has done d)) in
    record {
      as_many = p.as_many;
      counted = λ v lt. let k = p.counted v lt in let m = left-more done v d es out in omega (arith, k, m);
      ready_in = p.ready_in;
      in_ready = p.in_ready;
      pending_within = dependents-within count d es edges;
      done_in = λ v h. ⊎_elim (λ q. p.done_in v q) (λ q. let e : v ≡ d = eqb-true v d q in rw e (rw is (in-end done (d ∷ rest) d (inl refl)))) (or_cases (has done v) (eqb v d) (sym (has-more done d v) ∙ h));
      ordered = p.ordered;
      room = p.room;
    }
  where
    back : reverse (done ++ d ∷ rest) ≡ reverse rest ++ d ∷ reverse done
    back = rw reverse-append (rw (reverse-append (d ∷ []) rest) (append_assoc (reverse rest) (d ∷ []) (reverse done)))
