use Rattle.std.proofs.Common.{◌≡◌, ◌<◌, ◌≤◌, ◌+◌, ◌++◌, ◌∙◌, ℕ, zero, suc, List, [], ◌∷◌, Bool, true, cond, eqb, length, take, reverse, sum_by, get_or, refl, sym, subst, ⊎_elim, inl, arith, length-append, add-one}
use Rattle.std.proofs.lemmas.Bool.{cases_Bool, cases_eq, eqb-true, eq-eqb, true≢false}
use Rattle.std.proofs.lemmas.List.{reverse-append}
use Rattle.std.proofs.lemmas.List.Sums.{sum_by_more}
use Rattle.std.proofs.Math.Seq.{take-length}
use Rattle.dep_graph.specs.declared.edge.Edge.{Edge}
use Rattle.id_lists.specs.Members.{In}
use Rattle.dep_graph.specs.Order.{IsOrdered}
use Rattle.dep_graph.specs.Counting.{left, waits, ready_below, AreCounts, IsProgress}
use Rattle.dep_graph.proofs.Members.{in-end, in-more, in-parts, from-reverse}
use Rattle.dep_graph.proofs.Told.{left-none}

module _ (counts : List ℕ) where
  ready-within : (k v : ℕ) → In v (ready_below counts k) → (v < k) × (get_or counts v 0 ≡ 0)
  ready-within zero v i = absurd i
  ready-within (suc k) v i =
      ⊎_elim
      (λ q. ⊎_elim (λ j. let r = ready-within k v j in (omega (arith, r.0), r.1)) (λ j. ⊎_elim (λ e. (omega (arith, e), rw e (eqb-true (get_or counts k 0) 0 q))) (λ none. absurd none) j)
      (in-parts (ready_below counts k) (k ∷ []) v (subst (λ (b : Bool). In v (cond b (ready_below counts k ++ k ∷ []) (ready_below counts k))) q i)))
      (λ q. let r = ready-within k v (subst (λ (b : Bool). In v (cond b (ready_below counts k ++ k ∷ []) (ready_below counts k))) q i) in (omega (arith, r.0), r.1))
      (cases_Bool (eqb (get_or counts k 0) 0))

  within-ready : (k v : ℕ) → v < k → get_or counts v 0 ≡ 0 → In v (ready_below counts k)
  within-ready zero v lt z = absurd (omega (arith, lt))
  within-ready (suc k) v lt z =
      ⊎_elim
      (λ e. let q : eqb (get_or counts k 0) 0 ≡ true = eq-eqb (get_or counts k 0) 0 (subst (λ (n : ℕ). get_or counts n 0 ≡ 0) e z) in rw q (in-end (ready_below counts k) (k ∷ []) v (inl e)))
      (λ ne. let ih = within-ready k v (omega (arith, lt, ne)) z in ⊎_elim (λ q. rw q (in-more (ready_below counts k) (k ∷ []) v ih)) (λ q. rw q ih) (cases_Bool (eqb (get_or counts k 0) 0)))
      (cases_eq v k)

  ready-room : (k : ℕ) → k ≤ length counts → length (ready_below counts k) + sum_by waits (take k counts) ≡ k
  ready-room zero le = refl
  ready-room (suc k) le =
      let ih = ready-room k (omega (arith, le)) in
      let inside : k < length counts = omega (arith, le) in
      let more : sum_by waits (take (suc k) counts) ≡ sum_by waits (take k counts) + waits (get_or counts k 0) = subst (λ (n : ℕ). sum_by waits (take n counts) ≡ sum_by waits (take k counts) + waits (get_or counts k 0)) (add-one k) (sum_by_more waits counts k 0 inside) in
      ⊎_elim
      (λ q. let w : waits (get_or counts k 0) ≡ 0 = rw q refl in rw q (rw length-append (omega (arith, ih, more, w))))
      (λ q. let w : waits (get_or counts k 0) ≡ 1 = rw q refl in rw q (omega (arith, ih, more, w)))
      (cases_Bool (eqb (get_or counts k 0) 0))

  module _ (count : ℕ) (es : List Edge) (c : AreCounts count [] es counts) where
    ready-ordered : (k : ℕ) → k ≤ count → IsOrdered es (reverse (ready_below counts k))
    ready-ordered zero le = tt
    ready-ordered (suc k) le =
        let ih = ready-ordered k (omega (arith, le)) in
        ⊎_elim
        (λ q. let z : left [] k es ≡ 0 = sym (c.counted k (omega (arith, le))) ∙ eqb-true (get_or counts k 0) 0 q in
        rw q (rw reverse-append (
          (λ d i. absurd (true≢false (sym (left-none [] k d es z i)))),
          (λ i. let r = (ready-within k k (from-reverse (ready_below counts k) k i)).0 in omega (arith, r)),
          ih,
        )))
        (λ q. rw q ih)
        (cases_Bool (eqb (get_or counts k 0) 0))

    -- at the start nothing is done
    pub starts : IsProgress count es [] [] counts (ready_below counts count)
    starts = record {
      as_many = c.as_many;
      counted = λ v lt. let k = c.counted v lt in omega (arith, k);
      ready_in = λ v lt z. within-ready count v lt z;
      in_ready = λ v i. ready-within count v i;
      pending_within = tt;
      done_in = λ v h. absurd (true≢false (sym h));
      ordered = ready-ordered count (omega arith);
      room = let r = ready-room count (omega (arith, c.as_many)) in let w : take count counts ≡ counts = subst (λ (n : ℕ). take n counts ≡ counts) c.as_many (take-length counts) in subst (λ (ns : List ℕ). length (ready_below counts count) + sum_by waits ns ≡ count) w r;
    }
