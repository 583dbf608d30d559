-- Chunks that are parted at places, and an update of those between.
use Rattle.std.proofs.Common.{◌≡◌, ℕ, zero, suc, ◌+◌, ◌-◌, ◌<◌, ◌≤◌, true, List, [], ◌∷◌, ◌++◌, length, get_or, take, drop, map, Some, None, sym, ap, subst, ◌∙◌, append_assoc, arith}
use Rattle.std.specs.List.Sorted.{IsNonDecreasingBy}
use Rattle.std.specs.Prelude.{slice_get}
use Rattle.stable_order.proofs.StableSort.{Rises}
use Rattle.range_set.specs.Rules.{RangeRules}
use Rattle.range_set.specs.Order.{before, first_fault}
use Rattle.range_set.specs.Updating.{updated}
use Rattle.range_set.specs.PrivateChunks.{AreChunks, Ascend, BeginBy, content, first_start, flat, shift}
use Rattle.range_set.specs.PrivateUpdates.{BeginPast, BeginUnder}
use Rattle.range_set.specs.declared.ranged.Ranged.{Ranged}
use Rattle.range_set.specs.declared.chunk.Placed.{Placed}
use Rattle.range_set.proofs.Adding.{add_parts, first_of, last_of, past_hull, under_append, under_less}
use Rattle.range_set.proofs.Chunks.{ascend-rest, begin_by-next, flat-append}
use Rattle.range_set.proofs.Groups.{flat_forward}
use Rattle.range_set.proofs.RangeOrder.{no_fault_from, rises-no_fault}
use Rattle.range_set.proofs.Under.{rises_ascend, rises_left, rises_right}
use Rattle.range_set.proofs.Walked.{ascend_hull}
use Rattle.range_set.proofs.WholeGroups.{placed_at}

module _ {T : Type 0} (rules : RangeRules T) where
  -- the first of some chunks, and the others
  are_before : (ps qs : List (Placed T)) → AreChunks rules (ps ++ qs) → AreChunks rules ps
  are_before [] qs h = tt
  are_before (p ∷ ps) qs h = (h.0, are_before ps qs h.1)

  are_left : (ps qs : List (Placed T)) → AreChunks rules (ps ++ qs) → AreChunks rules qs
  are_left [] qs h = h
  are_left (p ∷ ps) qs h = are_left ps qs h.1

  -- what stands before a chunk begins no later than it
  by_next : (n : ℕ) (xs : List (Ranged T)) (p : Placed T) (ps : List (Placed T)) → AreChunks rules (p ∷ ps) → Ascend n (xs ++ flat (p ∷ ps)) → BeginBy p.start xs
  by_next n xs p ps h asc = at (content p).ranges h.0.1 h.0.0.first asc
    where
      at : (rs : List (Ranged T)) → 1 ≤ length rs → first_start rs ≡ 0 → Ascend n (xs ++ (map (shift p.start) rs ++ flat ps)) → BeginBy p.start xs
      at [] some f a = absurd (omega arith)
      at (r ∷ rs) some f a =
          let e : r.from + p.start ≡ p.start = omega (arith, f) in
          subst (λ k. BeginBy k xs) e (begin_by-next n xs (shift p.start r) (map (shift p.start) rs ++ flat ps) a)

  pub starts_rise : (n : ℕ) (ps : List (Placed T)) → AreChunks rules ps → Ascend n (flat ps) → IsNonDecreasingBy (λ (p : Placed T). p.start) ps
  starts_rise n [] h a i j d le lt = absurd (omega arith)
  starts_rise n (p ∷ ps) h a zero zero d le lt = omega arith
  starts_rise n (p ∷ ps) h a zero (suc j) d le lt =
      placed_at rules p.start ps j d (omega arith) h.1 (ascend_hull n p.start (content p).ranges (flat ps) h.0.1 h.0.0.first a).1
  starts_rise n (p ∷ ps) h a (suc i) zero d le lt = absurd (omega arith)
  starts_rise n (p ∷ ps) h a (suc i) (suc j) d le lt =
      starts_rise n ps h.1 (ascend-rest n (map (shift p.start) (content p).ranges) (flat ps) a) i j d (omega arith) (omega arith)

  -- chunks before one that begins before a place
  pub under_taken : (n place i : ℕ) (ps : List (Placed T)) → AreChunks rules ps → Ascend n (flat ps) → i ≤ length ps - 1 → ((k : ℕ) (d : Placed T) → 0 < k → k ≤ i → (get_or ps k d).start < place)
      → BeginUnder place (flat (take i ps))
  under_taken n place zero ps h a l under = tt
  under_taken n place (suc i) [] h a l under = tt
  under_taken n place (suc i) (p ∷ []) h a l under = absurd (omega arith)
  under_taken n place (suc i) (p ∷ q ∷ ps) h a l under =
      let here = map (shift p.start) (content p).ranges in
      under_append place here (flat (take i (q ∷ ps))) (under_less q.start place here (by_next n here q ps h.1 a) (under 1 p (omega arith) (omega arith)))
      (under_taken n place i (q ∷ ps) h.1 (ascend-rest n here (flat (q ∷ ps)) a) (omega arith) (λ k d some le. under (suc k) d (omega arith) (omega arith)))

  -- chunks from one on that begins after a place
  pub past_dropped : (n place i : ℕ) (ps : List (Placed T)) → AreChunks rules ps → Ascend n (flat ps) → ((d : Placed T) → i < length ps → place < (get_or ps i d).start) → BeginPast place (flat (drop i ps))
  past_dropped n place zero [] h a past = tt
  past_dropped n place (suc i) [] h a past = tt
  past_dropped n place zero (p ∷ ps) h a past = past_hull n p.start place (content p).ranges (flat ps) h.0.1 (past p (omega arith)) a
  past_dropped n place (suc i) (p ∷ ps) h a past =
      past_dropped n place i ps h.1 (ascend-rest n (map (shift p.start) (content p).ranges) (flat ps) a) (λ d l. past d (omega (arith, l)))

  -- what holds of chunks after others
  pub rest_chunks : (ps xs ys : List (Placed T)) → ps ≡ xs ++ ys → AreChunks rules ps → first_fault rules (flat ps) ≡ None → AreChunks rules ys × Ascend 0 (flat ys)
  rest_chunks ps xs ys e h none = (
    are_left xs ys (subst (AreChunks rules) e h),
    ascend-rest 0 (flat xs) (flat ys) (subst (Ascend 0) (ap flat e ∙ flat-append xs ys) (rises_ascend rules (flat ps) (rises-no_fault rules (flat ps) none))),
  )

  -- what holds of chunks in three parts
  pub record AreParted (ps xs ys zs : List (Placed T)) : Type 0 where
    pub is : flat ps ≡ flat xs ++ (flat ys ++ flat zs)
    pub first : AreChunks rules xs
    pub second : AreChunks rules ys
    pub third : AreChunks rules zs
    pub rises : Rises (before rules) (flat xs ++ (flat ys ++ flat zs))
    pub order : first_fault rules (flat ys) ≡ None

  pub are_parted : (ps xs rest ys zs : List (Placed T)) → ps ≡ xs ++ rest → rest ≡ ys ++ zs → AreChunks rules ps → first_fault rules (flat ps) ≡ None → AreParted ps xs ys zs
  are_parted ps xs rest ys zs e f h none =
      let is = ap flat e ∙ (flat-append xs rest ∙ ap (λ rs. flat xs ++ rs) (ap flat f ∙ flat-append ys zs)) in
      let all = subst (AreChunks rules) e h in
      let others = subst (AreChunks rules) f (are_left xs rest all) in
      let middle = are_before ys zs others in
      let rises = subst (Rises (before rules)) is (rises-no_fault rules (flat ps) none) in
      record {
        is = is;
        first = are_before xs rest all;
        second = middle;
        third = are_left ys zs others;
        rises = rises;
        order = no_fault_from rules 0 None (flat ys) (rises_left rules (flat ys) (flat zs) (rises_right rules (flat xs) (flat ys ++ flat zs) rises)) tt (flat_forward rules ys middle);
      }

  -- chunks that were put after those before them, and before those after them
  pub joined_ranges : (none xs shared made joined zs all : List (Placed T)) → none ≡ [] → flat shared ≡ flat none ++ flat xs → joined ≡ shared ++ made → flat all ≡ flat joined ++ flat zs
      → flat all ≡ flat xs ++ (flat made ++ flat zs)
  joined_ranges none xs shared made joined zs all n s j e =
      let first : flat joined ≡ flat xs ++ flat made = ap flat j ∙ (flat-append shared made ∙ ap (λ rs. rs ++ flat made) (s ∙ ap (λ qs. flat qs ++ flat xs) n)) in
      e ∙ (ap (λ rs. rs ++ flat zs) first ∙ append_assoc (flat xs) (flat made) (flat zs))

  -- an update of the chunks between others is one of all
  pub add_between : (ps xs ys zs made all : List (Placed T)) (add : List (Ranged T)) (first last : Ranged T) → AreParted ps xs ys zs → first_fault rules add ≡ None
      → slice_get add 0 ≡ Some first → slice_get add (length add - 1) ≡ Some last → BeginUnder first.from (flat xs) → BeginPast last.from (flat zs)
      → flat made ≡ updated rules (λ _. true) (flat ys) add → first_fault rules (flat made) ≡ None → flat all ≡ flat xs ++ (flat made ++ flat zs)
      → (first_fault rules (flat all) ≡ None) × (flat all ≡ updated rules (λ _. true) (flat ps) add)
  add_between ps xs ys zs made all add first last h k f l u p e m j =
      let xs_forward = flat_forward rules xs h.first in
      let zs_forward = flat_forward rules zs h.third in
      let added = add_parts rules (flat ps) (flat xs) (flat ys) (flat zs) add h.is h.rises xs_forward zs_forward k (ap (first_fault rules) (sym e) ∙ m)
      (subst (λ place. BeginUnder place (flat xs)) (sym (first_of add first f)) u) (subst (λ place. BeginPast place (flat zs)) (sym (last_of add last l)) p) in
      let is = j ∙ ap (λ rs. flat xs ++ (rs ++ flat zs)) e in
      (ap (first_fault rules) is ∙ added.none, is ∙ sym added.goes)
