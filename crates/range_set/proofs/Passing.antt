-- Chunks that a reader passes over, and where it ends.
use Rattle.std.proofs.Common.{◌≡◌, ℕ, ◌+◌, ◌<◌, ◌≤◌, Bool, true, false, ◌&&◌, ◌||◌, List, [], ◌∷◌, ◌++◌, length, map, filter, refl, sym, ap, subst, ◌∙◌, arith}
use Rattle.std.proofs.lemmas.List.{length-append}
use Rattle.std.proofs.lemmas.Bool.Decides.{nat_tests}
use Rattle.std.specs.Prelude.{nat_le}
use Rattle.std.specs.List.{list_any}
use Rattle.range_set.specs.Rules.{RangeRules}
use Rattle.range_set.specs.Points.{points_of, stands}
use Rattle.range_set.specs.PrivateChunks.{ArePassed, Ascend, EndBy, IsChunk, content, flat, group_content, put_at, shift, spread}
use Rattle.range_set.specs.PrivatePages.{PlacesFirst}
use Rattle.range_set.specs.Updating.{overlaps}
use Rattle.range_set.specs.declared.ranged.Ranged.{Ranged}
use Rattle.range_set.specs.declared.chunk.Placed.{Placed}
use Rattle.range_set.specs.declared.group.PlacedGroup.{PlacedGroup}
use Rattle.range_set.proofs.Chunks.{ascend-rest, end_by_greatest}
use Rattle.range_set.proofs.Groups.{flat-spread, group_ends}

ends_before : (from to a b : ℕ) → b < from → (nat_le a to && nat_le from b) ≡ false
ends_before from to a b l = grind (arith, nat_tests)

begins_past : (from to a b : ℕ) → to < a → (nat_le a to && nat_le from b) ≡ false
begins_past from to a b l = grind (arith, nat_tests)

module _ {T : Type 0} where
  pub none_overlap : (place to start reach : ℕ) (rs later : List (Ranged T)) → EndBy reach rs → start + reach < place → filter (overlaps place to) (map (shift start) rs ++ later) ≡ filter (overlaps place to) later
  none_overlap place to start reach [] later h l = refl
  none_overlap place to start reach (r ∷ rs) later h l =
      rw (ends_before place to (r.from + start) (r.to + start) (omega (arith, h.0))) (none_overlap place to start reach rs later h.1 l)

  pub none_past : (from to n : ℕ) (rs : List (Ranged T)) → to < n → Ascend n rs → filter (overlaps from to) rs ≡ []
  none_past from to n [] l h = refl
  none_past from to n (r ∷ rs) l h = rw (begins_past from to r.from r.to (omega (arith, h.0))) (none_past from to r.from rs (omega (arith, h.0)) h.1)

  pub length-rest : (xs ys : List (Ranged T)) → length ys ≤ length (xs ++ ys)
  length-rest xs ys = let e = length-append xs ys in omega (arith, e)

  pub drop_before : (from to : ℕ) (r : Ranged T) (rest : List (Ranged T)) → r.to < from → filter (overlaps from to) (r ∷ rest) ≡ filter (overlaps from to) rest
  drop_before from to r rest l = rw (ends_before from to r.from r.to l) refl

  pub ascend_after : (r : Ranged T) (rest : List (Ranged T)) → Ascend 0 (r ∷ rest) → Ascend 0 rest
  ascend_after r [] h = tt
  ascend_after r (q ∷ rest) h = (omega arith, h.1.1)

  pub none_from : (from to : ℕ) (r : Ranged T) (rest : List (Ranged T)) → to < r.from → Ascend 0 (r ∷ rest) → filter (overlaps from to) (r ∷ rest) ≡ []
  none_from from to r rest l h = none_past from to r.from (r ∷ rest) l (omega arith, h.1)

-- chunks without a range that stands for what it covers
pub or_first_false : (a b : Bool) → (a || b) ≡ false → a ≡ false
or_first_false true b h = h
or_first_false false b h = refl

pub or_second_false : (a b : Bool) → (a || b) ≡ false → b ≡ false
or_second_false true b h = cc
or_second_false false b h = h

module _ {T : Type 0} (rules : RangeRules T) where
  pub no_points : (start : ℕ) (rs later : List (Ranged T)) → list_any (stands rules) rs ≡ false → points_of rules (map (shift start) rs ++ later) ≡ points_of rules later
  no_points start [] later h = refl
  no_points start (r ∷ rs) later h =
      rw (or_first_false (stands rules r) (list_any (stands rules) rs) h) (no_points start rs later (or_second_false (stands rules r) (list_any (stands rules) rs) h))

  pub drop_mark : (r : Ranged T) (rest : List (Ranged T)) → stands rules r ≡ false → points_of rules (r ∷ rest) ≡ points_of rules rest
  drop_mark r rest h = rw h refl

  pub take_point : (r : Ranged T) (rest : List (Ranged T)) → stands rules r ≡ true → points_of rules (r ∷ rest) ≡ r ∷ points_of rules rest
  take_point r rest h = rw h refl

module _ {T : Type 0} where
  pub passed_none : (place : ℕ) (ps : List (Placed T)) → ArePassed place ps ps
  passed_none place ps = record {
    kept = λ to. refl;
    order = λ n h. h;
    fewer = omega arith;
  }

  pub passed_hull : (place start reach : ℕ) (old here later : List (Placed T)) (rs : List (Ranged T)) → flat here ≡ map (shift start) rs ++ flat later → EndBy reach rs → start + reach < place → ArePassed place old here → ArePassed place old later
  passed_hull place start reach old here later rs is ends l h = record {
    kept = λ to. sym (none_overlap place to start reach rs (flat later) ends l) ∙ (ap (filter (overlaps place to)) (sym is) ∙ h.kept to);
    order = λ n k. ascend-rest n (map (shift start) rs) (flat later) (subst (Ascend n) is (h.order n k));
    fewer = let m = length-rest (map (shift start) rs) (flat later) in let n = ap length is in let k = h.fewer in omega (arith, m, n, k);
  }

  pub passed_chunk : (rules : RangeRules T) (place : ℕ) (old : List (Placed T)) (p : Placed T) (later : List (Placed T)) → IsChunk rules p.start (content p) → p.start + (content p).reach < place
      → ArePassed place old (p ∷ later) → ArePassed place old later
  passed_chunk rules place old p later c l h =
      let e = c.reach in
      passed_hull place p.start (content p).reach old (p ∷ later) later (content p).ranges refl (end_by_greatest (content p).ranges (content p).reach (omega (arith, e))) l h

  pub passed_group : (rules : RangeRules T) (place : ℕ) (old : List (Placed T)) (groups : List (PlacedGroup T)) (start : ℕ) (placed : PlacedGroup T) (others : List (PlacedGroup T)) → PlacesFirst rules groups start placed others
      → start + (group_content placed).reach < place → ArePassed place old (spread groups) → ArePassed place old (spread others)
  passed_group rules place old groups start placed others c l h =
      let g : PlacedGroup T = put_at start placed in
      passed_hull place start (group_content placed).reach old (spread groups) (spread others) (flat (group_content placed).chunks) (ap (λ gs. flat (spread gs)) c.is ∙ flat-spread g others) (group_ends rules start (group_content placed) c.first) l h

  pub passed_both : (place : ℕ) (old here later : List (Placed T)) → ArePassed place old here → ArePassed place here later → ArePassed place old later
  passed_both place old here later h k = record {
    kept = λ to. k.kept to ∙ h.kept to;
    order = λ n a. k.order n (h.order n a);
    fewer = let m = h.fewer in let n = k.fewer in omega (arith, m, n);
  }

module _ {T : Type 0} (rules : RangeRules T) where
  -- what passing over chunks without a range that stands for what it covers leaves
  pub record HaveNoPoint (old new : List (Placed T)) : Type 0 where
    pub kept : points_of rules (flat new) ≡ points_of rules (flat old)
    pub fewer : length (flat new) ≤ length (flat old)

  pub no_point_none : (ps : List (Placed T)) → HaveNoPoint ps ps
  no_point_none ps = record {
    kept = refl;
    fewer = omega arith;
  }

  no_point_hull : (start : ℕ) (old here later : List (Placed T)) (rs : List (Ranged T)) → flat here ≡ map (shift start) rs ++ flat later → list_any (stands rules) rs ≡ false → HaveNoPoint old here → HaveNoPoint old later
  no_point_hull start old here later rs is none h = record {
    kept = sym (no_points rules start rs (flat later) none) ∙ (ap (points_of rules) (sym is) ∙ h.kept);
    fewer = let m = length-rest (map (shift start) rs) (flat later) in let n = ap length is in let k = h.fewer in omega (arith, m, n, k);
  }

  pub no_point_chunk : (old : List (Placed T)) (p : Placed T) (later : List (Placed T)) → IsChunk rules p.start (content p) → (content p).has_point ≡ false → HaveNoPoint old (p ∷ later) → HaveNoPoint old later
  no_point_chunk old p later c e h = no_point_hull p.start old (p ∷ later) later (content p).ranges refl (sym c.points ∙ e) h

  pub no_point_group : (old : List (Placed T)) (groups : List (PlacedGroup T)) (start : ℕ) (placed : PlacedGroup T) (others : List (PlacedGroup T)) → PlacesFirst rules groups start placed others
      → (group_content placed).has_point ≡ false → HaveNoPoint old (spread groups) → HaveNoPoint old (spread others)
  no_point_group old groups start placed others c e h =
      let g : PlacedGroup T = put_at start placed in
      no_point_hull start old (spread groups) (spread others) (flat (group_content placed).chunks) (ap (λ gs. flat (spread gs)) c.is ∙ flat-spread g others) (sym c.first.points ∙ e) h

  pub no_point_both : (old here later : List (Placed T)) → HaveNoPoint old here → HaveNoPoint here later → HaveNoPoint old later
  no_point_both old here later h k = record {
    kept = k.kept ∙ h.kept;
    fewer = let m = h.fewer in let n = k.fewer in omega (arith, m, n);
  }
