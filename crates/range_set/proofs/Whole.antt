-- Chunks that are made at once of ranges in order.
use Rattle.std.proofs.Common.{◌≡◌, ℕ, zero, suc, ◌+◌, ◌-◌, ◌^◌, ◌<◌, ◌≤◌, max, ◌||◌, List, [], ◌∷◌, ◌++◌, length, get_or, set, take, drop, map, refl, sym, ◌∙◌, ap, arith, add-one}
use Rattle.std.proofs.lemmas.List.{length-map, map-append, take_more}
use Rattle.std.specs.List.{list_any}
use Rattle.range_set.specs.Rules.{RangeRules}
use Rattle.range_set.specs.Order.{AllForward}
use Rattle.range_set.specs.Mapping.{is_turned}
use Rattle.range_set.specs.Points.{stands}
use Rattle.range_set.specs.PrivateChunks.{Ascend, Content, IsChunk, first_start, greatest_end, shift}
use Rattle.range_set.specs.declared.ranged.Ranged.{Ranged}
use Rattle.range_set.proofs.Chunks.{ascend-less, counted_from, greatest-push, is_not_less, not_less, shift_counted, turned-counted}

-- a list of which the first elements were written anew
module _ {X : Type 0} (f : X → X) where
  same_at : (ys : List X) (i : ℕ) (x : X) → i < length ys → get_or (map f (take i ys) ++ drop i ys) i x ≡ get_or ys i x
  same_at [] i x l = absurd (omega arith)
  same_at (y ∷ ys) zero x l = refl
  same_at (y ∷ ys) (suc i) x l = same_at ys i x (omega arith)

  pub item_at : (xs ys : List X) (i : ℕ) (x : X) → xs ≡ map f (take i ys) ++ drop i ys → i < length ys → get_or xs i x ≡ get_or ys i x
  item_at xs ys i x e l = ap (λ zs. get_or zs i x) e ∙ same_at ys i x l

  one_written : (ys : List X) (i : ℕ) (x : X) → i < length ys → set (map f (take i ys) ++ drop i ys) i (f (get_or ys i x)) ≡ map f (take (suc i) ys) ++ drop (suc i) ys
  one_written [] i x l = absurd (omega arith)
  one_written (y ∷ ys) zero x l = refl
  one_written (y ∷ ys) (suc i) x l = ap (λ zs. f y ∷ zs) (one_written ys i x (omega arith))

  pub written : (xs ys : List X) (i : ℕ) (x : X) → xs ≡ map f (take i ys) ++ drop i ys → i < length ys → set xs i (f (get_or xs i x)) ≡ map f (take (i + 1) ys) ++ drop (i + 1) ys
  written xs ys i x e l =
      ap (λ y. set xs i (f y)) (item_at xs ys i x e l)
      ∙ (ap (λ zs. set zs i (f (get_or ys i x))) e
      ∙ (one_written ys i x l ∙ ap (λ n. map f (take n ys) ++ drop n ys) (sym (add-one i))))

  all_written : (ys : List X) (i : ℕ) → length ys ≤ i → map f (take i ys) ++ drop i ys ≡ map f ys
  all_written [] zero l = refl
  all_written [] (suc i) l = refl
  all_written (y ∷ ys) zero l = absurd (omega arith)
  all_written (y ∷ ys) (suc i) l = ap (λ zs. f y ∷ zs) (all_written ys i (omega arith))

  pub written-all : (xs ys : List X) (i : ℕ) → xs ≡ map f (take i ys) ++ drop i ys → length ys ≤ i → xs ≡ map f ys
  written-all xs ys i e l = e ∙ all_written ys i l

module _ {T : Type 0} where
  pub ascend_at : (n : ℕ) (rs : List (Ranged T)) (i : ℕ) (r : Ranged T) → i < length rs → Ascend n rs → n ≤ (get_or rs i r).from
  ascend_at n [] i r l h = absurd (omega arith)
  ascend_at n (q ∷ rs) zero r l h = h.0
  ascend_at n (q ∷ rs) (suc i) r l h = ascend_at n rs i r (omega arith) (ascend-less n q.from rs h.0 h.1)

  pub forward_at_item : (rs : List (Ranged T)) (i : ℕ) (r : Ranged T) → i < length rs → AllForward rs → (get_or rs i r).from ≤ (get_or rs i r).to
  forward_at_item [] i r l h = absurd (omega arith)
  forward_at_item (q ∷ rs) zero r l h = not_less q.to q.from h.0
  forward_at_item (q ∷ rs) (suc i) r l h = forward_at_item rs i r (omega arith) h.1

module _ {T : Type 0} (rules : RangeRules T) where
  pub reach_more : (start : ℕ) (rs : List (Ranged T)) (i : ℕ) (r : Ranged T) → i < length rs
      → greatest_end (map (counted_from rules start) (take (i + 1) rs)) ≡ max (greatest_end (map (counted_from rules start) (take i rs))) ((get_or rs i r).to - start)
  reach_more start rs i r l =
      let f = counted_from rules start in
      ap (λ qs. greatest_end (map f qs)) (take_more rs i r l)
      ∙ (ap greatest_end (map-append f (take i rs) (get_or rs i r ∷ [])) ∙ greatest-push (map f (take i rs)) (f (get_or rs i r)))

  counted_forward : (start : ℕ) (rs : List (Ranged T)) → Ascend start rs → AllForward rs → AllForward (map (counted_from rules start) rs)
  counted_forward start [] h f = tt
  counted_forward start (r ∷ rs) h f =
      let k = not_less r.to r.from f.0 in
      (is_not_less (r.to - start) (r.from - start) (omega arith), counted_forward start rs (ascend-less start r.from rs h.0 h.1) f.1)

  counted_turned : (start : ℕ) (rs : List (Ranged T)) → Ascend start rs → AllForward rs → list_any (is_turned rules) (map (counted_from rules start) rs) ≡ list_any (is_turned rules) rs
  counted_turned start [] h f = refl
  counted_turned start (r ∷ rs) h f =
      let k = not_less r.to r.from f.0 in
      ap (λ b. b || list_any (is_turned rules) (map (counted_from rules start) rs)) (turned-counted rules start r h.0 (omega (arith, k, h.0)))
      ∙ ap (λ b. is_turned rules r || b) (counted_turned start rs (ascend-less start r.from rs h.0 h.1) f.1)

  counted_points : (start : ℕ) (rs : List (Ranged T)) → list_any (stands rules) (map (counted_from rules start) rs) ≡ list_any (stands rules) rs
  counted_points start [] = refl
  counted_points start (r ∷ rs) = ap (λ b. stands rules r || b) (counted_points start rs)

  counted_first : (start : ℕ) (rs : List (Ranged T)) → first_start rs ≡ start → first_start (map (counted_from rules start) rs) ≡ 0
  counted_first start [] h = refl
  counted_first start (r ∷ rs) h = omega (arith, h)

  pub counted_back : (start : ℕ) (rs : List (Ranged T)) → Ascend start rs → AllForward rs → map (shift start) (map (counted_from rules start) rs) ≡ rs
  counted_back start [] h f = refl
  counted_back start (r ∷ rs) h f =
      let k = not_less r.to r.from f.0 in
      ap (λ q. q ∷ map (shift start) (map (counted_from rules start) rs)) (shift_counted rules start r h.0 (omega (arith, k, h.0)))
      ∙ ap (λ qs. r ∷ qs) (counted_back start rs (ascend-less start r.from rs h.0 h.1) f.1)

  pub whole_chunk : (start : ℕ) (chunk : Content T) (rs : List (Ranged T)) → chunk.ranges ≡ map (counted_from rules start) rs → length rs ≤ 128 → first_start rs ≡ start → Ascend start rs → AllForward rs
      → chunk.reach ≡ greatest_end (map (counted_from rules start) rs) → chunk.is_turned ≡ list_any (is_turned rules) rs → chunk.has_point ≡ list_any (stands rules) rs → start + chunk.reach < 2 ^ 32 → IsChunk rules start chunk
  whole_chunk start chunk rs e few first order forward reach turned points fits = record {
    few = rw e (let n = length-map rs (counted_from rules start) in omega (arith, n, few));
    first = rw e (counted_first start rs first);
    forward = rw e (counted_forward start rs order forward);
    reach = reach ∙ ap greatest_end (sym e);
    turned = turned ∙ (sym (counted_turned start rs order forward) ∙ ap (list_any (is_turned rules)) (sym e));
    points = points ∙ (sym (counted_points start rs) ∙ ap (list_any (stands rules)) (sym e));
    fits = fits;
  }
