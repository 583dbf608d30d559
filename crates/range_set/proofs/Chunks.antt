-- Chunks and builders of them, seen as lists of ranges.
use Rattle.std.proofs.Common.{◌≡◌, ℕ, zero, suc, ◌+◌, ◌-◌, ◌^◌, ◌<◌, ◌≤◌, max, true, false, ◌&&◌, List, [], ◌∷◌, ◌++◌, length, get_or, drop, map, refl, sym, ◌∙◌, ap, subst, arith, add-one, append_assoc}
use Rattle.std.proofs.lemmas.List.{append-nil}
use Rattle.std.proofs.lemmas.Bool.Decides.{nat_tests}
use Rattle.std.specs.Prelude.{nat_lt, ◌==◌, int_lt}
use Rattle.range_set.specs.Rules.{RangeRules}
use Rattle.range_set.specs.Order.{AllForward}
use Rattle.range_set.specs.Mapping.{is_turned}
use Rattle.range_set.specs.PrivateChunks.{AreChunks, Ascend, BeginBy, Content, EndBy, Fit, IsChunk, content, flat, greatest_end, shift}
use Rattle.range_set.specs.declared.ranged.Ranged.{Ranged}
use Rattle.range_set.specs.declared.chunk.Placed.{Placed}

pub not_less : (a b : ℕ) → nat_lt a b ≡ false → b ≤ a
not_less a b h = grind (arith, nat_tests)

pub is_not_less : (a b : ℕ) → b ≤ a → nat_lt a b ≡ false
is_not_less a b h = grind (arith, nat_tests)

shift_forward : (a b by : ℕ) → nat_lt a b ≡ false → nat_lt (a + by) (b + by) ≡ false
shift_forward a b by h = grind (arith, nat_tests)

same-shifted : (a b by : ℕ) → (a + by == b + by) ≡ (a == b)
same-shifted a b by = grind (arith, nat_tests)

pub none_left : (len : ℕ) → (len == 0) ≡ true → len ≡ 0
none_left len h = grind (arith, nat_tests)

pub rest_at : {X : Type 0} (xs : List X) (i : ℕ) (x : X) → i < length xs → x ≡ get_or xs i x → drop i xs ≡ x ∷ drop (i + 1) xs
rest_at xs i x l e = at xs i x l e ∙ ap (λ n. x ∷ drop n xs) (sym (add-one i))
  where
    at : {X : Type 0} (xs : List X) (i : ℕ) (x : X) → i < length xs → x ≡ get_or xs i x → drop i xs ≡ x ∷ drop (suc i) xs
    at [] i x l e = absurd (omega arith)
    at (y ∷ xs) zero x l e = ap (λ z. z ∷ xs) (sym e)
    at (y ∷ xs) (suc i) x l e = at xs i x (omega arith) e

module _ {T : Type 0} where
  pub flat-append : (ps qs : List (Placed T)) → flat (ps ++ qs) ≡ flat ps ++ flat qs
  flat-append [] qs = refl
  flat-append (p ∷ ps) qs =
      ap (λ r. map (shift p.start) (content p).ranges ++ r) (flat-append ps qs)
      ∙ sym (append_assoc (map (shift p.start) (content p).ranges) (flat ps) (flat qs))

  pub flat-push : (ps : List (Placed T)) (p : Placed T) → flat (ps ++ p ∷ []) ≡ flat ps ++ map (shift p.start) (content p).ranges
  flat-push ps p = flat-append ps (p ∷ []) ∙ ap (λ r. flat ps ++ r) (append-nil (map (shift p.start) (content p).ranges))

  pub greatest-push : (rs : List (Ranged T)) (r : Ranged T) → greatest_end (rs ++ r ∷ []) ≡ max (greatest_end rs) r.to
  greatest-push [] r = omega arith
  greatest-push (q ∷ rs) r = let e = greatest-push rs r in omega (arith, e)

  pub greatest_shifted : (start : ℕ) (rs : List (Ranged T)) → 1 ≤ length rs → greatest_end (map (shift start) rs) ≡ start + greatest_end rs
  greatest_shifted start [] some = absurd (omega arith)
  greatest_shifted start (r ∷ []) some = omega arith
  greatest_shifted start (r ∷ q ∷ rs) some = let e = greatest_shifted start (q ∷ rs) (omega arith) in omega (arith, e)

  pub end_by_greatest : (rs : List (Ranged T)) (n : ℕ) → greatest_end rs ≤ n → EndBy n rs
  end_by_greatest [] n h = tt
  end_by_greatest (r ∷ rs) n h = (omega (arith, h), end_by_greatest rs n (omega (arith, h)))

  -- ranges of a chunk fit their type
  pub fit_shifted : (start reach : ℕ) (rs : List (Ranged T)) → AllForward rs → EndBy reach rs → start + reach < 2 ^ 32 → Fit (map (shift start) rs)
  fit_shifted start reach [] f h l = tt
  fit_shifted start reach (r ∷ rs) f h l =
      let k = not_less r.to r.from f.0 in
      ((omega (arith, h.0, k), omega (arith, h.0)), fit_shifted start reach rs f.1 h.1 l)

  pub Fit-append : (xs ys : List (Ranged T)) → Fit xs → Fit ys → Fit (xs ++ ys)
  Fit-append [] ys h k = k
  Fit-append (x ∷ xs) ys h k = (h.0, Fit-append xs ys h.1 k)

  pub forward_shifted : (start : ℕ) (rs : List (Ranged T)) → AllForward rs → AllForward (map (shift start) rs)
  forward_shifted start [] h = tt
  forward_shifted start (r ∷ rs) h = (shift_forward r.to r.from start h.0, forward_shifted start rs h.1)

  pub ascend-begin : (n : ℕ) (xs : List (Ranged T)) (r : Ranged T) (rest : List (Ranged T)) → Ascend n (xs ++ r ∷ rest) → n ≤ r.from
  ascend-begin n [] r rest h = h.0
  ascend-begin n (x ∷ xs) r rest h = let k = ascend-begin x.from xs r rest h.1 in omega (arith, h.0, k)

  pub begin_by-next : (n : ℕ) (xs : List (Ranged T)) (r : Ranged T) (rest : List (Ranged T)) → Ascend n (xs ++ r ∷ rest) → BeginBy r.from xs
  begin_by-next n [] r rest h = tt
  begin_by-next n (x ∷ xs) r rest h = (ascend-begin x.from xs r rest h.1, begin_by-next x.from xs r rest h.1)

  pub ascend-prefix : (n : ℕ) (xs ys : List (Ranged T)) → Ascend n (xs ++ ys) → Ascend n xs
  ascend-prefix n [] ys h = tt
  ascend-prefix n (x ∷ xs) ys h = (h.0, ascend-prefix x.from xs ys h.1)

  pub ascend-less : (m n : ℕ) (xs : List (Ranged T)) → m ≤ n → Ascend n xs → Ascend m xs
  ascend-less m n [] l h = tt
  ascend-less m n (x ∷ xs) l h = (omega (arith, h.0), h.1)

  pub ascend-rest : (n : ℕ) (xs ys : List (Ranged T)) → Ascend n (xs ++ ys) → Ascend n ys
  ascend-rest n [] ys h = h
  ascend-rest n (x ∷ xs) ys h = ascend-less n x.from ys h.0 (ascend-rest x.from xs ys h.1)

module _ {T : Type 0} (rules : RangeRules T) where
  pub turned-shifted : (start : ℕ) (r : Ranged T) → is_turned rules (shift start r) ≡ is_turned rules r
  turned-shifted start r = ap (λ b. b && int_lt (rules.end_side r.value) (rules.start_side r.value)) (same-shifted r.from r.to start)

  -- a range that counts from a place, as one that doesn't
  abbrev pub counted_from : ℕ → Ranged T → Ranged T
  counted_from start r = record { from = r.from - start; to = r.to - start; value = r.value }

  pub turned-counted : (start : ℕ) (r : Ranged T) → start ≤ r.from → start ≤ r.to → is_turned rules (counted_from start r) ≡ is_turned rules r
  turned-counted start r l m = ap (λ b. b && int_lt (rules.end_side r.value) (rules.start_side r.value)) (same r.from r.to l m)
    where
      same : (a b : ℕ) → start ≤ a → start ≤ b → (a - start == b - start) ≡ (a == b)
      same a b l m = grind (arith, nat_tests)

  pub shift_counted : (start : ℕ) (r : Ranged T) → start ≤ r.from → start ≤ r.to → shift start (counted_from start r) ≡ r
  shift_counted start r l m =
      let f : r.from - start + start ≡ r.from = omega arith in
      let t : r.to - start + start ≡ r.to = omega arith in
      ap (λ n. let q : Ranged T = record { from = n; to = r.to - start + start; value = r.value } in q) f
      ∙ ap (λ n. let q : Ranged T = record { from = r.from; to = n; value = r.value } in q) t

  pub AreChunks-push : (ps : List (Placed T)) (p : Placed T) → AreChunks rules ps → IsChunk rules p.start (content p) → 1 ≤ length (content p).ranges → AreChunks rules (ps ++ p ∷ [])
  AreChunks-push [] p h k some = ((k, some), tt)
  AreChunks-push (q ∷ ps) p h k some = (h.0, AreChunks-push ps p h.1 k some)

  pub chunk-at : (ps : List (Placed T)) (i : ℕ) (p : Placed T) → i < length ps → p ≡ get_or ps i p → AreChunks rules ps → IsChunk rules p.start (content p) × (1 ≤ length (content p).ranges)
  chunk-at [] i p l e h = absurd (omega arith)
  chunk-at (q ∷ ps) zero p l e h = subst (λ (x : Placed T). IsChunk rules x.start (content x) × (1 ≤ length (content x).ranges)) (sym e) h.0
  chunk-at (q ∷ ps) (suc i) p l e h = chunk-at ps i p (omega arith) e h.1

  pub fit_chunk : (start : ℕ) (chunk : Content T) → IsChunk rules start chunk → Fit (map (shift start) chunk.ranges)
  fit_chunk start chunk h =
      let k : greatest_end chunk.ranges ≤ chunk.reach = omega (arith, h.reach) in
      fit_shifted start chunk.reach chunk.ranges h.forward (end_by_greatest chunk.ranges chunk.reach k) h.fits

  pub fit_flat : (ps : List (Placed T)) → AreChunks rules ps → Fit (flat ps)
  fit_flat [] h = tt
  fit_flat (p ∷ ps) h = Fit-append (map (shift p.start) (content p).ranges) (flat ps) (fit_chunk p.start (content p) h.0.0) (fit_flat ps h.1)

  pub length_shifted : (start : ℕ) (rs : List (Ranged T)) → length (map (shift start) rs) ≡ length rs
  length_shifted start [] = refl
  length_shifted start (r ∷ rs) = ap suc (length_shifted start rs)
