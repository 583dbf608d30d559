-- Groups that are made at once of chunks in order.
use Rattle.std.proofs.Common.{◌≡◌, ℕ, zero, suc, ◌+◌, ◌-◌, ◌^◌, ◌<◌, ◌≤◌, max, ◌||◌, List, [], ◌∷◌, ◌++◌, length, get_or, take, map, refl, sym, ◌∙◌, ap, arith}
use Rattle.std.proofs.lemmas.List.{length-append, length-map, map-append, take_more}
use Rattle.std.proofs.lemmas.List.Folds.{list_any-append}
use Rattle.std.specs.List.{list_any}
use Rattle.range_set.specs.Rules.{RangeRules}
use Rattle.range_set.specs.Mapping.{is_turned}
use Rattle.range_set.specs.Points.{stands}
use Rattle.range_set.specs.PrivateChunks.{AreChunks, Ascend, GroupContent, IsChunk, IsGroup, content, first_start, flat, greatest_end, move, shift}
use Rattle.range_set.specs.declared.ranged.Ranged.{Ranged}
use Rattle.range_set.specs.declared.chunk.Placed.{Placed}
use Rattle.range_set.proofs.Chunks.{ascend-less, ascend-rest, flat-push, greatest_shifted, length_shifted}
use Rattle.range_set.proofs.Groups.{chunk_placed, counted_chunk, greatest-append, points_any, turned_any}

module _ {T : Type 0} (rules : RangeRules T) where
  -- a chunk stands where its first range does
  ascend_chunk : (n start : ℕ) (rs later : List (Ranged T)) → 1 ≤ length rs → first_start rs ≡ 0 → Ascend n (map (shift start) rs ++ later) → (n ≤ start) × Ascend start later
  ascend_chunk n start [] later some f h = absurd (omega arith)
  ascend_chunk n start (r ∷ rs) later some f h =
      let k : n ≤ start = omega (arith, h.0, f) in
      let l : start ≤ r.from + start = omega arith in
      (k, ascend-less start (r.from + start) later l (ascend-rest (r.from + start) (map (shift start) rs) later h.1))

  pub placed_at : (n : ℕ) (ps : List (Placed T)) (i : ℕ) (p : Placed T) → i < length ps → AreChunks rules ps → Ascend n (flat ps) → n ≤ (get_or ps i p).start
  placed_at n [] i p l h a = absurd (omega arith)
  placed_at n (q ∷ ps) zero p l h a = (ascend_chunk n q.start (content q).ranges (flat ps) h.0.1 h.0.0.first a).0
  placed_at n (q ∷ ps) (suc i) p l h a =
      let k = ascend_chunk n q.start (content q).ranges (flat ps) h.0.1 h.0.0.first a in
      let m = placed_at q.start ps i p (omega arith) h.1 k.1 in
      omega (arith, m, k)

  pub chunk_item : (ps : List (Placed T)) (i : ℕ) (p : Placed T) → i < length ps → AreChunks rules ps → IsChunk rules (get_or ps i p).start (content (get_or ps i p)) × (1 ≤ length (content (get_or ps i p)).ranges)
  chunk_item [] i p l h = absurd (omega arith)
  chunk_item (q ∷ ps) zero p l h = h.0
  chunk_item (q ∷ ps) (suc i) p l h = chunk_item ps i p (omega arith) h.1

  flat_more : (ps : List (Placed T)) (i : ℕ) (p : Placed T) → i < length ps → flat (take (i + 1) ps) ≡ flat (take i ps) ++ map (shift (get_or ps i p).start) (content (get_or ps i p)).ranges
  flat_more ps i p l = ap flat (take_more ps i p l) ∙ flat-push (take i ps) (get_or ps i p)

  pub count_more : (ps : List (Placed T)) (i : ℕ) (p : Placed T) → i < length ps → length (flat (take (i + 1) ps)) ≡ length (flat (take i ps)) + length (content (get_or ps i p)).ranges
  count_more ps i p l =
      let q = get_or ps i p in
      let a = ap length (flat_more ps i p l) ∙ length-append (flat (take i ps)) (map (shift q.start) (content q).ranges) in
      let b = length_shifted rules q.start (content q).ranges in
      omega (arith, a, b)

  pub turned_more : (ps : List (Placed T)) (i : ℕ) (p : Placed T) → i < length ps → IsChunk rules (get_or ps i p).start (content (get_or ps i p))
      → list_any (is_turned rules) (flat (take (i + 1) ps)) ≡ (list_any (is_turned rules) (flat (take i ps)) || (content (get_or ps i p)).is_turned)
  turned_more ps i p l h =
      let q = get_or ps i p in
      ap (list_any (is_turned rules)) (flat_more ps i p l)
      ∙ (list_any-append (is_turned rules) (flat (take i ps)) (map (shift q.start) (content q).ranges)
      ∙ ap (λ b. list_any (is_turned rules) (flat (take i ps)) || b) (turned_any rules q.start (content q).ranges ∙ sym h.turned))

  pub points_more : (ps : List (Placed T)) (i : ℕ) (p : Placed T) → i < length ps → IsChunk rules (get_or ps i p).start (content (get_or ps i p))
      → list_any (stands rules) (flat (take (i + 1) ps)) ≡ (list_any (stands rules) (flat (take i ps)) || (content (get_or ps i p)).has_point)
  points_more ps i p l h =
      let q = get_or ps i p in
      ap (list_any (stands rules)) (flat_more ps i p l)
      ∙ (list_any-append (stands rules) (flat (take i ps)) (map (shift q.start) (content q).ranges)
      ∙ ap (λ b. list_any (stands rules) (flat (take i ps)) || b) (points_any rules q.start (content q).ranges ∙ sym h.points))

  pub group_reach_more : (start : ℕ) (ps : List (Placed T)) (i : ℕ) (p : Placed T) → i < length ps → IsChunk rules (get_or ps i p).start (content (get_or ps i p)) → 1 ≤ length (content (get_or ps i p)).ranges
      → greatest_end (flat (map (counted_chunk rules start) (take (i + 1) ps)))
      ≡ max (greatest_end (flat (map (counted_chunk rules start) (take i ps)))) ((get_or ps i p).start - start + (content (get_or ps i p)).reach)
  group_reach_more start ps i p l h some =
      let q = get_or ps i p in
      let f = counted_chunk rules start in
      let is : flat (map f (take (i + 1) ps)) ≡ flat (map f (take i ps)) ++ map (shift (q.start - start)) (content q).ranges =
      ap (λ qs. flat (map f qs)) (take_more ps i p l) ∙ (ap flat (map-append f (take i ps) (q ∷ [])) ∙ flat-push (map f (take i ps)) (f q)) in
      let a = ap greatest_end is ∙ greatest-append (flat (map f (take i ps))) (map (shift (q.start - start)) (content q).ranges) in
      let b = greatest_shifted (q.start - start) (content q).ranges some in
      let c = h.reach in
      omega (arith, a, b, c)

  counted_chunks : (start : ℕ) (ps : List (Placed T)) → AreChunks rules ps → AreChunks rules (map (counted_chunk rules start) ps)
  counted_chunks start [] h = tt
  counted_chunks start (p ∷ ps) h =
      let k = h.0.0.fits in
      ((chunk_placed rules p.start (p.start - start) (content p) h.0.0 (omega (arith, k)), h.0.1), counted_chunks start ps h.1)

  counted_length : (start : ℕ) (ps : List (Placed T)) → length (flat (map (counted_chunk rules start) ps)) ≡ length (flat ps)
  counted_length start [] = refl
  counted_length start (p ∷ ps) =
      let rs = (content p).ranges in
      let a = length-append (map (shift (p.start - start)) rs) (flat (map (counted_chunk rules start) ps)) in
      let b = length-append (map (shift p.start) rs) (flat ps) in
      let c = length_shifted rules (p.start - start) rs in
      let d = length_shifted rules p.start rs in
      let e = counted_length start ps in
      omega (arith, a, b, c, d, e)

  counted_turned : (start : ℕ) (ps : List (Placed T)) → list_any (is_turned rules) (flat (map (counted_chunk rules start) ps)) ≡ list_any (is_turned rules) (flat ps)
  counted_turned start [] = refl
  counted_turned start (p ∷ ps) =
      let rs = (content p).ranges in
      list_any-append (is_turned rules) (map (shift (p.start - start)) rs) (flat (map (counted_chunk rules start) ps))
      ∙ (ap (λ b. b || list_any (is_turned rules) (flat (map (counted_chunk rules start) ps))) (turned_any rules (p.start - start) rs ∙ sym (turned_any rules p.start rs))
      ∙ (ap (λ b. list_any (is_turned rules) (map (shift p.start) rs) || b) (counted_turned start ps)
      ∙ sym (list_any-append (is_turned rules) (map (shift p.start) rs) (flat ps))))

  counted_points : (start : ℕ) (ps : List (Placed T)) → list_any (stands rules) (flat (map (counted_chunk rules start) ps)) ≡ list_any (stands rules) (flat ps)
  counted_points start [] = refl
  counted_points start (p ∷ ps) =
      let rs = (content p).ranges in
      list_any-append (stands rules) (map (shift (p.start - start)) rs) (flat (map (counted_chunk rules start) ps))
      ∙ (ap (λ b. b || list_any (stands rules) (flat (map (counted_chunk rules start) ps))) (points_any rules (p.start - start) rs ∙ sym (points_any rules p.start rs))
      ∙ (ap (λ b. list_any (stands rules) (map (shift p.start) rs) || b) (counted_points start ps)
      ∙ sym (list_any-append (stands rules) (map (shift p.start) rs) (flat ps))))

  counted_first : (start : ℕ) (ps : List (Placed T)) → AreChunks rules ps → first_start (flat ps) ≡ start → first_start (flat (map (counted_chunk rules start) ps)) ≡ 0
  counted_first start [] h f = refl
  counted_first start (p ∷ ps) h f = at (content p).ranges h.0.1 h.0.0.first f
    where
      at : (rs : List (Ranged T)) → 1 ≤ length rs → first_start rs ≡ 0 → first_start (map (shift p.start) rs ++ flat ps) ≡ start
          → first_start (map (shift (p.start - start)) rs ++ flat (map (counted_chunk rules start) ps)) ≡ 0
      at [] some e f = absurd (omega arith)
      at (r ∷ rs) some e f = omega (arith, e, f)

  placed_back : (start : ℕ) (p : Placed T) → start ≤ p.start → move start (counted_chunk rules start p) ≡ p
  placed_back start p l =
      let e : p.start - start + start ≡ p.start = omega arith in
      ap (λ n. let q : Placed T = record { start = n; grown = p.grown; chunk = p.chunk } in q) e

  pub chunks_back : (start : ℕ) (ps : List (Placed T)) → AreChunks rules ps → Ascend start (flat ps) → map (move start) (map (counted_chunk rules start) ps) ≡ ps
  chunks_back start [] h a = refl
  chunks_back start (p ∷ ps) h a =
      let k = ascend_chunk start p.start (content p).ranges (flat ps) h.0.1 h.0.0.first a in
      ap (λ q. q ∷ map (move start) (map (counted_chunk rules start) ps)) (placed_back start p k.0)
      ∙ ap (λ qs. p ∷ qs) (chunks_back start ps h.1 (ascend-less start p.start (flat ps) k.0 k.1))

  pub whole_group : (start : ℕ) (group : GroupContent T) (ps : List (Placed T)) → group.grown ≡ 0 → group.chunks ≡ map (counted_chunk rules start) ps → length ps ≤ 64 → AreChunks rules ps → first_start (flat ps) ≡ start
      → group.count ≡ length (flat ps) → group.reach ≡ greatest_end (flat (map (counted_chunk rules start) ps)) → group.is_turned ≡ list_any (is_turned rules) (flat ps) → group.has_point ≡ list_any (stands rules) (flat ps)
      → start + group.reach < 2 ^ 32 → IsGroup rules start group
  whole_group start group ps none e few chunks first count reach turned points fits = record {
    few = rw e (let n = length-map ps (counted_chunk rules start) in omega (arith, n, few));
    single = λ some. absurd (omega (arith, none, some));
    chunks = rw e (counted_chunks start ps chunks);
    first = rw e (counted_first start ps chunks first);
    count = count ∙ (sym (counted_length start ps) ∙ ap (λ qs. length (flat qs)) (sym e));
    reach = reach ∙ ap (λ qs. greatest_end (flat qs)) (sym e);
    turned = turned ∙ (sym (counted_turned start ps) ∙ ap (λ qs. list_any (is_turned rules) (flat qs)) (sym e));
    points = points ∙ (sym (counted_points start ps) ∙ ap (λ qs. list_any (stands rules) (flat qs)) (sym e));
    fits = fits;
  }
