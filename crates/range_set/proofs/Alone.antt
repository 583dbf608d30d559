-- The range of a chunk of one, where it is moved by another length and not by another chunk.
use Rattle.std.proofs.Common.{◌≡◌, ℕ, ◌+◌, ◌-◌, ◌^◌, ◌<◌, ◌≤◌, false, ◌||◌, ◌&&◌, List, [], ◌∷◌, length, get_or, map, Some, refl, sym, ap, subst, ◌∙◌, arith}
use Rattle.std.proofs.lemmas.Bool.Decides.{nat_tests}
use Rattle.std.specs.Prelude.{nat_lt, ◌==◌, int_lt, option_map}
use Rattle.change_desc.specs.declared.map_mode.MapMode.TheVariants.{Simple}
use Rattle.range_set.specs.Rules.{RangeRules}
use Rattle.std.specs.List.{list_any}
use Rattle.range_set.specs.Mapping.{ends_unless_turned, is_turned, moved, place_of}
use Rattle.range_set.specs.Points.{stands}
use Rattle.range_set.specs.PrivateChunks.{IsChunk, greatest_end, grow, shift, stretch}
use Rattle.range_set.specs.declared.ranged.Ranged.{Ranged}
use Rattle.range_set.specs.declared.chunk.Chunk.{Chunk}
use Rattle.range_set.proofs.Chunks.{is_not_less}
use Rattle.range_set.proofs.Clear.{Sections}

pub one_item : {X : Type 0} (xs : List X) (x : X) → 1 ≤ length xs → length xs < 2 → x ≡ get_or xs 0 x → xs ≡ x ∷ []
one_item [] x l m e = absurd (omega arith)
one_item (y ∷ []) x l m e = ap (λ z. z ∷ []) (sym e)
one_item (y ∷ z ∷ xs) x l m e = absurd (omega (arith, m))

module _ {T : Type 0} where
  -- ranges that haven't grown
  pub grown_none : (rs : List (Ranged T)) → map (grow 0) rs ≡ rs
  grown_none [] = refl
  grown_none (r ∷ rs) =
      let to : r.to + 0 ≡ r.to = omega arith in
      ap (λ n. let q : Ranged T = record { from = r.from; to = n; value = r.value } in q ∷ map (grow 0) rs) to ∙ ap (λ qs. r ∷ qs) (grown_none rs)

module _ {T : Type 0} (rules : RangeRules T) where
  -- a range without length at the start of its chunk
  abbrev pub bare : T → Ranged T
  bare v = record { from = 0; to = 0; value = v }

  pub is_bare : (r : Ranged T) → r.from ≡ 0 → r.to ≡ 0 → r ≡ bare r.value
  is_bare r f t =
      ap (λ n. let q : Ranged T = record { from = n; to = r.to; value = r.value } in q) f
      ∙ ap (λ n. let q : Ranged T = record { from = 0; to = n; value = r.value } in q) t

  -- a chunk of one range without length that has grown
  grown_chunk : (start by : ℕ) (chunk : Chunk T) (v : T) → chunk.ranges.items ≡ bare v ∷ [] → chunk.reach ≡ 0 → chunk.is_turned ≡ false → chunk.has_point ≡ (rules.is_point v || false) → 0 < by → start + by < 2 ^ 32
      → IsChunk rules start (stretch by chunk)
  grown_chunk start by chunk v e reach turned point some fits = record {
    few = rw e (omega arith);
    first = rw e refl;
    forward = rw e (is_not_less (0 + by) 0 (omega arith), tt);
    reach = rw e (omega (arith, reach));
    turned = rw e (turned ∙ sym (ap (λ b. (b && int_lt (rules.end_side v) (rules.start_side v)) || false) (apart by some)));
    points = rw e point;
    fits = omega (arith, reach, fits);
  }
    where
      apart : (n : ℕ) → 0 < n → (0 == 0 + n) ≡ false
      apart n l = grind (arith, nat_tests)

module _ {T : Type 0} (rules : RangeRules T) (d : Sections) where
  -- a range that isn't empty and doesn't become so
  span_moves : (r : Ranged T) (f t : ℕ) → r.from < r.to → place_of d r.from (rules.start_side r.value) Simple ≡ Some f → place_of d r.to (rules.end_side r.value) Simple ≡ Some t → f < t
      → moved rules d r ≡ (let q : Ranged T = record { from = f; to = t; value = r.value } in Some q)
  span_moves r f t l a b m =
      let e : (r.from == r.to) ≡ false = grind (arith, nat_tests) in
      let less : nat_lt t f ≡ false = grind (arith, nat_tests) in
      let same : (f == t) ≡ false = grind (arith, nat_tests) in
      rw (e, a, b, less, same) (kept same)
    where
      kept : (f == t) ≡ false → option_map (λ (ends : ℕ × ℕ). let q : Ranged T = record { from = ends.0; to = ends.1; value = r.value } in q) (ends_unless_turned (rules.start_side r.value) (rules.end_side r.value) f t) ≡ (let q : Ranged T = record { from = f; to = t; value = r.value } in Some q)
      kept h = rw h refl

  -- what becomes of a chunk of one range without length that has grown
  pub record GoesAlone (start f t by : ℕ) (of : Chunk T) (v : T) : Type 0 where
    pub one : (stretch by of).ranges ≡ grow by (bare rules v) ∷ []
    pub moves : moved rules d (shift start (grow by (bare rules v))) ≡ (let q : Ranged T = record { from = f; to = t; value = v } in Some q)
    pub images : map (shift f) (stretch (t - f) of).ranges ≡ (let q : Ranged T = record { from = f; to = t; value = v } in q ∷ [])
    pub chunk : IsChunk rules f (stretch (t - f) of)

  pub goes_alone : (start f t by : ℕ) (chunk : Chunk T) (v : T) → chunk.ranges.items ≡ bare rules v ∷ [] → IsChunk rules start (stretch by chunk) → 0 < by
      → place_of d start (rules.start_side v) Simple ≡ Some f → place_of d (start + by) (rules.end_side v) Simple ≡ Some t → f < t → t < 2 ^ 32 → GoesAlone start f t by chunk v
  goes_alone start f t by chunk v e h some a b l fits =
      let x = ap (map (grow by)) e in
      let reach = h.reach ∙ ap (λ rs. greatest_end rs) x in
      let turned = h.turned ∙ ap (λ rs. list_any (is_turned rules) rs) x in
      let point = h.points ∙ ap (λ rs. list_any (stands rules) rs) x in
      let begin : start ≡ 0 + start = omega arith in
      let end : start + by ≡ 0 + by + start = omega arith in
      let moves = span_moves (shift start (grow by (bare rules v))) f t (omega (arith, some)) (subst (λ p. place_of d p (rules.start_side v) Simple ≡ Some f) begin a) (subst (λ p. place_of d p (rules.end_side v) Simple ≡ Some t) end b) l in
      let from : 0 + f ≡ f = omega arith in
      let to : 0 + (t - f) + f ≡ t = omega (arith, l) in
      record {
        one = x;
        moves = moves;
        images = ap (λ rs. map (shift f) (map (grow (t - f)) rs)) e
            ∙ (ap (λ n. let q : Ranged T = record { from = n; to = 0 + (t - f) + f; value = v } in q ∷ []) from
            ∙ ap (λ n. let q : Ranged T = record { from = f; to = n; value = v } in q ∷ []) to);
        chunk = grown_chunk rules f (t - f) chunk v e (omega (arith, reach)) (turned ∙ ap (λ b. (b && int_lt (rules.end_side v) (rules.start_side v)) || false) (apart by some)) point (omega (arith, l)) (omega (arith, l, fits));
      }
    where
      apart : (n : ℕ) → 0 < n → (0 == 0 + n) ≡ false
      apart n l = grind (arith, nat_tests)
