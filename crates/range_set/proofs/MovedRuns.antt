-- Ranges of a chunk that are moved one after another, and those that go as far as a clear place.
use Rattle.std.proofs.Common.{◌≡◌, ℕ, ◌+◌, ◌-◌, ◌^◌, ◌<◌, ◌≤◌, true, false, List, [], ◌∷◌, ◌++◌, map, filter_map, Option, Some, refl, sym, ap, subst, ◌∙◌, append_assoc, arith}
use Rattle.std.proofs.lemmas.List.{append-nil, map-append}
use Rattle.std.proofs.lemmas.List.Elements.{filter_map-append}
use Rattle.std.specs.List.{cons_option, list_any}
use Rattle.std.specs.Prelude.{unwrap_or}
use Rattle.change_desc.specs.Ranges.{meets, replaced}
use Rattle.change_desc.specs.Sections.{counted, new_size, old_size}
use Rattle.change_desc.specs.declared.map_mode.MapMode.TheVariants.{Simple}
use Rattle.range_set.specs.Rules.{RangeRules}
use Rattle.range_set.specs.Order.{AllForward}
use Rattle.range_set.specs.Mapping.{EndWithin, is_turned, moved}
use Rattle.range_set.specs.PrivateChunks.{Ascend, Content, EndBy, IsChunk, greatest_end, shift}
use Rattle.range_set.specs.PrivateMoving.{AreMoved, AreWithin, IsClearPlace}
use Rattle.range_set.specs.declared.clear_walk.ClearPlace.{ClearPlace}
use Rattle.range_set.specs.declared.ranged.Ranged.{Ranged}
use Rattle.range_set.proofs.Chunks.{ascend-rest, end_by_greatest, not_less, turned-shifted}
use Rattle.range_set.proofs.Clear.{IsClear, Sections, clear_apart, clear_place, map_pos-clear, none-narrow}
use Rattle.range_set.proofs.Each.{FirstBy, Within, within}
use Rattle.range_set.proofs.Walked.{clear_range}

module _ {T : Type 0} where
  all_within : (len start reach : ℕ) (rs : List (Ranged T)) → start + reach < 2 ^ 32 → AllForward rs → EndBy reach rs → Within len (map (shift start) rs) → AreWithin len start rs
  all_within len start reach [] l f e w = tt
  all_within len start reach (r ∷ rs) l f e w =
      let end = e.0 in
      ((not_less r.to r.from f.0, w.0.1, omega (arith, end, l)), all_within len start reach rs l f.1 e.1 w.1)

  pub chunk_within : (rules : RangeRules T) (len start : ℕ) (chunk : Content T) → IsChunk rules start chunk → EndWithin len (map (shift start) chunk.ranges) → AreWithin len start chunk.ranges
  chunk_within rules len start chunk h w =
      let k : greatest_end chunk.ranges ≤ chunk.reach = omega (arith, h.reach) in
      all_within len start chunk.reach chunk.ranges h.fits h.forward (end_by_greatest chunk.ranges chunk.reach k) (within len _ w)

  pub within_rest : (len start : ℕ) (taken rest : List (Ranged T)) → AreWithin len start (taken ++ rest) → AreWithin len start rest
  within_rest len start [] rest h = h
  within_rest len start (r ∷ taken) rest h = within_rest len start taken rest h.1

  -- what is left of ranges in order is in order, and begins no earlier
  pub ascend_left : (n start : ℕ) (taken rest later : List (Ranged T)) → Ascend n (map (shift start) (taken ++ rest) ++ later) → Ascend n (map (shift start) rest ++ later)
  ascend_left n start taken rest later h =
      ascend-rest n (map (shift start) taken) (map (shift start) rest ++ later)
      (subst (Ascend n) (ap (λ xs. xs ++ later) (map-append (shift start) taken rest) ∙ append_assoc (map (shift start) taken) (map (shift start) rest) later) h)

  pub first_least : (n a : ℕ) (rs : List (Ranged T)) → Ascend n (rs ++ []) → FirstBy a rs → n ≤ a
  first_least n a [] h f = absurd f
  first_least n a (r ∷ rs) h f = let l = h.0 in omega (arith, l, f)

  pub first_left : (n start a : ℕ) (taken rest : List (Ranged T)) → Ascend n (map (shift start) (taken ++ rest) ++ []) → FirstBy a (map (shift start) rest) → FirstBy a (map (shift start) (taken ++ rest))
  first_left n start a [] rest h f = f
  first_left n start a (r ∷ taken) rest h f =
      first_least (r.from + start) a (map (shift start) rest) (ascend_left (r.from + start) start taken rest [] h.1) f

module _ {T : Type 0} (rules : RangeRules T) (d : Sections) (start : ℕ) where
  pub moved_none : (ranges old : List (Ranged T)) (n : ℕ) → AreMoved rules d start ranges ranges old old n n
  moved_none ranges old n = record { taken = []; is = refl; run = sym (append-nil old); cost = omega arith }

  -- one more range that is moved, or dropped
  pub moved_more : (ranges others old run new : List (Ranged T)) (r : Ranged T) (o : Option (Ranged T)) (a b c : ℕ) → AreMoved rules d start ranges (r ∷ others) old run a b
      → o ≡ moved rules d (shift start r) → new ≡ run ++ cons_option o [] → c ≤ b + 1 → AreMoved rules d start ranges others old new a c
  moved_more ranges others old run new r o a b c h e n l =
      let f = moved rules d in
      let k = ap (filter_map f) (map-append (shift start) h.taken (r ∷ [])) ∙ filter_map-append f (map (shift start) h.taken) (shift start r ∷ []) in
      let spent = h.cost in
      record {
        taken = h.taken ++ r ∷ [];
        is = h.is ∙ sym (append_assoc h.taken (r ∷ []) others);
        run = n ∙ (ap (λ x. run ++ cons_option x []) e ∙ (ap (λ x. x ++ cons_option (f (shift start r)) []) h.run
            ∙ (append_assoc old (filter_map f (map (shift start) h.taken)) (cons_option (f (shift start r)) []) ∙ ap (λ x. old ++ x) (sym k))));
        cost = omega (arith, spent, l);
      }

  -- and others after it
  pub moved_on : (ranges mid rest old run new : List (Ranged T)) (a b c : ℕ) → AreMoved rules d start ranges mid old run a b → AreMoved rules d start mid rest run new b c
      → AreMoved rules d start ranges rest old new a c
  moved_on ranges mid rest old run new a b c h k =
      let f = moved rules d in
      let parts = ap (filter_map f) (map-append (shift start) h.taken k.taken) ∙ filter_map-append f (map (shift start) h.taken) (map (shift start) k.taken) in
      let x = h.cost in
      let y = k.cost in
      record {
        taken = h.taken ++ k.taken;
        is = h.is ∙ (ap (λ xs. h.taken ++ xs) k.is ∙ sym (append_assoc h.taken k.taken rest));
        run = k.run ∙ (ap (λ xs. xs ++ filter_map f (map (shift start) k.taken)) h.run
            ∙ (append_assoc old (filter_map f (map (shift start) h.taken)) (filter_map f (map (shift start) k.taken)) ∙ ap (λ xs. old ++ xs) (sym parts)));
        cost = omega (arith, x, y);
      }

  pub moved_all : (ranges old new : List (Ranged T)) (a b : ℕ) → AreMoved rules d start ranges [] old new a b → new ≡ old ++ filter_map (moved rules d) (map (shift start) ranges)
  moved_all ranges old new a b h =
      h.run ∙ ap (λ xs. old ++ filter_map (moved rules d) (map (shift start) xs)) (sym (h.is ∙ append-nil h.taken))

  -- a range that goes as far as a clear place before it
  pub record GoesAlong (p : ClearPlace) (r : Ranged T) : Type 0 where
    pub fits : p.to + (r.to + start - p.from) ≤ new_size counted d
    pub moves : Some (let q : Ranged T = record { from = p.to + (r.from + start - p.from); to = p.to + (r.to + start - p.from); value = r.value } in q) ≡ moved rules d (shift start r)

  pub goes_along : (p : ClearPlace) (r : Ranged T) → IsClearPlace d p → r.from ≤ r.to → r.to + start ≤ old_size d → is_turned rules r ≡ false → p.from ≤ r.from + start
      → list_any (meets p.from (r.to + start)) p.changed.now ≡ false → GoesAlong p r
  goes_along p r h forward inside turned from none =
      let hull : IsClear p.from (r.to + start) d = sym (h.same p.from (r.to + start) (omega arith)) ∙ none in
      let narrow : IsClear (r.from + start) (r.to + start) d = none-narrow p.from (r.to + start) (r.from + start) (r.to + start) (replaced d) from (omega arith) hull in
      let before : IsClear p.from (r.from + start) d = none-narrow p.from (r.to + start) p.from (r.from + start) (replaced d) (omega arith) (omega (arith, forward)) hull in
      let clear = clear_range rules d (shift start r) (omega (arith, forward)) inside (turned-shifted rules start r ∙ turned) narrow in
      let apart = clear_apart d p.from (r.from + start) from before in
      let value = h.value ∙ ap (λ o. unwrap_or o 0) (map_pos-clear d p.from true Simple h.inside h.clear) in
      let begin : p.to + (r.from + start - p.from) ≡ clear_place d (r.from + start) = omega (arith, value, apart) in
      let end : p.to + (r.to + start - p.from) ≡ clear_place d (r.from + start) + (r.to + start - (r.from + start)) = omega (arith, value, apart, forward, from) in
      let fits = clear.fits in
      record {
        fits = omega (arith, end, fits);
        moves = ap (λ n. let q : Ranged T = record { from = n; to = p.to + (r.to + start - p.from); value = r.value } in Some q) begin
            ∙ (ap (λ n. let q : Ranged T = record { from = clear_place d (r.from + start); to = n; value = r.value } in Some q) end
            ∙ sym clear.moves);
      }
