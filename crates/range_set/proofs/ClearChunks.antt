-- A chunk whose hull no change meets is only moved.
use Rattle.std.proofs.Common.{◌≡◌, ℕ, ◌+◌, ◌<◌, ◌≤◌, Bool, true, false, ◌&&◌, ◌||◌, cond, List, [], ◌∷◌, map, Option, Some, None, refl, ap, ◌∙◌, arith}
use Rattle.std.proofs.lemmas.Bool.Decides.{nat_tests}
use Rattle.std.specs.List.{list_any}
use Rattle.std.specs.Prelude.{nat_lt, ◌==◌, int_lt, int_le, pos, option_map, option_and_then}
use Rattle.change_desc.specs.Sections.{old_size}
use Rattle.change_desc.specs.Positions.{is_negative}
use Rattle.change_desc.specs.Ranges.{replaced}
use Rattle.change_desc.specs.declared.map_mode.MapMode.TheVariants.{Simple}
use Rattle.range_set.specs.Rules.{RangeRules}
use Rattle.range_set.specs.Order.{AllForward}
use Rattle.range_set.specs.Mapping.{Ends, ends_unless_turned, is_turned, moved, place_of, point_ends, span_ends}
use Rattle.range_set.specs.PrivateChunks.{EndBy, shift}
use Rattle.range_set.specs.declared.ranged.Ranged.{Ranged}
use Rattle.range_set.proofs.Chunks.{not_less, turned-shifted}
use Rattle.range_set.proofs.Clear.{IsClear, Sections, clear_apart, clear_place, map_pos-clear, none-narrow}
use Rattle.range_set.proofs.Each.{Within}
use Rattle.range_set.proofs.Under.{ClearEach, at_clear}

not_itself : (p : ℕ) → nat_lt p p ≡ false
not_itself p = grind (arith, nat_tests)

same_number : (a b : ℕ) → (a == b) ≡ true → a ≡ b
same_number a b h = grind (arith, nat_tests)

other_number : (a b : ℕ) → (a == b) ≡ false → a ≤ b → a < b
other_number a b h l = grind (arith, nat_tests)

differ : (p q : ℕ) (c : Bool) → p < q → (p == q && c) ≡ false
differ p q c l = grind (arith, nat_tests)

and_true : (b c : Bool) → b ≡ true → (b && c) ≡ false → c ≡ false
and_true true c e h = h
and_true false c e h = cc

and_false : (b c : Bool) → c ≡ false → (b && c) ≡ false
and_false true c e = e
and_false false c e = refl

or_left : (a b : Bool) → (a || b) ≡ false → a ≡ false
or_left false b h = refl
or_left true b h = h

or_right : (a b : Bool) → (a || b) ≡ false → b ≡ false
or_right false b h = h
or_right true b h = cc

module _ {T : Type 0} (rules : RangeRules T) (d : Sections) where
  -- the range at two ends, if there are any that don't turn round
  abbrev at_ends : Ranged T → Ends → Option (Ranged T)
  at_ends x o =
      option_map (λ (es : ℕ × ℕ). let r : Ranged T = record { from = es.0; to = es.1; value = x.value } in r)
      (option_and_then (λ (es : ℕ × ℕ). ends_unless_turned (rules.start_side x.value) (rules.end_side x.value) es.0 es.1) o)

  point_done : (x : Ranged T) (p : ℕ) (o o' : Option ℕ) → o ≡ Some p → o' ≡ Some p → int_lt (rules.end_side x.value) (rules.start_side x.value) ≡ false
      → at_ends x (option_and_then (λ from. option_and_then (λ to. cond (nat_lt to from) None (Some (from, to))) o') o) ≡ (let r : Ranged T = record { from = p; to = p; value = x.value } in Some r)
  point_done x p o o' e f t = rw (e, f, not_itself p) (last (p == p && int_lt (rules.end_side x.value) (rules.start_side x.value)) (and_false (p == p) _ t))
    where
      last : (b : Bool) → b ≡ false → option_map (λ (es : ℕ × ℕ). let r : Ranged T = record { from = es.0; to = es.1; value = x.value } in r) (cond b None (Some (p, p))) ≡ (let r : Ranged T = record { from = p; to = p; value = x.value } in Some r)
      last true h = cc
      last false h = refl

  span_done : (x : Ranged T) (p q : ℕ) (o o' : Option ℕ) → o ≡ Some p → o' ≡ Some q → p < q
      → at_ends x (option_and_then (λ p. option_and_then (λ q. cond (nat_lt q p || (p == q && int_lt (pos 0) (rules.start_side x.value) && int_le (rules.end_side x.value) (pos 0))) None (Some (p, q))) o') o) ≡ (let r : Ranged T = record { from = p; to = q; value = x.value } in Some r)
  span_done x p q o o' e f l =
      rw (e, f) (first (nat_lt q p || (p == q && int_lt (pos 0) (rules.start_side x.value) && int_le (rules.end_side x.value) (pos 0))) (in_order3 l))
    where
      in_order3 : p < q → (nat_lt q p || (p == q && int_lt (pos 0) (rules.start_side x.value) && int_le (rules.end_side x.value) (pos 0))) ≡ false
      in_order3 l = grind (arith, nat_tests)

      last : (b : Bool) → b ≡ false → option_map (λ (es : ℕ × ℕ). let r : Ranged T = record { from = es.0; to = es.1; value = x.value } in r) (cond b None (Some (p, q))) ≡ (let r : Ranged T = record { from = p; to = q; value = x.value } in Some r)
      last true h = cc
      last false h = refl

      first : (b : Bool) → b ≡ false → at_ends x (cond b None (Some (p, q))) ≡ (let r : Ranged T = record { from = p; to = q; value = x.value } in Some r)
      first true h = cc
      first false h = last (p == q && int_lt (rules.end_side x.value) (rules.start_side x.value)) (differ p q _ l)

  moved_clear : (x : Ranged T) → IsClear x.from x.to d → x.from ≤ x.to → x.to ≤ old_size d → is_turned rules x ≡ false → moved rules d x ≡ Some (at_clear rules d x)
  moved_clear x clear l m turned =
      let first = none-narrow x.from x.to x.from x.from (replaced d) (omega arith) l clear in
      let last = none-narrow x.from x.to x.to x.to (replaced d) l (omega arith) clear in
      cases (x.from == x.to) refl first last
    where
      cases : (b : Bool) → (x.from == x.to) ≡ b → IsClear x.from x.from d → IsClear x.to x.to d
          → at_ends x (cond b (point_ends d x.from (rules.start_side x.value) (rules.end_side x.value) (rules.mode x.value)) (span_ends d x.from x.to (rules.start_side x.value) (rules.end_side x.value))) ≡ Some (at_clear rules d x)
      cases true same first last =
          let p = clear_place d x.from in
          point_done x p (place_of d x.from (rules.start_side x.value) (rules.mode x.value)) (place_of d x.from (rules.end_side x.value) Simple)
          (map_pos-clear d x.from (is_negative (rules.start_side x.value)) (rules.mode x.value) (omega (arith, l, m)) first)
          (map_pos-clear d x.from (is_negative (rules.end_side x.value)) Simple (omega (arith, l, m)) first)
          (and_true (x.from == x.to) _ same turned)
          ∙ ap (λ n. let r : Ranged T = record { from = p; to = n; value = x.value } in Some r) (ap (clear_place d) (same_number x.from x.to same))
      cases false other first last =
          let far = clear_apart d x.from x.to l clear in
          let k = other_number x.from x.to other l in
          span_done x (clear_place d x.from) (clear_place d x.to) (place_of d x.from (rules.start_side x.value) Simple) (place_of d x.to (rules.end_side x.value) Simple)
          (map_pos-clear d x.from (is_negative (rules.start_side x.value)) Simple (omega (arith, l, m)) first)
          (map_pos-clear d x.to (is_negative (rules.end_side x.value)) Simple m last)
          (omega (arith, far, k))

  -- the ranges of a chunk that is clear from its start to its reach
  pub clear_each : (start reach : ℕ) (rs : List (Ranged T)) → IsClear start (start + reach) d → AllForward rs → EndBy reach rs → list_any (is_turned rules) rs ≡ false → Within (old_size d) (map (shift start) rs)
      → ClearEach rules d (map (shift start) rs)
  clear_each start reach [] clear f b t w = tt
  clear_each start reach (r ∷ rs) clear f b t w =
      let l = not_less r.to r.from f.0 in
      let from : start ≤ r.from + start = omega arith in
      let to : r.to + start ≤ start + reach = omega (arith, b.0) in
      let here = none-narrow start (start + reach) (r.from + start) (r.to + start) (replaced d) from to clear in
      let turned = turned-shifted rules start r ∙ or_left (is_turned rules r) (list_any (is_turned rules) rs) t in (
        (
          none-narrow start (start + reach) (r.from + start) (r.from + start) (replaced d) from (omega (arith, to, l)) clear,
          w.0.0,
          moved_clear (shift start r) here (omega (arith, l)) w.0.1 turned,
        ),
        clear_each start reach rs clear f.1 b.1 (or_right (is_turned rules r) (list_any (is_turned rules) rs) t) w.1,
      )

  at_clear-shift : (start reach : ℕ) (r : Ranged T) → IsClear start (start + reach) d → r.from ≤ r.to → r.to ≤ reach → at_clear rules d (shift start r) ≡ shift (clear_place d start) r
  at_clear-shift start reach r clear l m =
      let upto : (n : ℕ) → n ≤ reach → clear_place d (n + start) ≡ n + clear_place d start = λ n k.
      let g = clear_apart d start (n + start) (omega arith) (none-narrow start (start + reach) start (n + start) (replaced d) (omega arith) (omega arith) clear) in omega (arith, g) in
      ap (λ n. let q : Ranged T = record { from = n; to = clear_place d (r.to + start); value = r.value } in q) (upto r.from (omega arith))
      ∙ ap (λ n. let q : Ranged T = record { from = r.from + clear_place d start; to = n; value = r.value } in q) (upto r.to m)

  pub clear_shifts : (start reach : ℕ) (rs : List (Ranged T)) → IsClear start (start + reach) d → AllForward rs → EndBy reach rs → map (at_clear rules d) (map (shift start) rs) ≡ map (shift (clear_place d start)) rs
  clear_shifts start reach [] clear f b = refl
  clear_shifts start reach (r ∷ rs) clear f b =
      ap (λ q. q ∷ map (at_clear rules d) (map (shift start) rs)) (at_clear-shift start reach r clear (not_less r.to r.from f.0) b.0)
      ∙ ap (λ qs. shift (clear_place d start) r ∷ qs) (clear_shifts start reach rs clear f.1 b.1)
