-- A mapping under way: what is done is sorted, and the rest doesn't belong before it.
use Rattle.std.proofs.Common.{◌≡◌, ℕ, suc, ◌+◌, ◌<◌, ◌≤◌, Bool, true, false, ◌&&◌, ◌||◌, cond, List, [], ◌∷◌, ◌++◌, length, map, filter_map, Option, Some, None, refl, sym, ap, subst, ◌∙◌, append_assoc, ◌⊎◌, inl, inr, eq-or-lt_of_le, arith}
use Rattle.std.proofs.lemmas.List.{append-nil, length-append, length-map}
use Rattle.std.proofs.lemmas.List.Elements.{filter_map-append}
use Rattle.std.proofs.lemmas.Bool.Decides.{nat_tests}
use Rattle.std.specs.List.{cons_option}
use Rattle.std.specs.Prelude.{nat_lt, ◌==◌, int_lt, int_le, ℤ, pos, option_map, option_and_then}
use Rattle.change_desc.specs.Sections.{counted, old_size}
use Rattle.change_desc.specs.Positions.{is_negative, map_pos}
use Rattle.change_desc.specs.declared.map_mode.MapMode.{MapMode}
use Rattle.change_desc.specs.declared.map_mode.MapMode.TheVariants.{Simple}
use Rattle.stable_order.specs.StableSort.{stable_sort}
use Rattle.stable_order.proofs.StableSort.{NoneBelow, NoneBelow-chain, NoneBelowAny, Rises, Rises-stable_sort, length-stable_sort, stable_sort-append, stable_sort-risen}
use Rattle.range_set.specs.Rules.{RangeRules}
use Rattle.range_set.specs.Order.{before}
use Rattle.range_set.specs.Ranking.{before-order}
use Rattle.range_set.specs.Mapping.{ends_unless_turned, moved, place_of, point_ends, span_ends}
use Rattle.range_set.specs.PrivateChunks.{Ascend}
use Rattle.range_set.specs.declared.ranged.Ranged.{Ranged}
use Rattle.range_set.proofs.Clear.{IsClear, Sections, clear_place, goes_after, goes_before, map_pos-clear}

earlier : (a b : ℕ) (c : Bool) → (nat_lt a b || (a == b && c)) ≡ false → b ≤ a
earlier a b c h = grind (arith, nat_tests)

not_before : (a b : ℕ) (c : Bool) → b < a → (nat_lt a b || (a == b && c)) ≡ false
not_before a b c l = grind (arith, nat_tests)

same_place : (a b : ℕ) (c : Bool) → a ≡ b → (nat_lt a b || (a == b && c)) ≡ false → c ≡ false
same_place a b true e h = absurd (wrong (nat_lt a b) h)
  where
    same : (a == b) ≡ true
    same = grind (arith, nat_tests)

    wrong : (x : Bool) → (x || ((a == b) && true)) ≡ false → ⊥
    wrong true h = cc
    wrong false h = let k : true ≡ false = sym (ap (λ y. y && true) same) ∙ h in cc
same_place a b false e h = refl

not_before_same : (a b : ℕ) (c : Bool) → a ≡ b → c ≡ false → (nat_lt a b || (a == b && c)) ≡ false
not_before_same a b c e h = rw h (tests (a == b))
  where
    l : nat_lt a b ≡ false
    l = grind (arith, nat_tests)

    tests : (x : Bool) → (nat_lt a b || (x && false)) ≡ false
    tests true = rw l refl
    tests false = rw l refl

module _ {T : Type 0} (rules : RangeRules T) (d : Sections) where
  -- where a moved range begins
  record Begins (r q : Ranged T) : Type 0 where
    mode : MapMode
    from : map_pos counted d r.from (is_negative (rules.start_side r.value)) mode ≡ Some q.from
    value : q.value ≡ r.value

  moved_begins : (r q : Ranged T) → moved rules d r ≡ Some q → Begins r q
  moved_begins r q h = at (r.from == r.to) h
    where
      ends : ℤ
      ends = rules.end_side r.value

      end_point : (m : MapMode) (o o' : Option ℕ) → o ≡ place_of d r.from (rules.start_side r.value) m
          → option_map (λ (es : ℕ × ℕ). let x : Ranged T = record { from = es.0; to = es.1; value = r.value } in x)
          (option_and_then (λ (es : ℕ × ℕ). ends_unless_turned (rules.start_side r.value) (rules.end_side r.value) es.0 es.1)
          (option_and_then (λ from. option_and_then (λ to. cond (nat_lt to from) None (Some (from, to))) o') o)) ≡ Some q → Begins r q
      end_point m None o' e h = cc
      end_point m (Some f) None e h = cc
      end_point m (Some f) (Some t) e h = turn (nat_lt t f) h
        where
          last : (b : Bool) → option_map (λ (es : ℕ × ℕ). let x : Ranged T = record { from = es.0; to = es.1; value = r.value } in x) (cond b None (Some (f, t))) ≡ Some q → Begins r q
          last true h = cc
          last false h = let x : Ranged T = record { from = f; to = t; value = r.value } in let g : x ≡ q = cc in
              record { mode = m; from = sym e ∙ ap (λ (y : Ranged T). Some y.from) g; value = sym (ap (λ (y : Ranged T). y.value) g) }

          turn : (b : Bool) → option_map (λ (es : ℕ × ℕ). let x : Ranged T = record { from = es.0; to = es.1; value = r.value } in x)
              (option_and_then (λ (es : ℕ × ℕ). ends_unless_turned (rules.start_side r.value) (rules.end_side r.value) es.0 es.1) (cond b None (Some (f, t)))) ≡ Some q → Begins r q
          turn true h = cc
          turn false h = last (f == t && int_lt (rules.end_side r.value) (rules.start_side r.value)) h

      end_span : (o o' : Option ℕ) → o ≡ place_of d r.from (rules.start_side r.value) Simple
          → option_map (λ (es : ℕ × ℕ). let x : Ranged T = record { from = es.0; to = es.1; value = r.value } in x)
          (option_and_then (λ (es : ℕ × ℕ). ends_unless_turned (rules.start_side r.value) (rules.end_side r.value) es.0 es.1)
          (option_and_then (λ p. option_and_then (λ q. cond (nat_lt q p || (p == q && int_lt (pos 0) (rules.start_side r.value) && int_le (rules.end_side r.value) (pos 0))) None (Some (p, q))) o') o)) ≡ Some q → Begins r q
      end_span None o' e h = cc
      end_span (Some f) None e h = cc
      end_span (Some f) (Some t) e h = turn (nat_lt t f || (f == t && int_lt (pos 0) (rules.start_side r.value) && int_le (rules.end_side r.value) (pos 0))) h
        where
          last : (b : Bool) → option_map (λ (es : ℕ × ℕ). let x : Ranged T = record { from = es.0; to = es.1; value = r.value } in x) (cond b None (Some (f, t))) ≡ Some q → Begins r q
          last true h = cc
          last false h = let x : Ranged T = record { from = f; to = t; value = r.value } in let g : x ≡ q = cc in
              record { mode = Simple; from = sym e ∙ ap (λ (y : Ranged T). Some y.from) g; value = sym (ap (λ (y : Ranged T). y.value) g) }

          turn : (b : Bool) → option_map (λ (es : ℕ × ℕ). let x : Ranged T = record { from = es.0; to = es.1; value = r.value } in x)
              (option_and_then (λ (es : ℕ × ℕ). ends_unless_turned (rules.start_side r.value) (rules.end_side r.value) es.0 es.1) (cond b None (Some (f, t)))) ≡ Some q → Begins r q
          turn true h = cc
          turn false h = last (f == t && int_lt (rules.end_side r.value) (rules.start_side r.value)) h

      at : (b : Bool) → option_map (λ (es : ℕ × ℕ). let x : Ranged T = record { from = es.0; to = es.1; value = r.value } in x)
          (option_and_then (λ (es : ℕ × ℕ). ends_unless_turned (rules.start_side r.value) (rules.end_side r.value) es.0 es.1)
          (cond b (point_ends d r.from (rules.start_side r.value) (rules.end_side r.value) (rules.mode r.value)) (span_ends d r.from r.to (rules.start_side r.value) (rules.end_side r.value)))) ≡ Some q → Begins r q
      at true h = end_point (rules.mode r.value) (place_of d r.from (rules.start_side r.value) (rules.mode r.value)) (place_of d r.from (rules.end_side r.value) Simple) refl h
      at false h = end_span (place_of d r.from (rules.start_side r.value) Simple) (place_of d r.to (rules.end_side r.value) Simple) refl h

  -- each range begins in the old text
  abbrev pub StartIn : List (Ranged T) → Type 0
  StartIn [] = Unit {0}
  StartIn (r ∷ rs) = (r.from ≤ old_size d) × StartIn rs

module _ {T : Type 0} (rules : RangeRules T) (d : Sections) (ends : Ranged T → ℕ) where
  -- a range whose start no change meets, where it goes, with an end of its own
  abbrev pub image : Ranged T → Ranged T
  image r = record { from = clear_place d r.from; to = ends r; value = r.value }

  -- ranges whose starts no change meets, and that go there
  abbrev pub AreClear : List (Ranged T) → Type 0
  AreClear [] = Unit {0}
  AreClear (r ∷ rs) = (IsClear r.from r.from d × (r.from ≤ old_size d) × (moved rules d r ≡ Some (image r))) × AreClear rs

  pub clear_images : (c : List (Ranged T)) → AreClear c → filter_map (moved rules d) c ≡ map image c
  clear_images [] h = refl
  clear_images (r ∷ rs) h = ap (λ o. cons_option o (filter_map (moved rules d) rs)) h.0.2 ∙ ap (λ xs. image r ∷ xs) (clear_images rs h.1)

  -- what stands before a clear range is moved before it, and what stands after it after it
  before_clear : (x u q : Ranged T) → before rules u x ≡ false → IsClear u.from u.from d → u.from ≤ old_size d → moved rules d x ≡ Some q → before rules (image u) q ≡ false
  before_clear x u q h clear l e =
      let b = moved_begins rules d x q e in
      at (eq-or-lt_of_le (earlier u.from x.from _ h)) b
    where
      at : (x.from ≡ u.from) ⊎ (x.from < u.from) → Begins rules d x q → before rules (image u) q ≡ false
      at (inl s) b =
          let k = map_pos-clear d u.from (is_negative (rules.start_side x.value)) b.mode l clear in
          let w : Some (clear_place d u.from) ≡ Some q.from = sym k ∙ (ap (λ p. map_pos counted d p (is_negative (rules.start_side x.value)) b.mode) (sym s) ∙ b.from) in
          let f : clear_place d u.from ≡ q.from = cc in
          not_before_same (clear_place d u.from) q.from _ f
          (ap (λ v. int_lt (rules.start_side u.value) (rules.start_side v)) b.value ∙ same_place u.from x.from (int_lt (rules.start_side u.value) (rules.start_side x.value)) (sym s) h)
      at (inr m) b = not_before (clear_place d u.from) q.from _ (goes_before d u.from x.from q.from (is_negative (rules.start_side x.value)) b.mode m l clear b.from)

  after_clear : (u y q : Ranged T) → before rules y u ≡ false → IsClear u.from u.from d → u.from ≤ old_size d → y.from ≤ old_size d → moved rules d y ≡ Some q → before rules q (image u) ≡ false
  after_clear u y q h clear l n e =
      let b = moved_begins rules d y q e in
      at (eq-or-lt_of_le (earlier y.from u.from _ h)) b
    where
      at : (u.from ≡ y.from) ⊎ (u.from < y.from) → Begins rules d y q → before rules q (image u) ≡ false
      at (inl s) b =
          let k = map_pos-clear d u.from (is_negative (rules.start_side y.value)) b.mode l clear in
          let w : Some (clear_place d u.from) ≡ Some q.from = sym k ∙ (ap (λ p. map_pos counted d p (is_negative (rules.start_side y.value)) b.mode) s ∙ b.from) in
          let f : clear_place d u.from ≡ q.from = cc in
          not_before_same q.from (clear_place d u.from) _ (sym f)
          (ap (λ v. int_lt (rules.start_side v) (rules.start_side u.value)) b.value ∙ same_place y.from u.from (int_lt (rules.start_side y.value) (rules.start_side u.value)) (sym s) h)
      at (inr m) b = not_before q.from (clear_place d u.from) _ (goes_after d u.from y.from q.from (is_negative (rules.start_side y.value)) b.mode m n clear b.from)

  below_images : (x q : Ranged T) (c : List (Ranged T)) → NoneBelow (before rules) x c → moved rules d x ≡ Some q → AreClear c → NoneBelow (before rules) q (map image c)
  below_images x q [] h e k = tt
  below_images x q (u ∷ c) h e k = (before_clear x u q h.0 k.0.0 k.0.1 e, below_images x q c h.1 e k.1)

  pub sources_below : (xs c : List (Ranged T)) → NoneBelowAny (before rules) (before-order rules) xs c → AreClear c → NoneBelowAny (before rules) (before-order rules) (filter_map (moved rules d) xs) (map image c)
  sources_below [] c h k = tt
  sources_below (x ∷ xs) c h k = at (moved rules d x) refl (sources_below xs c h.1 k)
    where
      at : (o : Option (Ranged T)) → moved rules d x ≡ o → NoneBelowAny (before rules) (before-order rules) (filter_map (moved rules d) xs) (map image c)
          → NoneBelowAny (before rules) (before-order rules) (cons_option o (filter_map (moved rules d) xs)) (map image c)
      at None e rest = rest
      at (Some q) e rest = (below_images x q c h.0 e k, rest)

  above_images : (u : Ranged T) (ys : List (Ranged T)) → IsClear u.from u.from d → u.from ≤ old_size d → StartIn rules d ys → NoneBelow (before rules) u ys → NoneBelow (before rules) (image u) (filter_map (moved rules d) ys)
  above_images u [] clear l s h = tt
  above_images u (y ∷ ys) clear l s h = at (moved rules d y) refl (above_images u ys clear l s.1 h.1)
    where
      at : (o : Option (Ranged T)) → moved rules d y ≡ o → NoneBelow (before rules) (image u) (filter_map (moved rules d) ys) → NoneBelow (before rules) (image u) (cons_option o (filter_map (moved rules d) ys))
      at None e rest = rest
      at (Some q) e rest = (after_clear u y q h.0 clear l s.0 e, rest)

  pub chunk_below : (c ys : List (Ranged T)) → AreClear c → StartIn rules d ys → NoneBelowAny (before rules) (before-order rules) c ys → NoneBelowAny (before rules) (before-order rules) (map image c) (filter_map (moved rules d) ys)
  chunk_below [] ys k s h = tt
  chunk_below (u ∷ c) ys k s h = (above_images u ys k.0.0 k.0.1 s h.0, chunk_below c ys k.1 s h.1)

  starts_in : (c : List (Ranged T)) → AreClear c → StartIn rules d c
  starts_in [] k = tt
  starts_in (u ∷ c) k = (k.0.1, starts_in c k.1)

  chunk_rises : (c : List (Ranged T)) → AreClear c → Rises (before rules) c → Rises (before rules) (map image c)
  chunk_rises [] k h = tt
  chunk_rises (u ∷ c) k h =
      (subst (NoneBelow (before rules) (image u)) (clear_images c k.1) (above_images u c k.0.0 k.0.1 (starts_in c k.1) h.0), chunk_rises c k.1 h.1)

module _ {T : Type 0} (rules : RangeRules T) (d : Sections) where
  -- a range that no change meets, where it goes
  abbrev pub at_clear : Ranged T → Ranged T
  at_clear = image rules d (λ r. clear_place d r.to)

  -- ranges that no change meets, each of which is only moved
  abbrev pub ClearEach : List (Ranged T) → Type 0
  ClearEach = AreClear rules d (λ r. clear_place d r.to)

  -- where a range goes whose start no change meets
  pub image_is : (x v : Ranged T) → IsClear x.from x.from d → x.from ≤ old_size d → moved rules d x ≡ Some v → v ≡ image rules d (λ r. v.to) x
  image_is x v clear l e =
      let b = moved_begins rules d x v e in
      let w : Some (clear_place d x.from) ≡ Some v.from = sym (map_pos-clear d x.from (is_negative (rules.start_side x.value)) b.mode l clear) ∙ b.from in
      let f : v.from ≡ clear_place d x.from = cc in
      ap (λ n. let q : Ranged T = record { from = n; to = v.to; value = v.value } in q) f
      ∙ ap (λ y. let q : Ranged T = record { from = clear_place d x.from; to = v.to; value = y } in q) b.value

module _ {T : Type 0} (rules : RangeRules T) where
  pub none_left : (z : Ranged T) (xs ys : List (Ranged T)) → NoneBelow (before rules) z (xs ++ ys) → NoneBelow (before rules) z xs
  none_left z [] ys h = tt
  none_left z (x ∷ xs) ys h = (h.0, none_left z xs ys h.1)

  pub none_right : (z : Ranged T) (xs ys : List (Ranged T)) → NoneBelow (before rules) z (xs ++ ys) → NoneBelow (before rules) z ys
  none_right z [] ys h = h
  none_right z (x ∷ xs) ys h = none_right z xs ys h.1

  pub none_both : (z : Ranged T) (xs ys : List (Ranged T)) → NoneBelow (before rules) z xs → NoneBelow (before rules) z ys → NoneBelow (before rules) z (xs ++ ys)
  none_both z [] ys h k = k
  none_both z (x ∷ xs) ys h k = (h.0, none_both z xs ys h.1 k)

  pub any_both : (zs xs ys : List (Ranged T)) → NoneBelowAny (before rules) (before-order rules) zs xs → NoneBelowAny (before rules) (before-order rules) zs ys → NoneBelowAny (before rules) (before-order rules) zs (xs ++ ys)
  any_both [] xs ys h k = tt
  any_both (z ∷ zs) xs ys h k = (none_both z xs ys h.0 k.0, any_both zs xs ys h.1 k.1)

  pub rises_left : (xs ys : List (Ranged T)) → Rises (before rules) (xs ++ ys) → Rises (before rules) xs
  rises_left [] ys h = tt
  rises_left (x ∷ xs) ys h = (none_left x xs ys h.0, rises_left xs ys h.1)

  pub rises_right : (xs ys : List (Ranged T)) → Rises (before rules) (xs ++ ys) → Rises (before rules) ys
  rises_right [] ys h = h
  rises_right (x ∷ xs) ys h = rises_right xs ys h.1

  pub rises_across : (xs ys : List (Ranged T)) → Rises (before rules) (xs ++ ys) → NoneBelowAny (before rules) (before-order rules) xs ys
  rises_across [] ys h = tt
  rises_across (x ∷ xs) ys h = (none_right x xs ys h.0, rises_across xs ys h.1)

  pub any_left : (zs xs ys : List (Ranged T)) → NoneBelowAny (before rules) (before-order rules) zs (xs ++ ys) → NoneBelowAny (before rules) (before-order rules) zs xs
  any_left [] xs ys h = tt
  any_left (z ∷ zs) xs ys h = (none_left z xs ys h.0, any_left zs xs ys h.1)

  -- what isn't before an element of a list is not before what that is after
  pub through : (zs ys : List (Ranged T)) (u : Ranged T) (us : List (Ranged T)) → NoneBelowAny (before rules) (before-order rules) zs (u ∷ us) → NoneBelow (before rules) u ys → NoneBelowAny (before rules) (before-order rules) zs ys
  through [] ys u us h k = tt
  through (z ∷ zs) ys u us h k = (NoneBelow-chain (before rules) (before-order rules) z u ys h.0.0 k, through zs ys u us h.1 k)

  -- a list in order ascends
  ascend_rises : (n : ℕ) (r : Ranged T) (rs : List (Ranged T)) → n ≤ r.from → Rises (before rules) (r ∷ rs) → Ascend n (r ∷ rs)
  ascend_rises n r [] l h = (l, tt)
  ascend_rises n r (q ∷ rs) l h = (l, ascend_rises r.from q rs (earlier q.from r.from _ h.0.0) h.1)

  pub rises_ascend : (rs : List (Ranged T)) → Rises (before rules) rs → Ascend 0 rs
  rises_ascend [] h = tt
  rises_ascend (r ∷ rs) h = ascend_rises 0 r rs (omega arith) h

module _ {T : Type 0} (rules : RangeRules T) (d : Sections) where
  -- What is done, and a run of mapped ranges that is to be sorted, with what is still to come: together they come to the sort of
  -- all, and the run is of ranges that stand before those to come.
  pub record IsUnder (whole done run later : List (Ranged T)) : Type 0 where
    pub sources : List (Ranged T)
    pub run_is : run ≡ filter_map (moved rules d) sources
    pub rises : Rises (before rules) (sources ++ later)
    pub goes : stable_sort (before rules) (filter_map (moved rules d) whole) ≡ done ++ stable_sort (before rules) (run ++ filter_map (moved rules d) later)
    pub room : length done + length run + length later ≤ length whole

  pub under_init : (whole : List (Ranged T)) → Rises (before rules) whole → IsUnder whole [] [] whole
  under_init whole h = record { sources = []; run_is = refl; rises = h; goes = refl; room = omega arith }

  pub length-filter_map : (f : Ranged T → Option (Ranged T)) (rs : List (Ranged T)) → length (filter_map f rs) ≤ length rs
  length-filter_map f [] = omega arith
  length-filter_map f (r ∷ rs) = let k = length-filter_map f rs in at (f r) k
    where
      at : (o : Option (Ranged T)) → length (filter_map f rs) ≤ length rs → length (cons_option o (filter_map f rs)) ≤ suc (length rs)
      at None k = omega (arith, k)
      at (Some x) k = omega (arith, k)

  pub under_each : (whole done run c later after : List (Ranged T)) → IsUnder whole done run (c ++ later) → after ≡ run ++ filter_map (moved rules d) c → IsUnder whole done after later
  under_each whole done run c later after h e =
      let f = moved rules d in
      let n = ap length e ∙ length-append run (filter_map f c) in
      let m = length-filter_map f c in
      let k = length-append c later in
      let l = h.room in
      record {
        sources = h.sources ++ c;
        run_is = e ∙ (ap (λ xs. xs ++ filter_map f c) h.run_is ∙ sym (filter_map-append f h.sources c));
        rises = subst (Rises (before rules)) (sym (append_assoc h.sources c later)) h.rises;
        goes = h.goes ∙ ap (λ xs. done ++ stable_sort (before rules) xs)
            (ap (λ xs. run ++ xs) (filter_map-append f c later) ∙ (sym (append_assoc run (filter_map f c) (filter_map f later)) ∙ ap (λ xs. xs ++ filter_map f later) (sym e)));
        room = omega (arith, n, m, k, l);
      }

  -- the sort of a run, a clear chunk and what is to come, one after another
  parted : (ends : Ranged T → ℕ) (sources c later run : List (Ranged T)) → run ≡ filter_map (moved rules d) sources → Rises (before rules) (sources ++ (c ++ later)) → (0 < length c) → AreClear rules d ends c → StartIn rules d later
      → stable_sort (before rules) (run ++ filter_map (moved rules d) (c ++ later)) ≡ stable_sort (before rules) run ++ (map (image rules d ends) c ++ stable_sort (before rules) (filter_map (moved rules d) later))
  parted ends sources [] later run e h some k s = absurd (omega arith)
  parted ends sources (u ∷ c) later run e h some k s =
      let f = moved rules d in
      let o = before rules in
      let order = before-order rules in
      let chunk = map (image rules d ends) (u ∷ c) in
      let L = filter_map f later in
      let both = rises_right rules sources ((u ∷ c) ++ later) h in
      let across = rises_across rules sources ((u ∷ c) ++ later) h in
      let run_chunk : NoneBelowAny o order run chunk = subst (λ xs. NoneBelowAny o order xs chunk) (sym e) (sources_below rules d ends sources (u ∷ c) (any_left rules sources (u ∷ c) later across) k) in
      let chunk_later = chunk_below rules d ends (u ∷ c) later k s (rises_across rules (u ∷ c) later both) in
      let run_later = through rules run L (image rules d ends u) (map (image rules d ends) c) run_chunk chunk_later.0 in
      let images : filter_map f ((u ∷ c) ++ later) ≡ chunk ++ L = filter_map-append f (u ∷ c) later ∙ ap (λ xs. xs ++ L) (clear_images rules d ends (u ∷ c) k) in
      ap (λ xs. stable_sort o (run ++ xs)) images
      ∙ (stable_sort-append o order run (chunk ++ L) (any_both rules run chunk L run_chunk run_later)
      ∙ ap (λ xs. stable_sort o run ++ xs)
      (stable_sort-append o order chunk L chunk_later
      ∙ ap (λ xs. xs ++ stable_sort o L) (stable_sort-risen o order chunk (chunk_rises rules d ends (u ∷ c) k (rises_left rules (u ∷ c) later both)))))

  pub under_clear : (ends : Ranged T → ℕ) (whole done run c later after : List (Ranged T)) → IsUnder whole done run (c ++ later) → (0 < length c) → AreClear rules d ends c → StartIn rules d later
      → after ≡ done ++ stable_sort (before rules) run ++ map (image rules d ends) c → IsUnder whole after [] later
  under_clear ends whole done run c later after h some k s e =
      let f = moved rules d in
      let o = before rules in
      let chunk = map (image rules d ends) c in
      let n = ap length e ∙ (length-append (done ++ stable_sort o run) chunk ∙ ap (λ x. x + length chunk) (length-append done (stable_sort o run))) in
      let m = length-stable_sort o run in
      let w = length-map c (image rules d ends) in
      let y = length-append c later in
      let l = h.room in
      record {
        sources = [];
        run_is = refl;
        rises = rises_right rules c later (rises_right rules h.sources (c ++ later) h.rises);
        goes = h.goes ∙ (ap (λ xs. done ++ xs) (parted ends h.sources c later run h.run_is h.rises some k s)
            ∙ (sym (append_assoc done (stable_sort o run) (chunk ++ stable_sort o (filter_map f later)))
            ∙ (sym (append_assoc (done ++ stable_sort o run) chunk (stable_sort o (filter_map f later))) ∙ ap (λ xs. xs ++ stable_sort o (filter_map f later)) (sym e))));
        room = omega (arith, n, m, w, y, l);
      }

  -- the run may be sorted and put after what is done
  pub under_order : (ends : Ranged T → ℕ) (whole done run c later : List (Ranged T)) → IsUnder whole done run (c ++ later) → (0 < length c) → AreClear rules d ends c → StartIn rules d later → Ascend 0 (done ++ stable_sort (before rules) run)
  under_order ends whole done run c later h some k s =
      let o = before rules in
      let rest = map (image rules d ends) c ++ stable_sort o (filter_map (moved rules d) later) in
      let all = h.goes ∙ (ap (λ xs. done ++ xs) (parted ends h.sources c later run h.run_is h.rises some k s) ∙ sym (append_assoc done (stable_sort o run) rest)) in
      rises_ascend rules (done ++ stable_sort o run) (rises_left rules (done ++ stable_sort o run) rest
      (subst (Rises o) all (Rises-stable_sort o (before-order rules) (filter_map (moved rules d) whole))))

  pub under_end : (whole done run : List (Ranged T)) → IsUnder whole done run [] → stable_sort (before rules) (filter_map (moved rules d) whole) ≡ done ++ stable_sort (before rules) run
  under_end whole done run h = h.goes ∙ ap (λ xs. done ++ stable_sort (before rules) xs) (append-nil run)

  pub under_end_order : (whole done run : List (Ranged T)) → IsUnder whole done run [] → Ascend 0 (done ++ stable_sort (before rules) run)
  under_end_order whole done run h =
      rises_ascend rules (done ++ stable_sort (before rules) run)
      (subst (Rises (before rules)) (under_end whole done run h) (Rises-stable_sort (before rules) (before-order rules) (filter_map (moved rules d) whole)))
