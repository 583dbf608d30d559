-- One chunk after another, as they are mapped.
use Rattle.std.proofs.Common.{◌≡◌, ℕ, ◌+◌, ◌-◌, ◌<◌, ◌≤◌, Bool, true, false, ◌||◌, List, [], ◌∷◌, ◌++◌, length, map, filter_map, Some, refl, sym, ap, subst, ◌∙◌, arith}
use Rattle.std.specs.List.{list_any}
use Rattle.std.specs.Prelude.{IfSome}
use Rattle.change_desc.specs.Sections.{counted, new_size, old_size}
use Rattle.change_desc.specs.Ranges.{meets, replaced}
use Rattle.change_desc.specs.declared.changed_range.ChangedRange.{ChangedRange}
use Rattle.change_desc.specs.declared.map_mode.MapMode.TheVariants.{Simple}
use Rattle.change_desc.proofs.Bounds.{map_pos-within}
use Rattle.stable_order.specs.StableSort.{stable_sort}
use Rattle.stable_order.proofs.StableSort.{Rises}
use Rattle.range_set.specs.Rules.{RangeRules}
use Rattle.range_set.specs.Order.{AllForward, before}
use Rattle.range_set.proofs.RangeOrder.{forward_filtered, forward_moved}
use Rattle.range_set.specs.Mapping.{is_turned, moved}
use Rattle.range_set.specs.PrivateChunks.{AreChunks, Ascend, BeginBy, Content, content, first_start, flat, greatest_end, shift}
use Rattle.range_set.specs.PrivateMoving.{IsMovedAlone}
use Rattle.range_set.specs.declared.ranged.Ranged.{Ranged}
use Rattle.range_set.specs.declared.chunk.Placed.{Placed}
use Rattle.range_set.proofs.Chunks.{ascend-less, ascend-rest, begin_by-next, end_by_greatest, is_not_less, length_shifted, turned-shifted}
use Rattle.range_set.proofs.Clear.{IsClear, Sections, clear_apart, clear_place, map_pos-clear, none-narrow}
use Rattle.range_set.proofs.ClearChunks.{clear_each, clear_shifts}
use Rattle.range_set.proofs.Cost.{chunk_affected}
use Rattle.range_set.proofs.Each.{Within}
use Rattle.range_set.proofs.Under.{AreClear, ClearEach, IsUnder, StartIn, at_clear, image, image_is, rises_ascend, under_clear, under_each, under_init, under_order}

or_left : (a b : Bool) → (a || b) ≡ false → a ≡ false
or_left false b h = refl
or_left true b h = h

or_right : (a b : Bool) → (a || b) ≡ false → b ≡ false
or_right false b h = h
or_right true b h = cc

-- a clear place goes into the new text
pub clear_within : (d : Sections) (p : ℕ) → p ≤ old_size d → IsClear p p d → clear_place d p ≤ new_size counted d
clear_within d p l h = let w : IfSome (Some (clear_place d p)) (λ q. q ≤ new_size counted d) = subst (λ o. IfSome o (λ q. q ≤ new_size counted d)) (map_pos-clear d p true Simple l h) (map_pos-within d p true Simple) in w

module _ {T : Type 0} where
  -- the next chunk begins at a place or before
  abbrev pub StartsBy : ℕ → List (Placed T) → Type 0
  StartsBy a [] = ⊥
  StartsBy a (p ∷ ps) = p.start ≤ a

  pub within_prefix : (len : ℕ) (xs ys : List (Ranged T)) → Within len (xs ++ ys) → Within len xs
  within_prefix len [] ys h = tt
  within_prefix len (x ∷ xs) ys h = (h.0, within_prefix len xs ys h.1)

  pub within_rest : (len : ℕ) (xs ys : List (Ranged T)) → Within len (xs ++ ys) → Within len ys
  within_rest len [] ys h = h
  within_rest len (x ∷ xs) ys h = within_rest len xs ys h.1

  -- a chunk's ranges begin no earlier than it
  pub ascend_from : (m n start : ℕ) (rs : List (Ranged T)) → first_start rs ≡ 0 → m ≤ start → Ascend n (map (shift start) rs) → Ascend m (map (shift start) rs)
  ascend_from m n start [] f l h = tt
  ascend_from m n start (r ∷ rs) f l h = (omega (arith, f, l), h.1)

  pub ascend_more : (m n start : ℕ) (rs ys : List (Ranged T)) → first_start rs ≡ 0 → 1 ≤ length rs → m ≤ start → Ascend n (map (shift start) rs ++ ys) → Ascend m (map (shift start) rs ++ ys)
  ascend_more m n start [] ys f some l h = absurd (omega arith)
  ascend_more m n start (r ∷ rs) ys f some l h = (omega (arith, f, l), h.1)

  -- what is after a hull begins no earlier than it
  pub ascend_hull : (n start : ℕ) (rs ys : List (Ranged T)) → 1 ≤ length rs → first_start rs ≡ 0 → Ascend n (map (shift start) rs ++ ys) → (n ≤ start) × Ascend start ys
  ascend_hull n start [] ys some f h = absurd (omega arith)
  ascend_hull n start (r ∷ rs) ys some f h =
      (omega (arith, h.0, f), ascend-less start (r.from + start) ys (omega (arith, f)) (ascend-rest (r.from + start) (map (shift start) rs) ys h.1))

module _ {T : Type 0} (rules : RangeRules T) (d : Sections) where
  pub start_in : (xs : List (Ranged T)) → Within (old_size d) xs → StartIn rules d xs
  start_in [] h = tt
  start_in (x ∷ xs) h = (h.0.0, start_in xs h.1)

  -- a chunk begins where its first range does
  pub begins_at : (n start : ℕ) (rs : List (Ranged T)) → 1 ≤ length rs → first_start rs ≡ 0 → BeginBy n (map (shift start) rs) → start ≤ n
  begins_at n start [] some f b = absurd (omega arith)
  begins_at n start (r ∷ rs) some f b = omega (arith, f, b.0)

  pub starts_on : (n a : ℕ) (p : Placed T) (ps : List (Placed T)) → AreChunks rules (p ∷ ps) → Ascend n (flat (p ∷ ps)) → StartsBy a ps → p.start ≤ a
  starts_on n a p [] h asc s = absurd s
  starts_on n a p (q ∷ ps) h asc s = at (content q).ranges h.1.0.1 h.1.0.0.first asc
    where
      at : (rs : List (Ranged T)) → 1 ≤ length rs → first_start rs ≡ 0 → Ascend n (map (shift p.start) (content p).ranges ++ (map (shift q.start) rs ++ flat ps)) → p.start ≤ a
      at [] some f asc = absurd (omega arith)
      at (r ∷ rs) some f asc =
          let b = begin_by-next n (map (shift p.start) (content p).ranges) (shift q.start r) (map (shift q.start) rs ++ flat ps) asc in
          let k = begins_at (r.from + q.start) p.start (content p).ranges h.0.1 h.0.0.first b in omega (arith, k, f, s)

  -- Chunks of which some are mapped: what is done and the run that is to be sorted, how far the walk came, and the replaced ranges
  -- that may still be met.
  pub record IsWalked (whole : List (Ranged T)) (rest : List (Placed T)) (done run : List (Ranged T)) (reached : ℕ) (reps : List ChangedRange) : Type 0 where
    pub under : IsUnder rules d whole done run (flat rest)
    pub chunks : AreChunks rules rest
    pub within : Within (old_size d) (flat rest)
    pub ascend : Ascend reached (flat rest)
    pub same : (a b : ℕ) → StartsBy a rest → list_any (meets a b) reps ≡ list_any (meets a b) (replaced d)

  pub walked_init : (ps : List (Placed T)) (reps : List ChangedRange) → AreChunks rules ps → Rises (before rules) (flat ps) → Within (old_size d) (flat ps) → reps ≡ replaced d → IsWalked (flat ps) ps [] [] 0 reps
  walked_init ps reps h r w e = record {
    under = under_init rules d (flat ps) r;
    chunks = h;
    within = w;
    ascend = rises_ascend rules (flat ps) r;
    same = λ a b s. ap (list_any (meets a b)) e;
  }

  -- a walk that didn't come so far
  pub walked_less : (whole : List (Ranged T)) (rest : List (Placed T)) (done run : List (Ranged T)) (m n : ℕ) (reps : List ChangedRange) → m ≤ n → IsWalked whole rest done run n reps → IsWalked whole rest done run m reps
  walked_less whole rest done run m n reps l h = record {
    under = h.under;
    chunks = h.chunks;
    within = h.within;
    ascend = ascend-less m n (flat rest) l h.ascend;
    same = h.same;
  }

  -- whether a chunk's ranges are mapped by themselves is seen by the replaced ranges that are left
  pub affected_same : (whole : List (Ranged T)) (p : Placed T) (rest : List (Placed T)) (done run : List (Ranged T)) (reached : ℕ) (reps after : List ChangedRange) → IsWalked whole (p ∷ rest) done run reached reps
      → ((a b : ℕ) → p.start ≤ a → list_any (meets a b) after ≡ list_any (meets a b) reps) → (b : Bool)
      → b ≡ ((content p).is_turned || list_any (meets p.start (p.start + (content p).reach)) after) → b ≡ chunk_affected rules d p
  affected_same whole p rest done run reached reps after h f b e =
      e ∙ ap (λ x. (content p).is_turned || x) (f p.start _ (omega arith) ∙ h.same p.start _ (omega arith))

  next_same : (whole : List (Ranged T)) (p : Placed T) (rest : List (Placed T)) (done run : List (Ranged T)) (reached : ℕ) (reps after : List ChangedRange) → IsWalked whole (p ∷ rest) done run reached reps
      → ((a b : ℕ) → p.start ≤ a → list_any (meets a b) after ≡ list_any (meets a b) reps) → (a b : ℕ) → StartsBy a rest → list_any (meets a b) after ≡ list_any (meets a b) (replaced d)
  next_same whole p rest done run reached reps after h f a b s =
      let l = starts_on reached a p rest h.chunks h.ascend s in f a b l ∙ h.same a b l

  pub walked_each : (whole : List (Ranged T)) (p : Placed T) (rest : List (Placed T)) (done run more : List (Ranged T)) (reached next : ℕ) (reps after : List ChangedRange) → IsWalked whole (p ∷ rest) done run reached reps
      → ((a b : ℕ) → p.start ≤ a → list_any (meets a b) after ≡ list_any (meets a b) reps)
      → more ≡ run ++ filter_map (moved rules d) (map (shift p.start) (content p).ranges)
      → ((later : List (Ranged T)) → Ascend reached (map (shift p.start) (content p).ranges ++ later) → Ascend next later)
      → IsWalked whole rest done more next after
  walked_each whole p rest done run more reached next reps after h f e g = record {
    under = under_each rules d whole done run (map (shift p.start) (content p).ranges) (flat rest) more h.under e;
    chunks = h.chunks.1;
    within = within_rest (old_size d) (map (shift p.start) (content p).ranges) (flat rest) h.within;
    ascend = g (flat rest) h.ascend;
    same = next_same whole p rest done run reached reps after h f;
  }

  -- what a chunk that isn't affected gives
  pub record IsClearChunk (whole : List (Ranged T)) (p : Placed T) (rest : List (Placed T)) (done run : List (Ranged T)) (reached : ℕ) : Type 0 where
    pub clear : IsClear p.start p.start d
    pub inside : p.start ≤ old_size d
    pub ascend : reached ≤ p.start
    pub order : Ascend 0 (done ++ stable_sort (before rules) run)
    pub fits : clear_place d p.start + (content p).reach ≤ new_size counted d
    pub images : map (at_clear rules d) (map (shift p.start) (content p).ranges) ≡ map (shift (clear_place d p.start)) (content p).ranges
    pub each : ClearEach rules d (map (shift p.start) (content p).ranges)

  -- the end of the hull is in the text
  pub hull_within : (len start : ℕ) (rs : List (Ranged T)) → 1 ≤ length rs → Within len (map (shift start) rs) → start + greatest_end rs ≤ len
  hull_within len start [] some w = absurd (omega arith)
  hull_within len start (r ∷ []) some w = omega (arith, w.0.1)
  hull_within len start (r ∷ q ∷ rs) some w = let k = hull_within len start (q ∷ rs) (omega arith) w.1 in omega (arith, w.0.1, k)

  -- what ranges give whose hull no change meets
  pub record IsClearHull (start reach : ℕ) (rs : List (Ranged T)) : Type 0 where
    pub clear : IsClear start start d
    pub inside : start ≤ old_size d
    pub fits : clear_place d start + reach ≤ new_size counted d
    pub images : map (at_clear rules d) (map (shift start) rs) ≡ map (shift (clear_place d start)) rs
    pub each : ClearEach rules d (map (shift start) rs)

  pub clear_hull : (start reach : ℕ) (rs : List (Ranged T)) → 1 ≤ length rs → AllForward rs → reach ≡ greatest_end rs → list_any (is_turned rules) rs ≡ false → IsClear start (start + reach) d → Within (old_size d) (map (shift start) rs)
      → IsClearHull start reach rs
  clear_hull start reach rs some forward reach_is turned hull inside =
      let ends = end_by_greatest rs reach (omega (arith, reach_is)) in
      let each = clear_each rules d start reach rs hull forward ends turned inside in
      let end : start + reach ≤ old_size d = let k = hull_within (old_size d) start rs some inside in omega (arith, k, reach_is) in
      let far = clear_apart d start (start + reach) (omega arith) hull in
      let last = none-narrow start (start + reach) (start + reach) (start + reach) (replaced d) (omega arith) (omega arith) hull in
      let bound = clear_within d (start + reach) end last in
      record {
        clear = none-narrow start (start + reach) start start (replaced d) (omega arith) (omega arith) hull;
        inside = omega (arith, end);
        fits = omega (arith, far, bound);
        images = clear_shifts rules d start reach rs hull forward ends;
        each = each;
      }

  pub clear_chunk : (whole : List (Ranged T)) (p : Placed T) (rest : List (Placed T)) (done run : List (Ranged T)) (reached : ℕ) (reps : List ChangedRange) → IsWalked whole (p ∷ rest) done run reached reps
      → chunk_affected rules d p ≡ false → IsClearChunk whole p rest done run reached
  clear_chunk whole p rest done run reached reps h e =
      let chunk = h.chunks.0.0 in
      let items = (content p).ranges in
      let hull = or_right (content p).is_turned (list_any (meets p.start (p.start + (content p).reach)) (replaced d)) e in
      let turned : list_any (is_turned rules) items ≡ false = sym chunk.turned ∙ or_left (content p).is_turned (list_any (meets p.start (p.start + (content p).reach)) (replaced d)) e in
      let inside = within_prefix (old_size d) (map (shift p.start) items) (flat rest) h.within in
      let some : 0 < length (map (shift p.start) items) = let n = length_shifted rules p.start items in let m = h.chunks.0.1 in omega (arith, n, m) in
      let here = clear_hull p.start (content p).reach items h.chunks.0.1 chunk.forward chunk.reach turned hull inside in
      record {
        clear = here.clear;
        inside = here.inside;
        ascend = (ascend_hull reached p.start items (flat rest) h.chunks.0.1 chunk.first h.ascend).0;
        order = under_order rules d (λ r. clear_place d r.to) whole done run (map (shift p.start) items) (flat rest) h.under some here.each (start_in (flat rest) (within_rest (old_size d) (map (shift p.start) items) (flat rest) h.within));
        fits = here.fits;
        images = here.images;
        each = here.each;
      }

  pub walked_clear : (whole : List (Ranged T)) (p : Placed T) (rest : List (Placed T)) (done run more : List (Ranged T)) (reached : ℕ) (reps after : List ChangedRange) → IsWalked whole (p ∷ rest) done run reached reps
      → ((a b : ℕ) → p.start ≤ a → list_any (meets a b) after ≡ list_any (meets a b) reps) → IsClearChunk whole p rest done run reached
      → more ≡ done ++ stable_sort (before rules) run ++ map (shift (clear_place d p.start)) (content p).ranges
      → IsWalked whole rest more [] p.start after
  walked_clear whole p rest done run more reached reps after h f k e =
      let items = (content p).ranges in
      let some : 0 < length (map (shift p.start) items) = let n = length_shifted rules p.start items in let m = h.chunks.0.1 in omega (arith, n, m) in
      let later = within_rest (old_size d) (map (shift p.start) items) (flat rest) h.within in
      record {
        under = under_clear rules d (λ r. clear_place d r.to) whole done run (map (shift p.start) items) (flat rest) more h.under some k.each (start_in (flat rest) later)
            (e ∙ ap (λ xs. done ++ stable_sort (before rules) run ++ xs) (sym k.images));
        chunks = h.chunks.1;
        within = later;
        ascend = (ascend_hull reached p.start items (flat rest) h.chunks.0.1 h.chunks.0.0.first h.ascend).1;
        same = next_same whole p rest done run reached reps after h f;
      }

  -- a chunk of one range whose start no change meets
  alone_clear : (start : ℕ) (c : Content T) (q : Placed T) (h : IsMovedAlone rules d start c q.start (content q)) → Within (old_size d) (map (shift start) c.ranges) → AreClear rules d (λ r. h.image.to) (shift start h.range ∷ [])
  alone_clear start c q h w =
      let x = shift start h.range in
      let inside = (subst (λ rs. Within (old_size d) (map (shift start) rs)) h.one w).0.0 in
      ((h.clear, inside, h.moves ∙ ap Some (image_is rules d x h.image h.clear inside h.moves)), tt)

  alone_under : (whole : List (Ranged T)) (p q : Placed T) (rest : List (Placed T)) (done run : List (Ranged T)) (h : IsMovedAlone rules d p.start (content p) q.start (content q)) → IsUnder rules d whole done run (flat (p ∷ rest)) → IsUnder rules d whole done run ((shift p.start h.range ∷ []) ++ flat rest)
  alone_under whole p q rest done run h u = subst (λ rs. IsUnder rules d whole done run (map (shift p.start) rs ++ flat rest)) h.one u

  pub alone_order : (whole : List (Ranged T)) (p q : Placed T) (rest : List (Placed T)) (done run : List (Ranged T)) (reached : ℕ) (reps : List ChangedRange) → IsWalked whole (p ∷ rest) done run reached reps → IsMovedAlone rules d p.start (content p) q.start (content q)
      → Ascend 0 (done ++ stable_sort (before rules) run)
  alone_order whole p q rest done run reached reps h k =
      under_order rules d (λ r. k.image.to) whole done run (shift p.start k.range ∷ []) (flat rest) (alone_under whole p q rest done run k h.under) (omega arith)
      (alone_clear p.start (content p) q k (within_prefix (old_size d) (map (shift p.start) (content p).ranges) (flat rest) h.within)) (start_in (flat rest) (within_rest (old_size d) (map (shift p.start) (content p).ranges) (flat rest) h.within))

  pub walked_alone : (whole : List (Ranged T)) (p q : Placed T) (rest : List (Placed T)) (done run more : List (Ranged T)) (reached : ℕ) (reps after : List ChangedRange) → IsWalked whole (p ∷ rest) done run reached reps
      → ((a b : ℕ) → p.start ≤ a → list_any (meets a b) after ≡ list_any (meets a b) reps) → IsMovedAlone rules d p.start (content p) q.start (content q)
      → more ≡ done ++ stable_sort (before rules) run ++ map (shift q.start) (content q).ranges
      → IsWalked whole rest more [] p.start after
  walked_alone whole p q rest done run more reached reps after h f k e =
      let items = (content p).ranges in
      let x = shift p.start k.range in
      let later = within_rest (old_size d) (map (shift p.start) items) (flat rest) h.within in
      let here = within_prefix (old_size d) (map (shift p.start) items) (flat rest) h.within in
      let inside = (subst (λ rs. Within (old_size d) (map (shift p.start) rs)) k.one here).0.0 in
      let is : map (shift q.start) (content q).ranges ≡ image rules d (λ r. k.image.to) x ∷ [] = k.images ∙ ap (λ v. v ∷ []) (image_is rules d x k.image k.clear inside k.moves) in
      record {
        under = under_clear rules d (λ r. k.image.to) whole done run (x ∷ []) (flat rest) more (alone_under whole p q rest done run k h.under) (omega arith)
            (alone_clear p.start (content p) q k here) (start_in (flat rest) later)
            (e ∙ ap (λ xs. done ++ stable_sort (before rules) run ++ xs) is);
        chunks = h.chunks.1;
        within = later;
        ascend = (ascend_hull reached p.start items (flat rest) h.chunks.0.1 h.chunks.0.0.first h.ascend).1;
        same = next_same whole p rest done run reached reps after h f;
      }

  pub run_forward : (whole done run later : List (Ranged T)) → IsUnder rules d whole done run later → AllForward run
  run_forward whole done run later h = subst AllForward (sym h.run_is) (forward_filtered rules (moved rules d) (forward_moved rules d) h.sources)

  -- what a range gives that no change meets
  pub record IsClearRange (r : Ranged T) : Type 0 where
    pub clear : IsClear r.from r.from d
    pub fits : clear_place d r.from + (r.to - r.from) ≤ new_size counted d
    pub moves : moved rules d r ≡ (let q : Ranged T = record { from = clear_place d r.from; to = clear_place d r.from + (r.to - r.from); value = r.value } in Some q)

  pub clear_range : (r : Ranged T) → r.from ≤ r.to → r.to ≤ old_size d → is_turned rules r ≡ false → list_any (meets r.from r.to) (replaced d) ≡ false → IsClearRange r
  clear_range r l n turned none =
      let len = r.to - r.from in
      let q : Ranged T = record { from = 0; to = len; value = r.value } in
      let first : 0 + r.from ≡ r.from = omega arith in
      let last : len + r.from ≡ r.to = omega (arith, l) in
      let end : r.from + len ≡ r.to = omega (arith, l) in
      let place = clear_place d r.from in
      let same : shift r.from q ≡ r =
      ap (λ k. let x : Ranged T = record { from = k; to = len + r.from; value = r.value } in x) first ∙ ap (λ k. let x : Ranged T = record { from = r.from; to = k; value = r.value } in x) last in
      let is_same : is_turned rules q ≡ false = sym (turned-shifted rules r.from q) ∙ (ap (is_turned rules) same ∙ turned) in
      let hull = clear_hull r.from len (q ∷ []) (omega arith) (is_not_less len 0 (omega arith), tt) (omega arith) (ap (λ b. b || false) is_same)
      (subst (λ k. IsClear r.from k d) (sym end) none) ((omega (arith, l, n), omega (arith, last, n)), tt) in
      let image : at_clear rules d (shift r.from q) ≡ shift place q = same_first _ _ [] [] hull.images in
      let to : place + len ≡ len + place = omega arith in
      let from : place ≡ 0 + place = omega arith in
      record {
        clear = hull.clear;
        fits = hull.fits;
        moves = ap (moved rules d) (sym same)
            ∙ (hull.each.0.2
            ∙ (ap Some image
            ∙ (ap (λ k. let x : Ranged T = record { from = k; to = len + place; value = r.value } in Some x) (sym from)
            ∙ ap (λ k. let x : Ranged T = record { from = place; to = k; value = r.value } in Some x) (sym to))));
      }
    where
      same_first : (x y : Ranged T) (xs ys : List (Ranged T)) → x ∷ xs ≡ y ∷ ys → x ≡ y
      same_first x y xs ys h = cc
