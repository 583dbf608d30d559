-- Groups of which some are opened, and their chunks walked one by one.
use Rattle.std.proofs.Common.{◌≡◌, ℕ, zero, suc, ◌+◌, ◌-◌, ◌^◌, ◌<◌, ◌≤◌, ◌||◌, true, false, Bool, List, [], ◌∷◌, ◌++◌, length, drop, map, refl, sym, ap, subst, ◌∙◌, arith, append_assoc}
use Rattle.std.proofs.lemmas.List.{append-nil, length-append}
use Rattle.std.specs.List.{list_any}
use Rattle.change_desc.specs.Sections.{counted, new_size, old_size}
use Rattle.change_desc.specs.Ranges.{meets, replaced}
use Rattle.change_desc.specs.declared.changed_range.ChangedRange.{ChangedRange}
use Rattle.stable_order.specs.StableSort.{stable_sort}
use Rattle.range_set.specs.Rules.{RangeRules}
use Rattle.range_set.specs.Order.{before}
use Rattle.range_set.specs.PrivateChunks.{AllApart, AllChunksApart, AreChunks, AreGroups, Ascend, FitCarried, FitCarriedChunks, IsGroup, carry, carry_chunk, content, first_start, flat, group_content, move, shift, spread}
use Rattle.range_set.specs.declared.ranged.Ranged.{Ranged}
use Rattle.range_set.specs.declared.chunk.Placed.{Placed}
use Rattle.range_set.specs.declared.group.PlacedGroup.{PlacedGroup}
use Rattle.range_set.proofs.Chunks.{ascend-less, length_shifted}
use Rattle.range_set.proofs.Clear.{IsClear, Sections, clear_apart, clear_place, clear_start, none-narrow}
use Rattle.range_set.proofs.Cost.{allowance, chunk_affected}
use Rattle.range_set.proofs.Each.{Within}
use Rattle.range_set.proofs.Groups.{flat-spread, flat_forward}
use Rattle.range_set.proofs.Under.{IsUnder, under_clear, under_order}
use Rattle.range_set.proofs.Walked.{IsClearHull, IsWalked, StartsBy, ascend_hull, clear_chunk, clear_hull, clear_within, hull_within, start_in, walked_clear, walked_less, within_prefix, within_rest}

or_left : (a b : Bool) → (a || b) ≡ false → a ≡ false
or_left false b h = refl
or_left true b h = h

or_right : (a b : Bool) → (a || b) ≡ false → b ≡ false
or_right false b h = h
or_right true b h = cc

none_from : {X : Type 0} (xs : List X) (i : ℕ) → length xs ≤ i → drop i xs ≡ []
none_from [] zero l = refl
none_from [] (suc i) l = refl
none_from (x ∷ xs) zero l = absurd (omega arith)
none_from (x ∷ xs) (suc i) l = none_from xs i (omega arith)

module _ {T : Type 0} where
  -- a group begins where its first chunk does, or before it
  group_before : (start a : ℕ) (ps later : List (Placed T)) → 1 ≤ length (flat ps) → StartsBy a (map (move start) ps ++ later) → start ≤ a
  group_before start a [] later some s = absurd (omega arith)
  group_before start a (p ∷ ps) later some s = omega (arith, s)

  starts_more : (start a : ℕ) (ps later : List (Placed T)) → start ≤ a → StartsBy start (ps ++ later) → StartsBy a (ps ++ later)
  starts_more start a [] [] l s = absurd s
  starts_more start a [] (q ∷ later) l s = omega (arith, l, s)
  starts_more start a (p ∷ ps) later l s = omega (arith, l, s)

module _ {T : Type 0} (rules : RangeRules T) (d : Sections) where
  pub allowance-append : (ps qs : List (Placed T)) → allowance rules d (ps ++ qs) ≡ allowance rules d ps + allowance rules d qs
  allowance-append [] qs = omega arith
  allowance-append (p ∷ ps) qs = let k = allowance-append ps qs in omega (arith, k)

  -- a group begins where its first chunk does
  group_first : (start : ℕ) (ps later : List (Placed T)) → AreChunks rules ps → 1 ≤ length (flat ps) → first_start (flat ps) ≡ 0 → StartsBy start (map (move start) ps ++ later)
  group_first start [] later h some f = absurd (omega arith)
  group_first start (p ∷ ps) later h some f = at (content p).ranges h.0.1 f
    where
      at : (rs : List (Ranged T)) → 1 ≤ length rs → first_start (map (shift p.start) rs ++ flat ps) ≡ 0 → p.start + start ≤ start
      at [] some f = absurd (omega arith)
      at (r ∷ rs) some f = omega (arith, f)

  are_left : (ps qs : List (Placed T)) → AreChunks rules (ps ++ qs) → AreChunks rules qs
  are_left [] qs h = h
  are_left (p ∷ ps) qs h = are_left ps qs h.1

  -- the chunks from a group on begin by each place that isn't before it
  pub starts_at : (g : PlacedGroup T) (others : List (PlacedGroup T)) (a : ℕ) → IsGroup rules g.start (group_content g) → 1 ≤ length (flat (group_content g).chunks) → g.start ≤ a → StartsBy a (spread (g ∷ others))
  starts_at g others a group some m =
      starts_more g.start a (map (move g.start) (group_content g).chunks) (spread others) m (group_first g.start (group_content g).chunks (spread others) group.chunks some group.first)

  -- what comes after the next chunks or groups begins no earlier than they
  skipped : (n start a : ℕ) (rs : List (Ranged T)) (ps : List (Placed T)) → AreChunks rules ps → 1 ≤ length rs → first_start rs ≡ 0 → Ascend n (map (shift start) rs ++ flat ps) → StartsBy a ps → start ≤ a
  skipped n start a rs [] h some f asc s = absurd s
  skipped n start a rs (p ∷ ps) h some f asc s = at (content p).ranges h.0.1 h.0.0.first (ascend_hull n start rs (flat (p ∷ ps)) some f asc).1
    where
      at : (qs : List (Ranged T)) → 1 ≤ length qs → first_start qs ≡ 0 → Ascend start (map (shift p.start) qs ++ flat ps) → start ≤ a
      at [] some f k = absurd (omega arith)
      at (q ∷ qs) some f k = omega (arith, k.0, f, s)

  -- a group is opened
  pub walked_open : (whole : List (Ranged T)) (g : PlacedGroup T) (others : List (PlacedGroup T)) (done run : List (Ranged T)) (reached : ℕ) (reps after : List ChangedRange) → 1 ≤ length (flat (group_content g).chunks)
      → ((a b : ℕ) → g.start ≤ a → list_any (meets a b) after ≡ list_any (meets a b) reps) → IsWalked rules d whole (spread (g ∷ others)) done run reached reps
      → IsWalked rules d whole (map (move g.start) (group_content g).chunks ++ spread others) done run reached after
  walked_open whole g others done run reached reps after some f h = record {
    under = h.under;
    chunks = h.chunks;
    within = h.within;
    ascend = h.ascend;
    same = λ a b s. f a b (group_before g.start a (group_content g).chunks (spread others) some s) ∙ h.same a b s;
  }

  -- What a group that no change affects gives.
  pub record IsClearGroup (whole : List (Ranged T)) (g : PlacedGroup T) (done run : List (Ranged T)) (reached : ℕ) : Type 0 where
    pub hull : IsClearHull rules d g.start (group_content g).reach (flat (group_content g).chunks)
    pub ascend : reached ≤ g.start
    pub order : Ascend 0 (done ++ stable_sort (before rules) run)
    pub room : length done + length run + length (flat (group_content g).chunks) ≤ length whole

  pub clear_group : (whole : List (Ranged T)) (g : PlacedGroup T) (others : List (PlacedGroup T)) (done run : List (Ranged T)) (reached : ℕ) (reps after : List ChangedRange) → AreGroups rules (g ∷ others)
      → ((a b : ℕ) → g.start ≤ a → list_any (meets a b) after ≡ list_any (meets a b) reps) → IsWalked rules d whole (spread (g ∷ others)) done run reached reps
      → ((group_content g).is_turned || list_any (meets g.start (g.start + (group_content g).reach)) after) ≡ false → IsClearGroup whole g done run reached
  clear_group whole g others done run reached reps after h f w none =
      let group = h.0 in
      let ranges = flat (group_content g).chunks in
      let later = flat (spread others) in
      let is = flat-spread g others in
      let inside = subst (Within (old_size d)) is w.within in
      let order = subst (Ascend reached) is w.ascend in
      let under = subst (λ rs. IsUnder rules d whole done run rs) is w.under in
      let first = group_first g.start (group_content g).chunks (spread others) group.0.chunks group.1 group.0.first in
      let met : list_any (meets g.start (g.start + (group_content g).reach)) (replaced d) ≡ false =
      sym (w.same g.start _ first) ∙ (sym (f g.start _ (omega arith)) ∙ or_right (group_content g).is_turned _ none) in
      let turned = sym group.0.turned ∙ or_left (group_content g).is_turned (list_any (meets g.start (g.start + (group_content g).reach)) after) none in
      let hull = clear_hull rules d g.start (group_content g).reach ranges group.1 (flat_forward rules (group_content g).chunks group.0.chunks) group.0.reach turned met (within_prefix (old_size d) (map (shift g.start) ranges) later inside) in
      let n = length_shifted rules g.start ranges in
      let some : 0 < length (map (shift g.start) ranges) = let m = group.1 in omega (arith, n, m) in
      record {
        hull = hull;
        ascend = (ascend_hull reached g.start ranges later group.1 group.0.first order).0;
        order = under_order rules d (λ r. clear_place d r.to) whole done run (map (shift g.start) ranges) later under some hull.each (start_in rules d later (within_rest (old_size d) (map (shift g.start) ranges) later inside));
        room = let k = under.room in let m = length-append (map (shift g.start) ranges) later in omega (arith, k, m, n);
      }

  pub walked_group : (whole : List (Ranged T)) (g : PlacedGroup T) (others : List (PlacedGroup T)) (done run more : List (Ranged T)) (reached : ℕ) (reps after : List ChangedRange) → AreGroups rules (g ∷ others)
      → ((a b : ℕ) → g.start ≤ a → list_any (meets a b) after ≡ list_any (meets a b) reps) → IsWalked rules d whole (spread (g ∷ others)) done run reached reps
      → IsClearGroup whole g done run reached → more ≡ done ++ stable_sort (before rules) run ++ map (shift (clear_place d g.start)) (flat (group_content g).chunks)
      → IsWalked rules d whole (spread others) more [] g.start after
  walked_group whole g others done run more reached reps after h f w k m =
      let group = h.0 in
      let ranges = flat (group_content g).chunks in
      let next = spread others in
      let later = flat next in
      let is = flat-spread g others in
      let inside = within_rest (old_size d) (map (shift g.start) ranges) later (subst (Within (old_size d)) is w.within) in
      let order = subst (Ascend reached) is w.ascend in
      let n = length_shifted rules g.start ranges in
      let some : 0 < length (map (shift g.start) ranges) = let s = group.1 in omega (arith, n, s) in
      let chunks = are_left (map (move g.start) (group_content g).chunks) next w.chunks in
      let first = group_first g.start (group_content g).chunks next group.0.chunks group.1 group.0.first in
      record {
        under = under_clear rules d (λ r. clear_place d r.to) whole done run (map (shift g.start) ranges) later more (subst (λ rs. IsUnder rules d whole done run rs) is w.under) some k.hull.each (start_in rules d later inside)
            (m ∙ ap (λ xs. done ++ stable_sort (before rules) run ++ xs) (sym k.hull.images));
        chunks = chunks;
        within = inside;
        ascend = (ascend_hull reached g.start ranges later group.1 group.0.first order).1;
        same = λ a b s.
            let at = skipped reached g.start a ranges next chunks group.1 group.0.first order s in
            f a b at ∙ w.same a b (starts_more g.start a (map (move g.start) (group_content g).chunks) next at first);
      }

  -- Groups that are carried as far as the place from, up to whose ends no change is met, are walked.
  pub walked_carried : (whole : List (Ranged T)) (from : ℕ) (gs others : List (PlacedGroup T)) (done more : List (Ranged T)) (reached : ℕ) (reps : List ChangedRange) → AreGroups rules (gs ++ others)
      → reached ≤ from → IsWalked rules d whole (spread (gs ++ others)) done [] reached reps → Ascend from (flat (spread (gs ++ others))) → ((b : ℕ) → list_any (meets from b) reps ≡ list_any (meets from b) (replaced d)) → AllApart from reps gs
      → more ≡ done ++ flat (spread (map (carry from (clear_place d from)) gs)) → IsWalked rules d whole (spread others) more [] reached reps
  walked_carried whole from [] others done more reached reps h l w asc f apart e = subst (λ rs. IsWalked rules d whole (spread others) rs [] reached reps) (sym (e ∙ append-nil done)) w
  walked_carried whole from (g ∷ gs) others done more reached reps h l w asc f apart e =
      let ranges = flat (group_content g).chunks in
      let rest = gs ++ others in
      let hull = ascend_hull from g.start ranges (flat (spread rest)) h.0.1 h.0.0.first (subst (Ascend from) (flat-spread g rest) asc) in
      let met : IsClear from (g.start + (group_content g).reach) d = sym (f (g.start + (group_content g).reach)) ∙ apart.0.1 in
      let here : IsClear from g.start d = none-narrow from (g.start + (group_content g).reach) from g.start (replaced d) (omega arith) (omega arith) met in
      let first = starts_at g rest g.start h.0.0 h.0.1 (omega arith) in
      let narrow : list_any (meets g.start (g.start + (group_content g).reach)) reps ≡ false =
      w.same g.start _ first ∙ none-narrow from (g.start + (group_content g).reach) g.start (g.start + (group_content g).reach) (replaced d) hull.0 (omega arith) met in
      let none : ((group_content g).is_turned || list_any (meets g.start (g.start + (group_content g).reach)) reps) ≡ false = ap (λ b. b || list_any (meets g.start (g.start + (group_content g).reach)) reps) apart.0.0 ∙ narrow in
      let clear = clear_group whole g rest done [] reached reps reps h (λ a b s. refl) w none in
      let place : clear_place d g.start ≡ g.start - from + clear_place d from = let k = clear_apart d from g.start hull.0 here in omega (arith, k) in
      let put = map (shift (g.start - from + clear_place d from)) ranges in
      let next = walked_group whole g rest done [] (done ++ put) reached reps reps h (λ a b s. refl) w clear
      (ap (λ n. done ++ map (shift n) ranges) (sym place) ∙ sym (ap (λ rs. rs ++ map (shift (clear_place d g.start)) ranges) (append-nil done))) in
      walked_carried whole from gs others (done ++ put) more reached reps h.1 l (walked_less rules d whole (spread rest) (done ++ put) [] reached g.start reps clear.ascend next)
      (ascend-less from g.start (flat (spread rest)) hull.0 hull.1) f apart.1
      (e ∙ (ap (λ rs. done ++ rs) (flat-spread (carry from (clear_place d from) g) (map (carry from (clear_place d from)) gs)) ∙ sym (append_assoc done put (flat (spread (map (carry from (clear_place d from)) gs))))))

  pub carried_fit : (from : ℕ) (changed : List ChangedRange) (gs : List (PlacedGroup T)) → AreGroups rules gs → Ascend from (flat (spread gs)) → Within (old_size d) (flat (spread gs))
      → ((b : ℕ) → list_any (meets from b) changed ≡ list_any (meets from b) (replaced d)) → new_size counted d < 2 ^ 32 → FitCarried from (clear_place d from) changed gs
  carried_fit from changed [] h asc w f size = tt
  carried_fit from changed (g ∷ gs) h asc w f size =
      let ranges = flat (group_content g).chunks in
      let later = flat (spread gs) in
      let end = g.start + (group_content g).reach in
      let hull = ascend_hull from g.start ranges later h.0.1 h.0.0.first (subst (Ascend from) (flat-spread g gs) asc) in
      let inside = subst (Within (old_size d)) (flat-spread g gs) w in
      let last = hull_within rules d (old_size d) g.start ranges h.0.1 (within_prefix (old_size d) (map (shift g.start) ranges) later inside) in
      let reach = h.0.0.reach in (
        λ none.
            let met : IsClear from end d = sym (f end) ∙ none in
            let far = clear_apart d from end (omega (arith, hull.0)) met in
            let bound = clear_within d end (omega (arith, last, reach)) (none-narrow from end end end (replaced d) (omega (arith, hull.0)) (omega arith) met) in
            omega (arith, far, bound, size, hull.0),
        carried_fit from changed gs h.1 (ascend-less from g.start later hull.0 hull.1) (within_rest (old_size d) (map (shift g.start) ranges) later inside) f size,
      )

  -- Groups that end before the first replaced range stay in place.
  carried_still : (gs : List (PlacedGroup T)) (reps : List ChangedRange) → reps ≡ replaced d → AllApart 0 reps gs → map (carry 0 (clear_place d 0)) gs ≡ map (carry 0 0) gs
  carried_still [] reps e apart = refl
  carried_still (g ∷ gs) reps e apart =
      let end = g.start + (group_content g).reach in
      let met : IsClear 0 end d = sym (ap (list_any (meets 0 end)) e) ∙ apart.0.1 in
      ap (λ n. map (carry 0 n) (g ∷ gs)) (clear_start 0 0 d (none-narrow 0 end 0 0 (replaced d) (omega arith) (omega arith) met))

  pub walked_still : (whole : List (Ranged T)) (gs others : List (PlacedGroup T)) (more : List (Ranged T)) (reps : List ChangedRange) → AreGroups rules (gs ++ others)
      → IsWalked rules d whole (spread (gs ++ others)) [] [] 0 reps → reps ≡ replaced d → AllApart 0 reps gs → more ≡ flat (spread (map (carry 0 0) gs)) → IsWalked rules d whole (spread others) more [] 0 reps
  walked_still whole gs others more reps h w e apart is =
      walked_carried whole 0 gs others [] more 0 reps h (omega arith) w w.ascend (λ b. ap (list_any (meets 0 b)) e) apart (is ∙ sym (ap (λ hs. flat (spread hs)) (carried_still gs reps e apart)))

  pub still_fit : (reps : List ChangedRange) (gs : List (PlacedGroup T)) → AreGroups rules gs → FitCarried 0 0 reps gs
  still_fit reps [] h = tt
  still_fit reps (g ∷ gs) h = (λ none. omega (arith, h.0.0.fits), still_fit reps gs h.1)

  -- Chunks that are carried as far as the place from, up to whose ends no change is met, are walked.
  pub walked_chunks : (whole : List (Ranged T)) (from : ℕ) (ps others : List (Placed T)) (done more : List (Ranged T)) (reached : ℕ) (reps : List ChangedRange)
      → reached ≤ from → IsWalked rules d whole (ps ++ others) done [] reached reps → Ascend from (flat (ps ++ others)) → ((b : ℕ) → list_any (meets from b) reps ≡ list_any (meets from b) (replaced d)) → AllChunksApart from reps ps
      → more ≡ done ++ flat (map (carry_chunk from (clear_place d from)) ps) → IsWalked rules d whole others more [] reached reps
  walked_chunks whole from [] others done more reached reps l w asc f apart e = subst (λ rs. IsWalked rules d whole others rs [] reached reps) (sym (e ∙ append-nil done)) w
  walked_chunks whole from (p ∷ ps) others done more reached reps l w asc f apart e =
      let ranges = (content p).ranges in
      let rest = ps ++ others in
      let end = p.start + (content p).reach in
      let hull = ascend_hull from p.start ranges (flat rest) w.chunks.0.1 w.chunks.0.0.first asc in
      let met : IsClear from end d = sym (f end) ∙ apart.0.1 in
      let here : IsClear from p.start d = none-narrow from end from p.start (replaced d) (omega arith) (omega arith) met in
      let narrow : list_any (meets p.start end) (replaced d) ≡ false = none-narrow from end p.start end (replaced d) hull.0 (omega arith) met in
      let none : chunk_affected rules d p ≡ false = ap (λ b. b || list_any (meets p.start end) (replaced d)) apart.0.0 ∙ narrow in
      let clear = clear_chunk rules d whole p rest done [] reached reps w none in
      let place : clear_place d p.start ≡ p.start - from + clear_place d from = let k = clear_apart d from p.start hull.0 here in omega (arith, k) in
      let put = map (shift (p.start - from + clear_place d from)) ranges in
      let next = walked_clear rules d whole p rest done [] (done ++ put) reached reps reps w (λ a b s. refl) clear
      (ap (λ n. done ++ map (shift n) ranges) (sym place) ∙ sym (ap (λ rs. rs ++ map (shift (clear_place d p.start)) ranges) (append-nil done))) in
      walked_chunks whole from ps others (done ++ put) more reached reps l (walked_less rules d whole rest (done ++ put) [] reached p.start reps clear.ascend next)
      (ascend-less from p.start (flat rest) hull.0 hull.1) f apart.1
      (e ∙ sym (append_assoc done put (flat (map (carry_chunk from (clear_place d from)) ps))))

  pub chunks_fit : (from : ℕ) (changed : List ChangedRange) (ps others : List (Placed T)) → AreChunks rules (ps ++ others) → Ascend from (flat (ps ++ others)) → Within (old_size d) (flat (ps ++ others))
      → ((b : ℕ) → list_any (meets from b) changed ≡ list_any (meets from b) (replaced d)) → new_size counted d < 2 ^ 32 → FitCarriedChunks from (clear_place d from) changed ps
  chunks_fit from changed [] others h asc w f size = tt
  chunks_fit from changed (p ∷ ps) others h asc w f size =
      let ranges = (content p).ranges in
      let later = flat (ps ++ others) in
      let end = p.start + (content p).reach in
      let hull = ascend_hull from p.start ranges later h.0.1 h.0.0.first asc in
      let last = hull_within rules d (old_size d) p.start ranges h.0.1 (within_prefix (old_size d) (map (shift p.start) ranges) later w) in
      let reach = h.0.0.reach in (
        λ none.
            let met : IsClear from end d = sym (f end) ∙ none in
            let far = clear_apart d from end (omega (arith, hull.0)) met in
            let bound = clear_within d end (omega (arith, last, reach)) (none-narrow from end end end (replaced d) (omega (arith, hull.0)) (omega arith) met) in
            omega (arith, far, bound, size, hull.0),
        chunks_fit from changed ps others h.1 (ascend-less from p.start later hull.0 hull.1) (within_rest (old_size d) (map (shift p.start) ranges) later w) f size,
      )

  -- the chunks before others
  pub are_before : (ps others : List (Placed T)) → AreChunks rules (ps ++ others) → AreChunks rules ps
  are_before [] others h = tt
  are_before (p ∷ ps) others h = (h.0, are_before ps others h.1)

  -- chunks that are passed leave no more to be mapped
  pub allowance_less : (ps qs : List (Placed T)) → allowance rules d qs ≤ allowance rules d (ps ++ qs)
  allowance_less ps qs = let k = allowance-append ps qs in omega (arith, k)

  -- a group's share of how many ranges are mapped by themselves at most
  pub allowance_group : (g : PlacedGroup T) (others : List (PlacedGroup T)) → allowance rules d (spread (g ∷ others)) ≡ allowance rules d (map (move g.start) (group_content g).chunks) + allowance rules d (spread others)
  allowance_group g others = allowance-append (map (move g.start) (group_content g).chunks) (spread others)

  -- groups that are passed leave no more to be mapped
  pub allowance_passed : (gs others : List (PlacedGroup T)) → allowance rules d (spread others) ≤ allowance rules d (spread (gs ++ others))
  allowance_passed [] others = omega arith
  allowance_passed (g ∷ gs) others = let k = allowance_passed gs others in let e = allowance_group g (gs ++ others) in omega (arith, k, e)
