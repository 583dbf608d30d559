-- Sets of chunks as a whole: their ends, and where a mapped set lies.
use Rattle.std.proofs.Common.{◌≡◌, ℕ, zero, suc, ◌+◌, ◌-◌, ◌^◌, ◌<◌, ◌≤◌, Bool, true, false, ◌&&◌, ◌||◌, cond, List, [], ◌∷◌, ◌++◌, length, get_or, take, map, filter_map, Option, Some, None, refl, sym, ap, subst, ◌∙◌, arith}
use Rattle.std.proofs.lemmas.Option.{get_or_from_slice_get, slice_get-map}
use Rattle.std.proofs.lemmas.List.{append-nil, length-append, length-map}
use Rattle.std.specs.List.{cons_option}
use Rattle.std.specs.Prelude.{IfSome, slice_get, nat_lt, ◌==◌, int_lt, int_le, ℤ, pos, option_map, option_and_then}
use Rattle.change_desc.specs.Sections.{counted, new_size}
use Rattle.change_desc.specs.Positions.{is_negative}
use Rattle.change_desc.specs.declared.map_mode.MapMode.{MapMode}
use Rattle.change_desc.specs.declared.map_mode.MapMode.TheVariants.{Simple}
use Rattle.change_desc.proofs.Bounds.{map_pos-within}
use Rattle.stable_order.specs.StableSort.{insert_by, stable_sort}
use Rattle.range_set.specs.Rules.{RangeRules}
use Rattle.range_set.specs.Order.{AllForward, before}
use Rattle.range_set.specs.Mapping.{Ends, EndWithin, ends_unless_turned, map_ranges, moved, new_ends, place_of, point_ends, span_ends}
use Rattle.range_set.specs.PrivateChunks.{AreChunks, AreGroups, EndBy, Fit, content, flat, greatest_end, group_content, lengthen, grow, shift, spread}
use Rattle.range_set.specs.PrivatePages.{ArePages, further, laid}
use Rattle.range_set.specs.declared.ranged.Ranged.{Ranged}
use Rattle.range_set.specs.declared.chunk.Placed.{Placed}
use Rattle.range_set.specs.declared.group.PlacedGroup.{PlacedGroup}
use Rattle.range_set.specs.declared.page.PlacedPage.{PlacedPage}
use Rattle.range_set.proofs.Chunks.{end_by_greatest, fit_flat, length_shifted, not_less}
use Rattle.range_set.proofs.Clear.{Sections}
use Rattle.range_set.proofs.Each.{Within, end_within}
use Rattle.range_set.proofs.Groups.{are_spread, flat-spread, flat-spread_append, flat_forward, group-at, shifted_twice}
use Rattle.range_set.proofs.Pages.{flat-laid, flat-laid_push, hull_at_group, laid_take, page-at, page_opened}
use Rattle.range_set.proofs.Walked.{hull_within, within_prefix, within_rest}

-- ends that lie in a text, if there are any
abbrev EndsIn : ℕ → Ends → Type 0
EndsIn n None = Unit {0}
EndsIn n (Some e) = (e.0 ≤ n) × (e.1 ≤ n)

in_unless : (n : ℕ) (b : Bool) (p q : ℕ) → p ≤ n → q ≤ n → EndsIn n (cond b None (Some (p, q)))
in_unless n true p q l m = tt
in_unless n false p q l m = (l, m)

point_in : (d : Sections) (place : ℕ) (s e : ℤ) (m : MapMode) → EndsIn (new_size counted d) (point_ends d place s e m)
point_in d place s e m = at (place_of d place s m) (place_of d place e Simple) (map_pos-within d place (is_negative s) m) (map_pos-within d place (is_negative e) Simple)
  where
    at : (o o' : Option ℕ) → IfSome o (λ q. q ≤ new_size counted d) → IfSome o' (λ q. q ≤ new_size counted d)
        → EndsIn (new_size counted d) (option_and_then (λ from. option_and_then (λ to. cond (nat_lt to from) None (Some (from, to))) o') o)
    at None o' h k = tt
    at (Some from) None h k = tt
    at (Some from) (Some to) h k = in_unless (new_size counted d) (nat_lt to from) from to h k

span_in : (d : Sections) (from to : ℕ) (s e : ℤ) → EndsIn (new_size counted d) (span_ends d from to s e)
span_in d from to s e = at (place_of d from s Simple) (place_of d to e Simple) (map_pos-within d from (is_negative s) Simple) (map_pos-within d to (is_negative e) Simple)
  where
    at : (o o' : Option ℕ) → IfSome o (λ q. q ≤ new_size counted d) → IfSome o' (λ q. q ≤ new_size counted d)
        → EndsIn (new_size counted d) (option_and_then (λ p. option_and_then (λ q. cond (nat_lt q p || (p == q && int_lt (pos 0) s && int_le e (pos 0))) None (Some (p, q))) o') o)
    at None o' h k = tt
    at (Some p) None h k = tt
    at (Some p) (Some q) h k = in_unless (new_size counted d) (nat_lt q p || (p == q && int_lt (pos 0) s && int_le e (pos 0))) p q h k

turned_in : (n : ℕ) (s e : ℤ) (o : Ends) → EndsIn n o → EndsIn n (option_and_then (λ ends. ends_unless_turned s e ends.0 ends.1) o)
turned_in n s e None h = tt
turned_in n s e (Some p) h = in_unless n (p.0 == p.1 && int_lt e s) p.0 p.1 h.0 h.1

module _ {T : Type 0} (rules : RangeRules T) (d : Sections) where
  ends_in : (r : Ranged T) → EndsIn (new_size counted d) (new_ends rules d r)
  ends_in r = turned_in (new_size counted d) (rules.start_side r.value) (rules.end_side r.value) _ (at (r.from == r.to))
    where
      at : (b : Bool) → EndsIn (new_size counted d) (cond b (point_ends d r.from (rules.start_side r.value) (rules.end_side r.value) (rules.mode r.value)) (span_ends d r.from r.to (rules.start_side r.value) (rules.end_side r.value)))
      at true = point_in d r.from (rules.start_side r.value) (rules.end_side r.value) (rules.mode r.value)
      at false = span_in d r.from r.to (rules.start_side r.value) (rules.end_side r.value)

  images_in : (rs : List (Ranged T)) → Within (new_size counted d) (filter_map (moved rules d) rs)
  images_in [] = tt
  images_in (r ∷ rs) = at (new_ends rules d r) (ends_in r) (images_in rs)
    where
      at : (o : Ends) → EndsIn (new_size counted d) o → Within (new_size counted d) (filter_map (moved rules d) rs)
          → Within (new_size counted d) (cons_option (option_map (λ (es : ℕ × ℕ). let q : Ranged T = record { from = es.0; to = es.1; value = r.value } in q) o) (filter_map (moved rules d) rs))
      at None h k = k
      at (Some e) h k = (h, k)

  insert_in : (n : ℕ) (r : Ranged T) (rs : List (Ranged T)) → (r.from ≤ n) × (r.to ≤ n) → Within n rs → Within n (insert_by (before rules) r rs)
  insert_in n r [] h k = (h, tt)
  insert_in n r (q ∷ rs) h k =
      elim (before rules q r) as (λ b. Within n (cond b (q ∷ insert_by (before rules) r rs) (r ∷ q ∷ rs)))
      [ true ↦ (k.0, insert_in n r rs h k.1) | false ↦ (h, k) ]

  sort_in : (n : ℕ) (rs : List (Ranged T)) → Within n rs → Within n (stable_sort (before rules) rs)
  sort_in n [] h = tt
  sort_in n (r ∷ rs) h = insert_in n r (stable_sort (before rules) rs) h.0 (sort_in n rs h.1)

  pub map_in : (rs : List (Ranged T)) → EndWithin (new_size counted d) (map_ranges rules d rs)
  map_in rs = end_within (new_size counted d) (map_ranges rules d rs) (sort_in (new_size counted d) (filter_map (moved rules d) rs) (images_in rs))

module _ {T : Type 0} (rules : RangeRules T) where
  -- a chunk lies in a text where its hull does
  hull_in : (len start reach : ℕ) (rs : List (Ranged T)) → AllForward rs → EndBy reach rs → start + reach ≤ len → Within len (map (shift start) rs)
  hull_in len start reach [] f e l = tt
  hull_in len start reach (r ∷ rs) f e l = let k = not_less r.to r.from f.0 in ((omega (arith, e.0, k), omega (arith, e.0)), hull_in len start reach rs f.1 e.1 l)

  within_both : (len : ℕ) (xs ys : List (Ranged T)) → Within len xs → Within len ys → Within len (xs ++ ys)
  within_both len [] ys h k = k
  within_both len (x ∷ xs) ys h k = (h.0, within_both len xs ys h.1 k)

  pub within_push : (len : ℕ) (ps : List (PlacedPage T)) (i : ℕ) (p : PlacedPage T) → i < length ps → p ≡ get_or ps i p → ArePages rules ps → p.start + p.page.value.reach ≤ len
      → Within len (flat (spread (laid (take i ps)))) → Within len (flat (spread (laid (take (i + 1) ps))))
  within_push len ps i p l e h k w =
      let page = (page-at rules ps i p l e h).0 in
      let gs = p.page.value.groups.items in
      let r = page.reach in
      subst (λ qs. Within len (flat (spread (laid qs)))) (sym (laid_take ps i p l e))
      (subst (Within len) (sym (flat-laid_push (take i ps) p))
      (within_both len (flat (spread (laid (take i ps)))) _ w
      (hull_in len p.start p.page.value.reach (flat (spread gs)) (flat_forward rules (spread gs) (are_spread rules gs page.groups)) (end_by_greatest (flat (spread gs)) p.page.value.reach (omega (arith, r))) k)))

  pub hull_of : (len : ℕ) (ps : List (PlacedPage T)) (i : ℕ) (p : PlacedPage T) → i < length ps → p ≡ get_or ps i p → ArePages rules ps → Within len (flat (spread (laid ps))) → p.start + p.page.value.reach ≤ len
  hull_of len [] i p l e h w = absurd (omega arith)
  hull_of len (q ∷ ps) zero p l e h w =
      let ranges = flat (spread q.page.value.groups.items) in
      let parts = subst (Within len) (flat-laid q ps) w in
      let k = hull_within rules [] len q.start ranges h.0.1 (within_prefix len (map (shift q.start) ranges) (flat (spread (laid ps))) parts) in
      let r = h.0.0.reach in
      subst (λ (x : PlacedPage T). x.start + x.page.value.reach ≤ len) (sym e) (omega (arith, k, r))
  hull_of len (q ∷ ps) (suc i) p l e h w =
      hull_of len ps i p (omega arith) e h.1 (within_rest len (map (shift q.start) (flat (spread q.page.value.groups.items))) (flat (spread (laid ps))) (subst (Within len) (flat-laid q ps) w))

-- the last range of some chunks
pub last_place : {X : Type 0} (xs : List X) (x : X) → slice_get xs (length xs - 1) ≡ Some x → (length xs - 1 < length xs) × (x ≡ get_or xs (length xs - 1) x)
last_place [] x h = cc
last_place (u ∷ xs) x h = (omega arith, sym (get_or_from_slice_get (u ∷ xs) (length (u ∷ xs) - 1) x x h))

pub has_last : {X : Type 0} (xs : List X) → 1 ≤ length xs → slice_get xs (length xs - 1) ≡ None → ⊥
has_last [] some h = absurd (omega arith)
has_last (x ∷ xs) some h =
    let n : length (x ∷ xs) - 1 ≡ length xs = omega arith in
    past xs x (ap (slice_get (x ∷ xs)) (sym n) ∙ h)
  where
    past : {X : Type 0} (xs : List X) (x : X) → slice_get (x ∷ xs) (length xs) ≡ None → ⊥
    past [] x h = cc
    past (y ∷ xs) x h = past xs y h

-- the last of ranges that have grown
pub last_grown : {T : Type 0} (by : ℕ) (rs : List (Ranged T)) (r : Ranged T) → slice_get rs (length rs - 1) ≡ Some r → slice_get (map (grow by) rs) (length (map (grow by) rs) - 1) ≡ Some (grow by r)
last_grown by rs r h =
    ap (λ n. slice_get (map (grow by) rs) (n - 1)) (length-map rs (grow by)) ∙ (slice_get-map (grow by) rs (length rs - 1) ∙ ap (option_map (grow by)) h)

pub last_lengthened : {T : Type 0} (by : ℕ) (ps : List (Placed T)) (p : Placed T) → slice_get ps (length ps - 1) ≡ Some p → slice_get (map (lengthen by) ps) (length (map (lengthen by) ps) - 1) ≡ Some (lengthen by p)
last_lengthened by ps p h =
    ap (λ n. slice_get (map (lengthen by) ps) (n - 1)) (length-map ps (lengthen by)) ∙ (slice_get-map (lengthen by) ps (length ps - 1) ∙ ap (option_map (lengthen by)) h)

last_append : {X : Type 0} (xs ys : List X) → 1 ≤ length ys → slice_get (xs ++ ys) (length (xs ++ ys) - 1) ≡ slice_get ys (length ys - 1)
last_append [] ys h = refl
last_append (x ∷ xs) ys h =
    let n = length-append xs ys in
    let e : length (x ∷ (xs ++ ys)) - 1 ≡ suc (length (xs ++ ys) - 1) = omega (arith, n, h) in
    ap (slice_get (x ∷ (xs ++ ys))) e ∙ last_append xs ys h

module _ {T : Type 0} (rules : RangeRules T) where
  some_ranges : (start : ℕ) (rs later : List (Ranged T)) → 1 ≤ length rs → 1 ≤ length (map (shift start) rs ++ later)
  some_ranges start [] later h = absurd (omega arith)
  some_ranges start (r ∷ rs) later h = omega arith

  pub last_flat : (ps : List (Placed T)) (p : Placed T) (r : Ranged T) → AreChunks rules ps → slice_get ps (length ps - 1) ≡ Some p
      → slice_get (content p).ranges (length (content p).ranges - 1) ≡ Some r → slice_get (flat ps) (length (flat ps) - 1) ≡ Some (shift p.start r)
  last_flat [] p r h e f = cc
  last_flat (q ∷ []) p r h e f =
      let same : q ≡ p = cc in
      subst (λ (x : Placed T). slice_get (flat (x ∷ [])) (length (flat (x ∷ [])) - 1) ≡ Some (shift p.start r)) (sym same)
      (ap (λ xs. slice_get xs (length xs - 1)) (append-nil (map (shift p.start) (content p).ranges))
      ∙ (ap (λ n. slice_get (map (shift p.start) (content p).ranges) (n - 1)) (length-map (content p).ranges (shift p.start))
      ∙ (slice_get-map (shift p.start) (content p).ranges (length (content p).ranges - 1) ∙ ap (option_map (shift p.start)) f)))
  last_flat (q ∷ q' ∷ ps) p r h e f =
      let n : length (q ∷ q' ∷ ps) - 1 ≡ suc (length (q' ∷ ps) - 1) = omega arith in
      last_append (map (shift q.start) (content q).ranges) (flat (q' ∷ ps)) (some_ranges q'.start (content q').ranges (flat ps) h.1.0.1)
      ∙ last_flat (q' ∷ ps) p r h.1 (ap (slice_get (q ∷ q' ∷ ps)) (sym n) ∙ e) f

  -- the last range of some groups
  last_spread : (gs : List (PlacedGroup T)) (g : PlacedGroup T) (o : Option (Ranged T)) → AreGroups rules gs → slice_get gs (length gs - 1) ≡ Some g
      → o ≡ slice_get (map (shift g.start) (flat (group_content g).chunks)) (length (flat (group_content g).chunks) - 1) → o ≡ slice_get (flat (spread gs)) (length (flat (spread gs)) - 1)
  last_spread [] g o h e f = cc
  last_spread (q ∷ []) g o h e f =
      let same : q ≡ g = cc in
      let ranges = flat (group_content g).chunks in
      let n = length_shifted rules g.start ranges in
      f ∙ (ap (λ k. slice_get (map (shift g.start) ranges) (k - 1)) (sym n)
      ∙ (ap (λ xs. slice_get xs (length xs - 1)) (sym (append-nil (map (shift g.start) ranges)) ∙ sym (flat-spread g []))
      ∙ ap (λ (x : PlacedGroup T). slice_get (flat (spread (x ∷ []))) (length (flat (spread (x ∷ []))) - 1)) (sym same)))
  last_spread (q ∷ q' ∷ gs) g o h e f =
      let n : length (q ∷ q' ∷ gs) - 1 ≡ suc (length (q' ∷ gs) - 1) = omega arith in
      let some : 1 ≤ length (flat (spread (q' ∷ gs))) =
      let a = ap length (flat-spread q' gs) ∙ length-append (map (shift q'.start) (flat (group_content q').chunks)) (flat (spread gs)) in
      let b = length_shifted rules q'.start (flat (group_content q').chunks) in
      let c = h.1.0.1 in
      omega (arith, a, b, c) in
      last_spread (q' ∷ gs) g o h.1 (ap (slice_get (q ∷ q' ∷ gs)) (sym n) ∙ e) f
      ∙ (sym (last_append (map (shift q.start) (flat (group_content q).chunks)) (flat (spread (q' ∷ gs))) some)
      ∙ ap (λ xs. slice_get xs (length xs - 1)) (sym (flat-spread q (q' ∷ gs))))

  -- the last range of some pages
  last_laid : (ps : List (PlacedPage T)) (p : PlacedPage T) (o : Option (Ranged T)) → ArePages rules ps → slice_get ps (length ps - 1) ≡ Some p
      → (let rs = flat (spread (map (further p.start) p.page.value.groups.items)) in o ≡ slice_get rs (length rs - 1)) → o ≡ slice_get (flat (spread (laid ps))) (length (flat (spread (laid ps))) - 1)
  last_laid [] p o h e f = cc
  last_laid (q ∷ []) p o h e f =
      let same : q ≡ p = cc in
      f ∙ (ap (λ gs. slice_get (flat (spread gs)) (length (flat (spread gs)) - 1)) (sym (append-nil (map (further p.start) p.page.value.groups.items)))
      ∙ ap (λ (x : PlacedPage T). slice_get (flat (spread (laid (x ∷ [])))) (length (flat (spread (laid (x ∷ [])))) - 1)) (sym same))
  last_laid (q ∷ q' ∷ ps) p o h e f =
      let n : length (q ∷ q' ∷ ps) - 1 ≡ suc (length (q' ∷ ps) - 1) = omega arith in
      let here = map (further q.start) q.page.value.groups.items in
      let some : 1 ≤ length (flat (spread (laid (q' ∷ ps)))) =
      let ranges = flat (spread q'.page.value.groups.items) in
      let a = ap length (flat-laid q' ps) ∙ length-append (map (shift q'.start) ranges) (flat (spread (laid ps))) in
      let b = length_shifted rules q'.start ranges in
      let c = h.1.0.1 in
      omega (arith, a, b, c) in
      last_laid (q' ∷ ps) p o h.1 (ap (slice_get (q ∷ q' ∷ ps)) (sym n) ∙ e) f
      ∙ (sym (last_append (flat (spread here)) (flat (spread (laid (q' ∷ ps)))) some)
      ∙ ap (λ xs. slice_get xs (length xs - 1)) (sym (flat-spread_append here (laid (q' ∷ ps)))))

  -- it is the last one of the last group of the last page
  pub last_paged : (ps : List (PlacedPage T)) (p : PlacedPage T) (g : PlacedGroup T) (o : Option (Ranged T)) → ArePages rules ps → slice_get ps (length ps - 1) ≡ Some p
      → slice_get p.page.value.groups.items (length p.page.value.groups.items - 1) ≡ Some g
      → o ≡ slice_get (map (shift (p.start + g.start)) (flat (group_content g).chunks)) (length (flat (group_content g).chunks) - 1) → o ≡ slice_get (flat (spread (laid ps))) (length (flat (spread (laid ps))) - 1)
  last_paged ps p g o h e k f =
      let place = last_place ps p e in
      let page = (page-at rules ps (length ps - 1) p place.0 place.1 h).0 in
      let gs = p.page.value.groups.items in
      let m : p.start + g.start ≡ g.start + p.start = omega arith in
      let at : slice_get (map (further p.start) gs) (length (map (further p.start) gs) - 1) ≡ Some (further p.start g) =
      ap (λ n. slice_get (map (further p.start) gs) (n - 1)) (length-map gs (further p.start)) ∙ (slice_get-map (further p.start) gs (length gs - 1) ∙ ap (option_map (further p.start)) k) in
      last_laid ps p o h e (last_spread (map (further p.start) gs) (further p.start g) o (page_opened rules p.start p.page.value page) at
      (f ∙ ap (λ n. slice_get (map (shift n) (flat (group_content g).chunks)) (length (flat (group_content g).chunks) - 1)) m))

  -- the last group of the last page counts from a place in the document
  pub last_group : (ps : List (PlacedPage T)) (p : PlacedPage T) (g : PlacedGroup T) → ArePages rules ps → slice_get ps (length ps - 1) ≡ Some p → slice_get p.page.value.groups.items (length p.page.value.groups.items - 1) ≡ Some g
      → AreChunks rules (group_content g).chunks × (p.start + g.start + greatest_end (flat (group_content g).chunks) < 2 ^ 32)
  last_group ps p g h e k =
      let place = last_place ps p e in
      let page = (page-at rules ps (length ps - 1) p place.0 place.1 h).0 in
      let gs = p.page.value.groups.items in
      let at = last_place gs g k in
      let group = (group-at rules gs (length gs - 1) g at.0 at.1 page.groups).0 in
      let hull = hull_at_group rules gs (length gs - 1) g at.0 at.1 page.groups in
      let a = group.reach in
      let b = page.reach in
      let c = page.fits in
      (group.chunks, omega (arith, hull, a, b, c))

  pub has_last_group : (ps : List (PlacedPage T)) (p : PlacedPage T) → ArePages rules ps → slice_get ps (length ps - 1) ≡ Some p → slice_get p.page.value.groups.items (length p.page.value.groups.items - 1) ≡ None → ⊥
  has_last_group ps p h e k =
      let place = last_place ps p e in
      has_last p.page.value.groups.items (some p.page.value.groups.items (page-at rules ps (length ps - 1) p place.0 place.1 h).1) k
    where
      some : (gs : List (PlacedGroup T)) → 1 ≤ length (flat (spread gs)) → 1 ≤ length gs
      some [] l = absurd (omega (arith, l))
      some (g ∷ gs) l = omega arith

  -- the last range of chunks that count from a place
  pub last_moved : (base : ℕ) (ps : List (Placed T)) (p : Placed T) (r : Ranged T) → AreChunks rules ps → slice_get ps (length ps - 1) ≡ Some p
      → slice_get (content p).ranges (length (content p).ranges - 1) ≡ Some r → slice_get (map (shift base) (flat ps)) (length (flat ps) - 1) ≡ Some (shift (base + p.start) r)
  last_moved base ps p r h e f =
      let n : p.start + base ≡ base + p.start = omega arith in
      slice_get-map (shift base) (flat ps) (length (flat ps) - 1) ∙ (ap (option_map (shift base)) (last_flat ps p r h e f) ∙ ap (λ x. Some x) (shifted_twice base p.start r ∙ ap (λ n. shift n r) n))

  -- what a set tells of its ranges
  pub flat_within : (ps : List (Placed T)) → AreChunks rules ps → EndWithin 4294967295 (flat ps)
  flat_within ps h = end_within 4294967295 (flat ps) (of_fit (flat ps) (fit_flat rules ps h))
    where
      of_fit : (rs : List (Ranged T)) → Fit rs → Within 4294967295 rs
      of_fit [] h = tt
      of_fit (r ∷ rs) h = ((omega (arith, h.0.0), omega (arith, h.0.1)), of_fit rs h.1)
