-- Groups of chunks, and builders of them, seen as lists of chunks and of ranges.
use Rattle.std.proofs.Common.{◌≡◌, ℕ, zero, suc, ◌+◌, ◌-◌, ◌^◌, ◌<◌, ◌≤◌, max, ◌||◌, List, [], ◌∷◌, ◌++◌, length, get_or, set, take, map, refl, sym, ◌∙◌, ap, subst, arith, append_assoc}
use Rattle.std.proofs.lemmas.List.{append-nil, map-append, length-append, take_more}
use Rattle.std.specs.List.{list_any}
use Rattle.range_set.specs.Rules.{RangeRules}
use Rattle.range_set.specs.Order.{AllForward}
use Rattle.range_set.specs.Mapping.{is_turned}
use Rattle.range_set.specs.Points.{stands}
use Rattle.range_set.specs.PrivateChunks.{AreChunks, AreGroups, Ascend, Content, EndBy, GroupContent, IsChunk, IsGroup, IsNextChunk, content, first_start, flat, greatest_end, group_content, group_plain, group_stretch, lengthen, move, shift, spread}
use Rattle.range_set.specs.PrivatePages.{PlacesFirst}
use Rattle.range_set.specs.declared.ranged.Ranged.{Ranged}
use Rattle.range_set.specs.declared.chunk.Placed.{Placed}
use Rattle.range_set.specs.declared.group.Group.{Group}
use Rattle.range_set.specs.declared.group.PlacedGroup.{PlacedGroup}
use Rattle.range_set.proofs.Chunks.{end_by_greatest, fit_chunk, flat-append, flat-push, forward_shifted, greatest_shifted, length_shifted, turned-shifted}
use Rattle.range_set.proofs.RangeOrder.{forward-append}

module _ {T : Type 0} where
  pub shifted_twice : (a b : ℕ) (r : Ranged T) → shift a (shift b r) ≡ shift (b + a) r
  shifted_twice a b r =
      let f : r.from + b + a ≡ r.from + (b + a) = omega arith in
      let t : r.to + b + a ≡ r.to + (b + a) = omega arith in
      ap (λ n. let q : Ranged T = record { from = n; to = r.to + b + a; value = r.value } in q) f
      ∙ ap (λ n. let q : Ranged T = record { from = r.from + (b + a); to = n; value = r.value } in q) t

  pub shift-twice : (a b : ℕ) (rs : List (Ranged T)) → map (shift a) (map (shift b) rs) ≡ map (shift (b + a)) rs
  shift-twice a b [] = refl
  shift-twice a b (r ∷ rs) = ap (λ q. q ∷ map (shift a) (map (shift b) rs)) (shifted_twice a b r) ∙ ap (λ qs. shift (b + a) r ∷ qs) (shift-twice a b rs)

  pub flat-moved : (by : ℕ) (ps : List (Placed T)) → flat (map (move by) ps) ≡ map (shift by) (flat ps)
  flat-moved by [] = refl
  flat-moved by (p ∷ ps) =
      ap (λ rs. map (shift (p.start + by)) (content p).ranges ++ rs) (flat-moved by ps)
      ∙ (ap (λ rs. rs ++ map (shift by) (flat ps)) (sym (shift-twice by p.start (content p).ranges))
      ∙ sym (map-append (shift by) (map (shift p.start) (content p).ranges) (flat ps)))

  pub moved_none : (ps : List (Placed T)) → map (move 0) ps ≡ ps
  moved_none [] = refl
  moved_none (p ∷ ps) =
      let e : p.start + 0 ≡ p.start = omega arith in
      ap (λ n. let q : Placed T = record { start = n; grown = p.grown; chunk = p.chunk } in q ∷ map (move 0) ps) e ∙ ap (λ qs. p ∷ qs) (moved_none ps)

  -- chunks that haven't grown
  pub lengthened_none : (ps : List (Placed T)) → map (lengthen 0) ps ≡ ps
  lengthened_none [] = refl
  lengthened_none (p ∷ ps) =
      let e : p.grown + 0 ≡ p.grown = omega arith in
      ap (λ n. let q : Placed T = record { start = p.start; grown = n; chunk = p.chunk } in q ∷ map (lengthen 0) ps) e ∙ ap (λ qs. p ∷ qs) (lengthened_none ps)

  pub unlengthened : (by : ℕ) (ps : List (Placed T)) → by ≡ 0 → map (lengthen by) ps ≡ ps
  unlengthened by ps e = ap (λ n. map (lengthen n) ps) e ∙ lengthened_none ps

  -- an element of a list of chunks, in the list of those that have grown
  pub lengthened_at : (by : ℕ) (ps : List (Placed T)) (i : ℕ) (p : Placed T) → i < length ps → p ≡ get_or ps i p → (i < length (map (lengthen by) ps)) × (lengthen by p ≡ get_or (map (lengthen by) ps) i (lengthen by p))
  lengthened_at by [] i p l e = absurd (omega arith)
  lengthened_at by (q ∷ ps) zero p l e = (omega arith, ap (lengthen by) e)
  lengthened_at by (q ∷ ps) (suc i) p l e = let k = lengthened_at by ps i p (omega arith) e in (omega (arith, k.0), k.1)

  -- a group that hasn't grown
  pub group_unstretched : (g : Group T) → group_stretch 0 g ≡ group_plain g
  group_unstretched g =
      let reach : g.reach + 0 ≡ g.reach = omega arith in
      ap (λ ps. let x : GroupContent T = record { grown = 0; chunks = ps; count = g.count; reach = g.reach + 0; is_turned = g.is_turned; has_point = g.has_point } in x) (lengthened_none g.chunks.items)
      ∙ ap (λ n. let x : GroupContent T = record { grown = 0; chunks = g.chunks.items; count = g.count; reach = n; is_turned = g.is_turned; has_point = g.has_point } in x) reach

  -- the only chunk without what it has grown by, which its group has in its stead
  pub without_grown : (ps rest : List (Placed T)) (x : Placed T) (n : ℕ) → length ps ≡ 1 → n ≡ 1
      → map (lengthen (get_or ps 0 x).grown) (take n (set ps 0 (record { start = (get_or ps 0 x).start; grown = 0; chunk = (get_or ps 0 x).chunk }) ++ rest)) ≡ ps
  without_grown [] rest x n l e = absurd (omega arith)
  without_grown (p ∷ []) rest x n l e =
      let q : Placed T = record { start = p.start; grown = 0; chunk = p.chunk } in
      let by : 0 + p.grown ≡ p.grown = omega arith in
      ap (λ k. map (lengthen p.grown) (take k (q ∷ rest))) e ∙ ap (λ k. let x : Placed T = record { start = p.start; grown = k; chunk = p.chunk } in x ∷ []) by
  without_grown (p ∷ q ∷ ps) rest x n l e = absurd (omega (arith, l))

  pub flat-unmoved : (ps : List (Placed T)) → map (shift 0) (flat ps) ≡ flat ps
  flat-unmoved ps = sym (flat-moved 0 ps) ∙ ap flat (moved_none ps)

  pub spread-append : (gs hs : List (PlacedGroup T)) → spread (gs ++ hs) ≡ spread gs ++ spread hs
  spread-append [] hs = refl
  spread-append (g ∷ gs) hs =
      ap (λ r. map (move g.start) (group_content g).chunks ++ r) (spread-append gs hs)
      ∙ sym (append_assoc (map (move g.start) (group_content g).chunks) (spread gs) (spread hs))

  pub spread-push : (gs : List (PlacedGroup T)) (g : PlacedGroup T) → spread (gs ++ g ∷ []) ≡ spread gs ++ map (move g.start) (group_content g).chunks
  spread-push gs g = spread-append gs (g ∷ []) ∙ ap (λ r. spread gs ++ r) (append-nil (map (move g.start) (group_content g).chunks))

  -- the ranges of a group at its place, and of the groups after it
  pub flat-spread : (g : PlacedGroup T) (gs : List (PlacedGroup T)) → flat (spread (g ∷ gs)) ≡ map (shift g.start) (flat (group_content g).chunks) ++ flat (spread gs)
  flat-spread g gs =
      flat-append (map (move g.start) (group_content g).chunks) (spread gs) ∙ ap (λ rs. rs ++ flat (spread gs)) (flat-moved g.start (group_content g).chunks)

  pub flat-spread_push : (gs : List (PlacedGroup T)) (g : PlacedGroup T) → flat (spread (gs ++ g ∷ [])) ≡ flat (spread gs) ++ map (shift g.start) (flat (group_content g).chunks)
  flat-spread_push gs g =
      ap flat (spread-push gs g)
      ∙ (flat-append (spread gs) (map (move g.start) (group_content g).chunks) ∙ ap (λ rs. flat (spread gs) ++ rs) (flat-moved g.start (group_content g).chunks))

  pub flat-spread_append : (gs hs : List (PlacedGroup T)) → flat (spread (gs ++ hs)) ≡ flat (spread gs) ++ flat (spread hs)
  flat-spread_append gs hs = ap flat (spread-append gs hs) ∙ flat-append (spread gs) (spread hs)

  pub greatest-append : (xs ys : List (Ranged T)) → greatest_end (xs ++ ys) ≡ max (greatest_end xs) (greatest_end ys)
  greatest-append [] ys = omega arith
  greatest-append (x ∷ xs) ys = let e = greatest-append xs ys in omega (arith, e)

  -- a list of ranges that isn't empty has a first one, which begins at the place
  pub begins : (start n : ℕ) (rs later : List (Ranged T)) → 1 ≤ length rs → first_start rs ≡ 0 → Ascend n (map (shift start) rs ++ later) → n ≤ start
  begins start n [] later some f h = absurd (omega arith)
  begins start n (r ∷ rs) later some f h = omega (arith, h.0, f)

module _ {T : Type 0} (rules : RangeRules T) where
  pub turned_any : (start : ℕ) (rs : List (Ranged T)) → list_any (is_turned rules) (map (shift start) rs) ≡ list_any (is_turned rules) rs
  turned_any start [] = refl
  turned_any start (r ∷ rs) =
      ap (λ b. b || list_any (is_turned rules) (map (shift start) rs)) (turned-shifted rules start r) ∙ ap (λ b. is_turned rules r || b) (turned_any start rs)

  pub points_any : (start : ℕ) (rs : List (Ranged T)) → list_any (stands rules) (map (shift start) rs) ≡ list_any (stands rules) rs
  points_any start [] = refl
  points_any start (r ∷ rs) = ap (λ b. stands rules r || b) (points_any start rs)

  pub AreChunks-append : (ps qs : List (Placed T)) → AreChunks rules ps → AreChunks rules qs → AreChunks rules (ps ++ qs)
  AreChunks-append [] qs h k = k
  AreChunks-append (p ∷ ps) qs h k = (h.0, AreChunks-append ps qs h.1 k)

  -- a chunk at another place
  pub chunk_placed : (start at : ℕ) (chunk : Content T) → IsChunk rules start chunk → at + chunk.reach < 2 ^ 32 → IsChunk rules at chunk
  chunk_placed start at chunk h l = record {
    few = h.few;
    first = h.first;
    forward = h.forward;
    reach = h.reach;
    turned = h.turned;
    points = h.points;
    fits = l;
  }

  -- a group at another place
  pub group_placed : (start at : ℕ) (group : GroupContent T) → IsGroup rules start group → at + group.reach < 2 ^ 32 → IsGroup rules at group
  group_placed start at group h l = record {
    few = h.few;
    single = h.single;
    chunks = h.chunks;
    first = h.first;
    count = h.count;
    reach = h.reach;
    turned = h.turned;
    points = h.points;
    fits = l;
  }

  -- a group of the same chunks, of which another part is said to be what they have grown by
  pub regrown_group : (start : ℕ) (old new : GroupContent T) → IsGroup rules start old → (0 < new.grown → length old.chunks ≤ 1) → new.chunks ≡ old.chunks → new.count ≡ old.count → new.reach ≡ old.reach → new.is_turned ≡ old.is_turned
      → new.has_point ≡ old.has_point → IsGroup rules start new
  regrown_group start old new h single chunks count reach turned points = record {
    few = rw chunks h.few;
    single = rw chunks single;
    chunks = rw chunks h.chunks;
    first = rw chunks h.first;
    count = rw chunks (count ∙ h.count);
    reach = rw chunks (reach ∙ h.reach);
    turned = rw chunks (turned ∙ h.turned);
    points = rw chunks (points ∙ h.points);
    fits = let f = h.fits in omega (arith, f, reach);
  }

  -- the hull of a chunk lies in that of its group
  hull_first : (p : Placed T) (ps : List (Placed T)) → AreChunks rules (p ∷ ps) → p.start + (content p).reach ≤ greatest_end (flat (p ∷ ps))
  hull_first p ps h =
      let a = greatest-append (map (shift p.start) (content p).ranges) (flat ps) in
      let b = greatest_shifted p.start (content p).ranges h.0.1 in
      let c = h.0.0.reach in
      omega (arith, a, b, c)

  hull_others : (p : Placed T) (ps : List (Placed T)) → greatest_end (flat ps) ≤ greatest_end (flat (p ∷ ps))
  hull_others p ps = let a = greatest-append (map (shift p.start) (content p).ranges) (flat ps) in omega (arith, a)

  -- the hull of the first of some chunks is no shorter than what its ranges have grown by
  pub hull_grown : (ps : List (Placed T)) (x : Placed T) → 1 ≤ length ps → AreChunks rules ps → (get_or ps 0 x).grown ≤ greatest_end (flat ps)
  hull_grown [] x l h = absurd (omega arith)
  hull_grown (p ∷ ps) x l h = let a = hull_first p ps h in omega (arith, a)

  pub hull_at : (ps : List (Placed T)) (i : ℕ) (p : Placed T) → i < length ps → p ≡ get_or ps i p → AreChunks rules ps → p.start + (content p).reach ≤ greatest_end (flat ps)
  hull_at [] i p l e h = absurd (omega arith)
  hull_at (q ∷ ps) zero p l e h = subst (λ (x : Placed T). x.start + (content x).reach ≤ greatest_end (flat (q ∷ ps))) (sym e) (hull_first q ps h)
  hull_at (q ∷ ps) (suc i) p l e h = let k = hull_at ps i p (omega arith) e h.1 in let o = hull_others q ps in omega (arith, k, o)

  -- chunks whose ranges end in a document are chunks further on
  pub are_moved : (by n : ℕ) (ps : List (Placed T)) → AreChunks rules ps → greatest_end (flat ps) ≤ n → by + n < 2 ^ 32 → AreChunks rules (map (move by) ps)
  are_moved by n [] h l m = tt
  are_moved by n (p ∷ ps) h l m =
      let a = hull_first p ps h in
      let b = hull_others p ps in (
        (chunk_placed p.start (p.start + by) (content p) h.0.0 (omega (arith, a, l, m)), h.0.1),
        are_moved by n ps h.1 (omega (arith, b, l)) m,
      )

  pub are_opened : (start : ℕ) (group : GroupContent T) → IsGroup rules start group → AreChunks rules (map (move start) group.chunks)
  are_opened start group h = let e = h.reach in are_moved start group.reach group.chunks h.chunks (omega (arith, e)) h.fits

  pub are_spread : (gs : List (PlacedGroup T)) → AreGroups rules gs → AreChunks rules (spread gs)
  are_spread [] h = tt
  are_spread (g ∷ gs) h = AreChunks-append (map (move g.start) (group_content g).chunks) (spread gs) (are_opened g.start (group_content g) h.0.0) (are_spread gs h.1)

  pub flat_forward : (ps : List (Placed T)) → AreChunks rules ps → AllForward (flat ps)
  flat_forward [] h = tt
  flat_forward (p ∷ ps) h = forward-append (map (shift p.start) (content p).ranges) (flat ps) (forward_shifted p.start (content p).ranges h.0.0.forward) (flat_forward ps h.1)

  pub group_ends : (start : ℕ) (group : GroupContent T) → IsGroup rules start group → EndBy group.reach (flat group.chunks)
  group_ends start group h = let e = h.reach in end_by_greatest (flat group.chunks) group.reach (omega (arith, e))

  some_flat : (p : Placed T) (ps : List (Placed T)) → AreChunks rules (p ∷ ps) → 1 ≤ length (flat (p ∷ ps))
  some_flat p ps h =
      let a = length-append (map (shift p.start) (content p).ranges) (flat ps) in
      let b = length_shifted rules p.start (content p).ranges in
      let c = h.0.1 in
      omega (arith, a, b, c)

  pub flat_some : (ps : List (Placed T)) → AreChunks rules ps → 1 ≤ length ps → 1 ≤ length (flat ps)
  flat_some [] h some = absurd (omega arith)
  flat_some (p ∷ ps) h some = some_flat p ps h

  pub AreGroups-push : (gs : List (PlacedGroup T)) (g : PlacedGroup T) → AreGroups rules gs → IsGroup rules g.start (group_content g) → 1 ≤ length (flat (group_content g).chunks) → AreGroups rules (gs ++ g ∷ [])
  AreGroups-push [] g h k some = ((k, some), tt)
  AreGroups-push (q ∷ gs) g h k some = (h.0, AreGroups-push gs g h.1 k some)

  pub group-at : (gs : List (PlacedGroup T)) (i : ℕ) (g : PlacedGroup T) → i < length gs → g ≡ get_or gs i g → AreGroups rules gs → IsGroup rules g.start (group_content g) × (1 ≤ length (flat (group_content g).chunks))
  group-at [] i g l e h = absurd (omega arith)
  group-at (q ∷ gs) zero g l e h = subst (λ (x : PlacedGroup T). IsGroup rules x.start (group_content x) × (1 ≤ length (flat (group_content x).chunks))) (sym e) h.0
  group-at (q ∷ gs) (suc i) g l e h = group-at gs i g (omega arith) e h.1

  pub groups_left : (gs hs : List (PlacedGroup T)) → AreGroups rules (gs ++ hs) → AreGroups rules gs
  groups_left [] hs h = tt
  groups_left (g ∷ gs) hs h = (h.0, groups_left gs hs h.1)

  pub groups_right : (gs hs : List (PlacedGroup T)) → AreGroups rules (gs ++ hs) → AreGroups rules hs
  groups_right [] hs h = h
  groups_right (g ∷ gs) hs h = groups_right gs hs h.1

  -- a chunk that counts from a place
  abbrev pub counted_chunk : ℕ → Placed T → Placed T
  counted_chunk start p = record { start = p.start - start; grown = p.grown; chunk = p.chunk }

  pub length_moved : (by : ℕ) (ps : List (Placed T)) → length (flat (map (move by) ps)) ≡ length (flat ps)
  length_moved by ps = ap length (flat-moved by ps) ∙ length_shifted rules by (flat ps)

  nothing : (ps : List (Placed T)) → length ps ≡ 0 → ps ≡ []
  nothing [] h = refl
  nothing (p ∷ ps) h = absurd (omega (arith, h))

  -- a group is opened, where no chunk is left of the one before it, or passed over
  pub left_open : (base grown : ℕ) (chunks : List (Placed T)) (groups : List (PlacedGroup T)) (start : ℕ) (placed : PlacedGroup T) (others : List (PlacedGroup T)) → length chunks ≡ 0 → PlacesFirst rules groups start placed others
      → (map (move base) (map (lengthen grown) chunks) ++ spread groups ≡ map (move start) (group_content placed).chunks ++ spread others) × AreChunks rules (map (move start) (group_content placed).chunks)
  left_open base grown chunks groups start placed others none h = (
    ap (λ ps. map (move base) (map (lengthen grown) ps) ++ spread groups) (nothing chunks none) ∙ ap spread h.is,
    are_opened start (group_content placed) h.first,
  )

  pub left_passed : (base grown : ℕ) (chunks : List (Placed T)) (groups : List (PlacedGroup T)) → length chunks ≡ 0 → map (move base) (map (lengthen grown) chunks) ++ spread groups ≡ spread groups
  left_passed base grown chunks groups none = ap (λ ps. map (move base) (map (lengthen grown) ps) ++ spread groups) (nothing chunks none)

  pub left_next : (base grown : ℕ) (chunks : List (Placed T)) (groups : List (PlacedGroup T)) (p : Placed T) (ps : List (Placed T)) → chunks ≡ p ∷ ps → AreChunks rules (map (move base) (map (lengthen grown) chunks))
      → (map (move base) (map (lengthen grown) chunks) ++ spread groups ≡ move base (lengthen grown p) ∷ (map (move base) (map (lengthen grown) ps) ++ spread groups))
      × (IsChunk rules (p.start + base) (content (lengthen grown p)) × AreChunks rules (map (move base) (map (lengthen grown) ps)))
  left_next base grown chunks groups p ps some h =
      let all = subst (λ qs. AreChunks rules (map (move base) (map (lengthen grown) qs))) some h in
      (ap (λ qs. map (move base) (map (lengthen grown) qs) ++ spread groups) some, (all.0.0, all.1))

  -- the first of chunks that are left
  pub next_chunk : (base grown : ℕ) (chunks : List (Placed T)) (groups : List (PlacedGroup T)) (p : Placed T) (ps : List (Placed T)) → chunks ≡ p ∷ ps → AreChunks rules (map (move base) (map (lengthen grown) chunks))
      → IsNextChunk (map (move base) (map (lengthen grown) chunks) ++ spread groups) (base + p.start) (content (lengthen grown p)) (map (move base) (map (lengthen grown) ps) ++ spread groups)
  next_chunk base grown chunks groups p ps some h =
      let next = left_next base grown chunks groups p ps some h in
      let chunk = content (lengthen grown p) in
      let later = map (move base) (map (lengthen grown) ps) ++ spread groups in
      let n : p.start + base ≡ base + p.start = omega arith in
      subst (λ qs. IsNextChunk qs (base + p.start) chunk later) (sym next.0)
      (subst (λ k. IsNextChunk (move base (lengthen grown p) ∷ later) k chunk later) n
      (record { ranges = refl; fits = fit_chunk rules (p.start + base) chunk next.1.0; fewer = omega arith }))

  -- one more chunk of a group at its place
  pub open_more : (start : ℕ) (ps : List (Placed T)) (i : ℕ) (p : Placed T) → i < length ps → p ≡ get_or ps i p
      → map (shift start) (flat (take (i + 1) ps)) ≡ map (shift start) (flat (take i ps)) ++ map (shift (start + p.start)) (content p).ranges
  open_more start ps i p l e =
      let n : p.start + start ≡ start + p.start = omega arith in
      ap (λ qs. map (shift start) (flat qs)) (take_more ps i p l ∙ ap (λ x. take i ps ++ x ∷ []) (sym e))
      ∙ (ap (map (shift start)) (flat-push (take i ps) p)
      ∙ (map-append (shift start) (flat (take i ps)) (map (shift p.start) (content p).ranges)
      ∙ ap (λ rs. map (shift start) (flat (take i ps)) ++ rs) (shift-twice start p.start (content p).ranges ∙ ap (λ k. map (shift k) (content p).ranges) n)))

  pub moved_chunk : (base : ℕ) (ps : List (Placed T)) (i : ℕ) (p : Placed T) → i < length ps → p ≡ get_or ps i p → AreChunks rules (map (move base) ps)
      → IsChunk rules (base + p.start) (content p) × (1 ≤ length (content p).ranges)
  moved_chunk base [] i p l e h = absurd (omega arith)
  moved_chunk base (q ∷ ps) zero p l e h =
      let n : q.start + base ≡ base + q.start = omega arith in
      subst (λ (x : Placed T). IsChunk rules (base + x.start) (content x) × (1 ≤ length (content x).ranges)) (sym e) (subst (λ k. IsChunk rules k (content q)) n h.0.0, h.0.1)
  moved_chunk base (q ∷ ps) (suc i) p l e h = moved_chunk base ps i p (omega arith) e h.1
