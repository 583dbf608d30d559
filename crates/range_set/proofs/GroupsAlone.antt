-- The only chunk of a group, whose range is moved by another length of the group and not by another group.
use Rattle.std.proofs.Common.{◌≡◌, ℕ, true, ◌||◌, ◌+◌, ◌<◌, ◌≤◌, List, [], ◌∷◌, length, map, refl, sym, ap, subst, ◌∙◌, arith}
use Rattle.std.proofs.lemmas.List.{append-nil, length-map}
use Rattle.std.specs.List.{list_any}
use Rattle.change_desc.specs.Ranges.{meets}
use Rattle.change_desc.specs.declared.changed_range.ChangedRange.{ChangedRange}
use Rattle.range_set.specs.Rules.{RangeRules}
use Rattle.range_set.specs.Mapping.{is_turned}
use Rattle.range_set.specs.Points.{stands}
use Rattle.range_set.specs.PrivateChunks.{AreChunks, GroupContent, IsChunk, IsGroup, content, first_start, flat, greatest_end, group_content, group_stretch, grow, lengthen, move, shift, stretch}
use Rattle.range_set.specs.PrivateMoving.{IsGroupMovedAlone, IsMovedAlone}
use Rattle.range_set.specs.declared.ranged.Ranged.{Ranged}
use Rattle.range_set.specs.declared.chunk.Placed.{Placed}
use Rattle.range_set.specs.declared.group.Group.{Group}
use Rattle.range_set.specs.declared.group.PlacedGroup.{PlacedGroup}
use Rattle.range_set.proofs.Clear.{Sections}
use Rattle.range_set.proofs.Chunks.{greatest_shifted, length_shifted}
use Rattle.range_set.proofs.Cost.{chunk_affected}
use Rattle.range_set.proofs.Groups.{are_opened, chunk_placed, flat-moved, turned_any}
use Rattle.range_set.proofs.Walked.{IsWalked, affected_same}

module _ {T : Type 0} where
  -- ranges that haven't moved
  unshifted : (rs : List (Ranged T)) → map (shift 0) rs ≡ rs
  unshifted [] = refl
  unshifted (r ∷ rs) =
      let from : r.from + 0 ≡ r.from = omega arith in
      let to : r.to + 0 ≡ r.to = omega arith in
      ap (λ n. let q : Ranged T = record { from = n; to = r.to + 0; value = r.value } in q ∷ map (shift 0) rs) from
      ∙ (ap (λ n. let q : Ranged T = record { from = r.from; to = n; value = r.value } in q ∷ map (shift 0) rs) to ∙ ap (λ qs. r ∷ qs) (unshifted rs))

  -- the ranges of a chunk that stands where its group does and hasn't grown by itself
  flat_one : (by : ℕ) (p : Placed T) → p.start ≡ 0 → p.grown ≡ 0 → flat (lengthen by p ∷ []) ≡ (stretch by p.chunk.value).ranges
  flat_one by p s g =
      let rs = (content (lengthen by p)).ranges in
      let e : p.grown + by ≡ by = omega (arith, g) in
      append-nil (map (shift p.start) rs) ∙ (ap (λ n. map (shift n) rs) s ∙ (unshifted rs ∙ ap (λ n. (stretch n p.chunk.value).ranges) e))

module _ {T : Type 0} (rules : RangeRules T) where
  -- the only chunk of a group, at its place
  pub record IsLone (start by : ℕ) (group : Group T) (p : Placed T) : Type 0 where
    pub chunk : IsChunk rules (p.start + start) (content (lengthen by p))
    pub ranges : map (shift start) (flat (group_stretch by group).chunks) ≡ map (shift (p.start + start)) (content (lengthen by p)).ranges

  pub lone_chunk : (start by : ℕ) (group : Group T) (p : Placed T) → group.chunks.items ≡ p ∷ [] → IsGroup rules start (group_stretch by group) → IsLone start by group p
  lone_chunk start by group p items h =
      let is : (group_stretch by group).chunks ≡ lengthen by p ∷ [] = ap (map (lengthen by)) items in
      record {
        chunk = (subst (λ ps. AreChunks rules (map (move start) ps)) is (are_opened rules start (group_stretch by group) h)).0.0;
        ranges = sym (flat-moved start (group_stretch by group).chunks) ∙ (ap (λ ps. flat (map (move start) ps)) is ∙ append-nil (map (shift (p.start + start)) (content (lengthen by p)).ranges));
      }

  -- what a group has of its only chunk
  pub record IsOnly (start by : ℕ) (group : Group T) (p : Placed T) : Type 0 where
    pub items : group.chunks.items ≡ p ∷ []
    pub start_is : p.start ≡ 0
    pub grown_is : p.grown ≡ 0
    pub chunk : IsChunk rules start (stretch by p.chunk.value)
    pub some : 1 ≤ length (stretch by p.chunk.value).ranges
    pub count : group.count ≡ length p.chunk.value.ranges.items
    pub reach : group.reach ≡ p.chunk.value.reach
    pub turned : group.is_turned ≡ p.chunk.value.is_turned
    pub points : group.has_point ≡ p.chunk.value.has_point
    pub ranges : map (shift start) (flat (group_stretch by group).chunks) ≡ map (shift start) (stretch by p.chunk.value).ranges

  pub only_chunk : (start by : ℕ) (group : Group T) (p : Placed T) → group.chunks.items ≡ p ∷ [] → IsGroup rules start (group_stretch by group) → p.start ≡ 0 → p.grown ≡ 0 → IsOnly start by group p
  only_chunk start by group p items h s g =
      let is : (group_stretch by group).chunks ≡ lengthen by p ∷ [] = ap (map (lengthen by)) items in
      let flat_is : flat (group_stretch by group).chunks ≡ (stretch by p.chunk.value).ranges = ap flat is ∙ flat_one by p s g in
      let e : p.grown + by ≡ by = omega (arith, g) in
      let are = subst (AreChunks rules) is h.chunks in
      let at : IsChunk rules p.start (stretch by p.chunk.value) = subst (λ n. IsChunk rules p.start (stretch n p.chunk.value)) e are.0.0 in
      let most = h.reach ∙ ap greatest_end flat_is in
      let end = at.reach in
      let fits = h.fits in
      record {
        items = items;
        start_is = s;
        grown_is = g;
        chunk = chunk_placed rules p.start start (stretch by p.chunk.value) at (omega (arith, most, end, fits));
        some = subst (λ n. 1 ≤ length (stretch n p.chunk.value).ranges) e are.0.1;
        count = h.count ∙ (ap length flat_is ∙ length-map p.chunk.value.ranges.items (grow by));
        reach = omega (arith, most, end);
        turned = h.turned ∙ (ap (list_any (is_turned rules)) flat_is ∙ sym at.turned);
        points = h.points ∙ (ap (list_any (stands rules)) flat_is ∙ sym at.points);
        ranges = ap (map (shift start)) flat_is;
      }

  -- the group where its only chunk has grown by another length
  only_group : (start at by to : ℕ) (group : Group T) (p : Placed T) → IsOnly start by group p → IsChunk rules at (stretch to p.chunk.value) → IsGroup rules at (group_stretch to group)
  only_group start at by to group p h k =
      let is : (group_stretch to group).chunks ≡ lengthen to p ∷ [] = ap (map (lengthen to)) h.items in
      let flat_is : flat (group_stretch to group).chunks ≡ (stretch to p.chunk.value).ranges = ap flat is ∙ flat_one to p h.start_is h.grown_is in
      let e : p.grown + to ≡ to = let g = h.grown_is in omega (arith, g) in
      let n = ap length is in
      let old = length-map p.chunk.value.ranges.items (grow by) in
      let new = length-map p.chunk.value.ranges.items (grow to) in
      let some = h.some in
      let s = h.start_is in
      let fits = k.fits in
      let reach = h.reach in
      record {
        few = omega (arith, n);
        single = λ grown. omega (arith, n);
        chunks = subst (AreChunks rules) (sym is) (
          (
            chunk_placed rules at p.start (content (lengthen to p)) (subst (λ m. IsChunk rules at (stretch m p.chunk.value)) (sym e) k) (omega (arith, s, fits, e)),
            subst (λ m. 1 ≤ length (stretch m p.chunk.value).ranges) (sym e) (omega (arith, some, old, new)),
          ),
          tt,
        );
        first = ap first_start flat_is ∙ k.first;
        count = h.count ∙ (sym new ∙ ap length (sym flat_is));
        reach = (let end = k.reach in let r : group.reach + to ≡ greatest_end (stretch to p.chunk.value).ranges = omega (arith, end, reach) in r) ∙ ap greatest_end (sym flat_is);
        turned = h.turned ∙ (k.turned ∙ ap (list_any (is_turned rules)) (sym flat_is));
        points = h.points ∙ (k.points ∙ ap (list_any (stands rules)) (sym flat_is));
        fits = omega (arith, fits, reach);
      }

  pub only_moves : (d : Sections) (start at by to : ℕ) (group : Group T) (p : Placed T) → IsOnly start by group p → IsMovedAlone rules d start (stretch by p.chunk.value) at (stretch to p.chunk.value)
      → IsGroupMovedAlone rules d start (group_stretch by group) at (group_stretch to group)
  only_moves d start at by to group p h k =
      let s = h.start_is in
      let g = h.grown_is in
      let old : p.start + start ≡ start = omega (arith, s) in
      let new : p.start + at ≡ at = omega (arith, s) in
      let from : p.grown + by ≡ by = omega (arith, g) in
      let into : p.grown + to ≡ to = omega (arith, g) in
      record {
        chunk = lengthen by p;
        one = ap (map (lengthen by)) h.items;
        image = lengthen to p;
        images = ap (map (lengthen to)) h.items;
        alone = subst (λ n. IsMovedAlone rules d n (content (lengthen by p)) (p.start + at) (content (lengthen to p))) (sym old)
            (subst (λ n. IsMovedAlone rules d start (content (lengthen by p)) n (content (lengthen to p))) (sym new)
            (subst (λ n. IsMovedAlone rules d start (stretch n p.chunk.value) at (content (lengthen to p))) (sym from)
            (subst (λ n. IsMovedAlone rules d start (stretch by p.chunk.value) at (stretch n p.chunk.value)) (sym into) k)));
        group = only_group start at by to group p h k.chunk;
      }

  -- the range of a group that was moved alone, in the list of its chunks
  pub image_ranges : (d : Sections) (start : ℕ) (old : GroupContent T) (at : ℕ) (new : GroupContent T) (k : IsGroupMovedAlone rules d start old at new) → map (shift at) (flat new.chunks) ≡ map (shift (k.image.start + at)) (content k.image).ranges
  image_ranges d start old at new k =
      sym (flat-moved at new.chunks) ∙ (ap (λ ps. flat (map (move at) ps)) k.images ∙ append-nil (map (shift (k.image.start + at)) (content k.image).ranges))

  pub image_length : (d : Sections) (start : ℕ) (old : GroupContent T) (at : ℕ) (new : GroupContent T) (k : IsGroupMovedAlone rules d start old at new) → length (flat new.chunks) ≡ 1
  image_length d start old at new k =
      let n = length_shifted rules at (flat new.chunks) in
      let m = ap length (image_ranges d start old at new k ∙ k.alone.images) in
      omega (arith, n, m)

  -- a group whose ranges have grown has one chunk
  pub record HasOne (g : PlacedGroup T) : Type 0 where
    pub chunk : Placed T
    pub one : (group_content g).chunks ≡ chunk ∷ []

  pub has_one : (g : PlacedGroup T) → IsGroup rules g.start (group_content g) → 1 ≤ length (flat (group_content g).chunks) → 0 < g.grown → HasOne g
  has_one g h some grown = at (group_content g).chunks (h.single grown) some refl
    where
      at : (ps : List (Placed T)) → length ps ≤ 1 → 1 ≤ length (flat ps) → (group_content g).chunks ≡ ps → HasOne g
      at [] l some e = absurd (omega (arith, some))
      at (p ∷ []) l some e = record { chunk = p; one = e }
      at (p ∷ q ∷ ps) l some e = absurd (omega (arith, l))

  -- the only chunk of a group, as chunks are walked
  pub record IsWalkedOne (g : PlacedGroup T) (p : Placed T) : Type 0 where
    pub start : p.start + g.start ≡ g.start
    pub turned : (group_content g).is_turned ≡ (content p).is_turned
    pub reach : (group_content g).reach ≡ (content p).reach
    pub ranges : map (shift g.start) (flat (group_content g).chunks) ≡ map (shift (p.start + g.start)) (content p).ranges

  pub walked_one : (g : PlacedGroup T) (p : Placed T) → IsGroup rules g.start (group_content g) → (group_content g).chunks ≡ p ∷ [] → IsWalkedOne g p
  walked_one g p h one =
      let rs = (content p).ranges in
      let are = subst (AreChunks rules) one h.chunks in
      let is : flat (group_content g).chunks ≡ map (shift p.start) rs = ap flat one ∙ append-nil (map (shift p.start) rs) in
      let zero : p.start ≡ 0 = begins rs are.0.1 are.0.0.first (sym (ap first_start is) ∙ h.first) in
      let far = h.reach ∙ (ap greatest_end is ∙ greatest_shifted p.start rs are.0.1) in
      let end = are.0.0.reach in
      record {
        start = omega (arith, zero);
        turned = h.turned ∙ (ap (list_any (is_turned rules)) is ∙ (turned_any rules p.start rs ∙ sym are.0.0.turned));
        reach = omega (arith, far, end, zero);
        ranges = sym (flat-moved g.start (group_content g).chunks) ∙ (ap (λ ps. flat (map (move g.start) ps)) one ∙ append-nil (map (shift (p.start + g.start)) rs));
      }
    where
      begins : (rs : List (Ranged T)) → 1 ≤ length rs → first_start rs ≡ 0 → first_start (map (shift p.start) rs) ≡ 0 → p.start ≡ 0
      begins [] some f e = absurd (omega (arith, some))
      begins (r ∷ rs) some f e = omega (arith, f, e)

  -- where changes affect a group of one chunk, they affect the chunk
  pub one_affected : (d : Sections) (whole : List (Ranged T)) (g : PlacedGroup T) (p : Placed T) (rest : List (Placed T)) (done run : List (Ranged T)) (reached : ℕ) (reps after : List ChangedRange) → IsWalkedOne g p
      → IsWalked rules d whole (move g.start p ∷ rest) done run reached reps → ((a b : ℕ) → g.start ≤ a → list_any (meets a b) after ≡ list_any (meets a b) reps)
      → ((group_content g).is_turned || list_any (meets g.start (g.start + (group_content g).reach)) after) ≡ true → true ≡ chunk_affected rules d (move g.start p)
  one_affected d whole g p rest done run reached reps after k h met e =
      let start = k.start in
      affected_same rules d whole (move g.start p) rest done run reached reps after h (λ a b m. met a b (omega (arith, start, m))) true
      (sym e
      ∙ (ap (λ t. t || list_any (meets g.start (g.start + (group_content g).reach)) after) k.turned
      ∙ (ap (λ n. (content p).is_turned || list_any (meets g.start (g.start + n)) after) k.reach
      ∙ ap (λ n. (content p).is_turned || list_any (meets n (n + (content p).reach)) after) (sym start))))
