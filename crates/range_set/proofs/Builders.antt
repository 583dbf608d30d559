-- Builders of groups.
use Rattle.std.proofs.Common.{◌≡◌, ℕ, ◌+◌, ◌^◌, ◌<◌, ◌≤◌, List, [], ◌∷◌, ◌++◌, length, map, ◌∙◌, ap, sym, subst, arith, append_assoc}
use Rattle.std.proofs.lemmas.List.{append-nil, length-append}
use Rattle.range_set.specs.Rules.{RangeRules}
use Rattle.range_set.specs.PrivateChunks.{AreChunks, AreGroups, Ascend, IsGroup, flat, group_content, move, shift, spread}
use Rattle.range_set.specs.PrivateBuilders.{IsGroupBuilder, grouped}
use Rattle.range_set.specs.declared.chunk.Placed.{Placed}
use Rattle.range_set.specs.declared.group.PlacedGroup.{PlacedGroup}
use Rattle.range_set.specs.declared.group_builder.GroupBuilder.{GroupBuilder}
use Rattle.range_set.proofs.Chunks.{ascend-prefix, flat-append, length_shifted}
use Rattle.range_set.proofs.Groups.{flat-spread, flat-spread_append, length_moved}
use Rattle.range_set.proofs.Pages.{AreGroups-append}

module _ {T : Type 0} (rules : RangeRules T) where
  -- groups were put after those of a builder
  pub grown : (b new : GroupBuilder T) (gs : List (PlacedGroup T)) (count : ℕ) → IsGroupBuilder rules b → new.done ≡ b.done ++ gs → new.full ≡ b.full → new.len ≡ b.len + count → count ≡ length (flat (spread gs))
      → AreGroups rules gs → length (flat (grouped b)) + length (flat (spread gs)) < 2 ^ 64 → IsGroupBuilder rules new
  grown b new gs count h done full len is groups room =
      let n = ap (λ hs. length (flat (spread hs))) done ∙ (ap length (flat-spread_append b.done gs) ∙ length-append (flat (spread b.done)) (flat (spread gs))) in
      let k = h.len in
      record {
        groups = rw done (AreGroups-append rules b.done gs h.groups groups);
        full = rw full h.full;
        len = omega (arith, n, k, len, is);
        room = omega (arith, n, room);
      }

  one_group : (g : PlacedGroup T) → length (flat (spread (g ∷ []))) ≡ length (flat (group_content g).chunks)
  one_group g = ap length (flat-spread g []) ∙ (ap length (append-nil (map (shift g.start) (flat (group_content g).chunks))) ∙ length_shifted rules g.start (flat (group_content g).chunks))

  -- a group was put after those of a builder
  pub grown_one : (b new : GroupBuilder T) (g : PlacedGroup T) (count : ℕ) → IsGroupBuilder rules b → new.done ≡ b.done ++ g ∷ [] → new.full ≡ b.full → new.len ≡ b.len + count → count ≡ length (flat (group_content g).chunks)
      → IsGroup rules g.start (group_content g) → 1 ≤ length (flat (group_content g).chunks) → length (flat (grouped b)) + length (flat (group_content g).chunks) < 2 ^ 64 → IsGroupBuilder rules new
  grown_one b new g count h done full len is group some room =
      let n = one_group g in
      grown b new (g ∷ []) count h done full len (omega (arith, n, is)) ((group, some), tt) (omega (arith, n, room))

  -- a group has as many ranges as the chunks that it was made of
  pub made_length : (start : ℕ) (made chunks : List (Placed T)) → map (move start) made ≡ chunks → length (flat made) ≡ length (flat chunks)
  made_length start made chunks e = sym (length_moved rules start made) ∙ ap (λ ps. length (flat ps)) e

  chunks_left : (ps qs : List (Placed T)) → AreChunks rules (ps ++ qs) → AreChunks rules ps
  chunks_left [] qs h = tt
  chunks_left (p ∷ ps) qs h = (h.0, chunks_left ps qs h.1)

  chunks_right : (ps qs : List (Placed T)) → AreChunks rules (ps ++ qs) → AreChunks rules qs
  chunks_right [] qs h = h
  chunks_right (p ∷ ps) qs h = chunks_right ps qs h.1

  -- two parts of chunks that come after others in order: the first comes after these, and the second after both
  pub record AreCut (old left right : List (Placed T)) : Type 0 where
    pub first : AreChunks rules left
    pub first_room : length (flat old) + length (flat left) < 2 ^ 64
    pub first_order : Ascend 0 (flat (old ++ left))
    pub second : AreChunks rules right
    pub second_room : length (flat (old ++ left)) + length (flat right) < 2 ^ 64
    pub second_order : Ascend 0 (flat ((old ++ left) ++ right))

  pub are_cut : (old chunks left right : List (Placed T)) → left ++ right ≡ chunks → AreChunks rules chunks → length (flat old) + length (flat chunks) < 2 ^ 64 → Ascend 0 (flat (old ++ chunks)) → AreCut old left right
  are_cut old chunks left right e h room order =
      let all = subst (AreChunks rules) (sym e) h in
      let whole = subst (λ ps. Ascend 0 (flat ps)) (ap (λ ps. old ++ ps) (sym e) ∙ sym (append_assoc old left right)) order in
      let n = ap (λ ps. length (flat ps)) (sym e) ∙ (ap length (flat-append left right) ∙ length-append (flat left) (flat right)) in
      let k = ap length (flat-append old left) ∙ length-append (flat old) (flat left) in
      record {
        first = chunks_left left right all;
        first_room = omega (arith, n, room);
        first_order = ascend-prefix 0 (flat (old ++ left)) (flat right) (subst (Ascend 0) (flat-append (old ++ left) right) whole);
        second = chunks_right left right all;
        second_room = omega (arith, n, k, room);
        second_order = whole;
      }
