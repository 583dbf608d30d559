-- Groups and chunks that are shared one after another, each as far on as a place goes.
use Rattle.std.proofs.Common.{◌≡◌, ℕ, ◌+◌, ◌-◌, false, List, [], ◌∷◌, ◌++◌, map, sym, ap, ◌∙◌, append_assoc}
use Rattle.std.proofs.lemmas.List.{append-nil, map-append}
use Rattle.std.specs.List.{list_any}
use Rattle.change_desc.specs.Ranges.{meets}
use Rattle.change_desc.specs.declared.changed_range.ChangedRange.{ChangedRange}
use Rattle.range_set.specs.PrivateChunks.{AllChunksApart, AreChunksShared, AreShared, carry_chunk, content, flat, group_content, move, shift}
use Rattle.range_set.specs.declared.ranged.Ranged.{Ranged}
use Rattle.range_set.specs.declared.chunk.Placed.{Placed}
use Rattle.range_set.specs.declared.group.PlacedGroup.{PlacedGroup}
use Rattle.range_set.proofs.Chunks.{flat-append, flat-push}

module _ {T : Type 0} where
  -- one more group was put after chunks
  pub shared_group : (from to : ℕ) (changed : List ChangedRange) (gs : List (PlacedGroup T)) (g : PlacedGroup T) (others : List (PlacedGroup T)) (old new : List (Placed T)) → gs ≡ g ∷ others → (group_content g).is_turned ≡ false
      → list_any (meets from (g.start + (group_content g).reach)) changed ≡ false → new ≡ old ++ map (move (g.start - from + to)) (group_content g).chunks → AreShared from to changed gs others (flat old) (flat new)
  shared_group from to changed gs g others old new is t m e =
      let more = map (move (g.start - from + to)) (group_content g).chunks in record {
        taken = g ∷ [];
        is = is;
        apart = ((t, m), tt);
        ranges = ap flat e ∙ (flat-append old more ∙ ap (λ ps. flat old ++ flat ps) (sym (append-nil more)));
      }

  chunks_apart_more : (from : ℕ) (changed : List ChangedRange) (ps : List (Placed T)) (p : Placed T) → AllChunksApart from changed ps → (content p).is_turned ≡ false → list_any (meets from (p.start + (content p).reach)) changed ≡ false
      → AllChunksApart from changed (ps ++ p ∷ [])
  chunks_apart_more from changed [] p h t m = ((t, m), tt)
  chunks_apart_more from changed (q ∷ ps) p h t m = (h.0, chunks_apart_more from changed ps p h.1 t m)

  pub chunks_shared_more : (from to : ℕ) (changed : List ChangedRange) (ps : List (Placed T)) (p : Placed T) (others : List (Placed T)) (old mid new : List (Ranged T)) → AreChunksShared from to changed ps (p ∷ others) old mid
      → (content p).is_turned ≡ false → list_any (meets from (p.start + (content p).reach)) changed ≡ false → new ≡ mid ++ map (shift (p.start - from + to)) (content p).ranges → AreChunksShared from to changed ps others old new
  chunks_shared_more from to changed ps p others old mid new h t m e =
      let more = map (shift (p.start - from + to)) (content p).ranges in
      let before = flat (map (carry_chunk from to) h.taken) in
      record {
        taken = h.taken ++ p ∷ [];
        is = h.is ∙ sym (append_assoc h.taken (p ∷ []) others);
        apart = chunks_apart_more from changed h.taken p h.apart t m;
        ranges = e ∙ (ap (λ rs. rs ++ more) h.ranges
            ∙ (append_assoc old before more
            ∙ (ap (λ rs. old ++ rs) (sym (flat-push (map (carry_chunk from to) h.taken) (carry_chunk from to p)))
            ∙ ap (λ qs. old ++ flat qs) (sym (map-append (carry_chunk from to) h.taken (p ∷ []))))));
      }
