-- The ranges of a chunk, one after another.
use Rattle.std.proofs.Common.{◌≡◌, ℕ, zero, suc, ◌+◌, ◌^◌, ◌<◌, ◌≤◌, List, [], ◌∷◌, length, get_or, map, ap, sym, subst, arith}
use Rattle.std.proofs.lemmas.List.Elements.{All-cons, All-nil}
use Rattle.range_set.specs.Mapping.{EndWithin}
use Rattle.range_set.specs.Order.{AllForward}
use Rattle.range_set.specs.PrivateChunks.{Content, EndBy, IsChunk, greatest_end, grow, shift}
use Rattle.range_set.specs.Rules.{RangeRules}
use Rattle.range_set.proofs.Chunks.{end_by_greatest, not_less}
use Rattle.range_set.proofs.RangeOrder.{forward_at}
use Rattle.range_set.specs.declared.ranged.Ranged.{Ranged}

module _ {T : Type 0} where
  -- the first of some ranges begins at a place or before
  abbrev pub FirstBy : ℕ → List (Ranged T) → Type 0
  FirstBy a [] = ⊥
  FirstBy a (r ∷ rs) = r.from ≤ a

  pub first_from : (start a : ℕ) (items : List (Ranged T)) → FirstBy a (map (shift start) items) → start ≤ a
  first_from start a [] h = absurd h
  first_from start a (r ∷ items) h = omega (arith, h)

  -- each range lies in a text of this length
  abbrev pub Within : ℕ → List (Ranged T) → Type 0
  Within len [] = Unit {0}
  Within len (r ∷ rs) = ((r.from ≤ len) × (r.to ≤ len)) × Within len rs

  pub within : (len : ℕ) (rs : List (Ranged T)) → EndWithin len rs → Within len rs
  within len [] h = tt
  within len (r ∷ rs) h = (h 0 r (omega arith), within len rs (λ k d l. h (suc k) d (omega arith)))

  pub end_within : (len : ℕ) (rs : List (Ranged T)) → Within len rs → EndWithin len rs
  end_within len [] h = All-nil (λ (r : Ranged T). (r.from ≤ len) × (r.to ≤ len))
  end_within len (r ∷ rs) h = All-cons (λ (r : Ranged T). (r.from ≤ len) × (r.to ≤ len)) r rs h.0 (end_within len rs h.1)

  -- an element of a list of ranges, in the list of those that have grown
  pub grown_at : (by : ℕ) (rs : List (Ranged T)) (i : ℕ) (r : Ranged T) → i < length rs → r ≡ get_or rs i r → (i < length (map (grow by) rs)) × (grow by r ≡ get_or (map (grow by) rs) i (grow by r))
  grown_at by [] i r l e = absurd (omega arith)
  grown_at by (q ∷ rs) zero r l e = (omega arith, ap (grow by) e)
  grown_at by (q ∷ rs) (suc i) r l e = let k = grown_at by rs i r (omega arith) e in (omega (arith, k.0), k.1)

  forward_item : (items : List (Ranged T)) (i : ℕ) (r : Ranged T) → i < length items → r ≡ get_or items i r → AllForward items → r.from ≤ r.to
  forward_item items i r l e h = not_less r.to r.from (forward_at items i r l e h)

  end_item : (n : ℕ) (items : List (Ranged T)) (i : ℕ) (r : Ranged T) → i < length items → r ≡ get_or items i r → EndBy n items → r.to ≤ n
  end_item n [] i r l e h = absurd (omega arith)
  end_item n (q ∷ items) zero r l e h = subst (λ (x : Ranged T). x.to ≤ n) (sym e) h.0
  end_item n (q ∷ items) (suc i) r l e h = end_item n items i r (omega arith) e h.1

  pub item_fits : (rules : RangeRules T) (start : ℕ) (chunk : Content T) (i : ℕ) (r : Ranged T) → IsChunk rules start chunk → i < length chunk.ranges → r ≡ get_or chunk.ranges i r
      → (r.from + start < 2 ^ 32) × (r.to + start < 2 ^ 32)
  item_fits rules start chunk i r h l e =
      let k : greatest_end chunk.ranges ≤ chunk.reach = omega (arith, h.reach) in
      let t = end_item chunk.reach chunk.ranges i r l e (end_by_greatest chunk.ranges chunk.reach k) in
      let f = forward_item chunk.ranges i r l e h.forward in
      let s = h.fits in
      (omega (arith, t, f, s), omega (arith, t, s))
