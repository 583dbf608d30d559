-- Facets and fields by their ids, and places of an order.
use Rattle.std.proofs.Common.{◌≡◌, ◌<◌, ◌≤◌, ◌+◌, ◌-◌, ◌∙◌, ◌∷◌, ◌++◌, ℕ, zero, suc, List, [], Option, None, Some, length, slice_get, drop, map, sum_by, All, ◌⊎◌, inl, inr, ap, subst, arith, ⊎_elim}
use Rattle.std.specs.Option.{option_and_then, option_flatten, option_map}
use Rattle.std.specs.List.{range_with_len}
use Rattle.std.proofs.lemmas.Option.{get_or_from_slice_get, slice_get_cases, slice_get-map, slice_get_within}
use Rattle.std.proofs.lemmas.List.{length-append}
use Rattle.std.proofs.lemmas.List.FromFn.{length-map-range_with_len}
use Rattle.std.proofs.lemmas.List.Sums.{sum_by-drop_more}
use Rattle.configuration.specs.declared.facet_def.FacetDef.{FacetDef}
use Rattle.configuration.specs.declared.vertex.Vertex.{Vertex}
use Rattle.configuration.specs.declared.vertex.Vertex.TheVariants.{Facet}
use Rattle.facet_slots.specs.Setups.{Setup, PresentFacet, inputs_at, facet_at, field_with, field_at}

module _ (setup : Setup) (f : ℕ) where
  -- a facet that is declared
  pub facet-found : f < length setup.defs.facets → (facet : PresentFacet) × (facet_at setup f ≡ Some facet)
  facet-found inside =
      ⊎_elim
      (λ found. (record { def = found.0; inputs = inputs_at setup f }, ap (option_map (λ (def : FacetDef). record { def = def; inputs = inputs_at setup f })) found.2))
      (λ past. absurd (omega (arith, past.0, inside))) ((slice_get_cases setup.defs.facets f).1)

  -- and one that is not
  pub facet-cases : (f < length setup.defs.facets) ⊎ ((length setup.defs.facets ≤ f) × (facet_at setup f ≡ None))
  facet-cases =
      ⊎_elim (λ found. inl found.1)
      (λ past. inr (past.0, ap (option_map (λ (def : FacetDef). record { def = def; inputs = inputs_at setup f })) past.1)) ((slice_get_cases setup.defs.facets f).1)

  pub field-cases : (f < length setup.config.fields) ⊎ ((length setup.config.fields ≤ f) × (field_at setup f ≡ None))
  field-cases =
      ⊎_elim (λ found. inl found.1)
      (λ past. inr (past.0, ap (λ (o : Option (Option ℕ)). option_and_then (field_with setup f) (option_flatten o)) past.1)) ((slice_get_cases setup.config.fields f).1)

-- places of two lists, one after the other
pub got-first : {X : Type 0} (xs ys : List X) (i : ℕ) (x : X) → slice_get xs i ≡ Some x → slice_get (xs ++ ys) i ≡ Some x
got-first [] ys i x e = cc
got-first (a ∷ xs) ys zero x e = e
got-first (a ∷ xs) ys (suc i) x e = got-first xs ys i x e

pub got-second : {X : Type 0} (xs ys : List X) (i n : ℕ) → n ≡ length xs + i → slice_get (xs ++ ys) n ≡ slice_get ys i
got-second [] ys i n e = let same : n ≡ i = omega (arith, e) in ap (slice_get ys) same
got-second (a ∷ xs) ys i zero e = absurd (omega (arith, e))
got-second (a ∷ xs) ys i (suc n) e = got-second xs ys i n (omega (arith, e))

-- a place of the numbers from one on
pub range-at : (from n k : ℕ) → k < n → slice_get (range_with_len from n) k ≡ Some (from + k)
range-at from zero k lt = absurd (omega (arith, lt))
range-at from (suc n) zero lt = let e : from ≡ from + 0 = omega arith in ap Some e
range-at from (suc n) (suc k) lt = let e : from + 1 + k ≡ from + suc k = omega arith in range-at (from + 1) n k (omega (arith, lt)) ∙ ap Some e

-- the facets that were declared since stand after others
pub place-since : (vertices : List Vertex) (first count i : ℕ) → length vertices ≤ i → i < length vertices + count
    → slice_get (vertices ++ map Facet (range_with_len first count)) i ≡ Some (Facet (first + (i - length vertices)))
place-since vertices first count i after inside =
    got-second vertices (map Facet (range_with_len first count)) (i - length vertices) i (omega (arith, after))
    ∙ slice_get-map Facet (range_with_len first count) (i - length vertices) ∙ ap (option_map Facet) (range-at first count (i - length vertices) (omega (arith, after, inside)))

-- how many vertices there are with them
pub length-since : (vertices : List Vertex) (first count : ℕ) → length (vertices ++ map Facet (range_with_len first count)) ≡ length vertices + count
length-since vertices first count =
    let both = length-append vertices (map Facet (range_with_len first count)) in
    let since = length-map-range_with_len Facet first count in
    omega (arith, both, since)

-- what is left to pay for, from a place on
pub sum-more : {X : Type 0} (f : X → ℕ) (xs : List X) (i : ℕ) (x : X) → slice_get xs i ≡ Some x → sum_by f (drop i xs) ≡ f x + sum_by f (drop (i + 1) xs)
sum-more f xs i x at = sum_by-drop_more f xs i x (slice_get_within xs i x at) ∙ ap (λ y. f y + sum_by f (drop (i + 1) xs)) (get_or_from_slice_get xs i x x at)

pub all-at : {X : Type 0} (P : X → Type 0) (xs : List X) (i : ℕ) (x : X) → slice_get xs i ≡ Some x → All P xs → P x
all-at P xs i x at all = subst P (get_or_from_slice_get xs i x x at) (all i x (slice_get_within xs i x at))
