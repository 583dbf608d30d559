-- The numbers and the depth of the items of a list, one item at a time, and the ends of the ranges of a set.
use Rattle.std.proofs.Common.{◌≡◌, ℕ, zero, suc, ◌+◌, ◌<◌, ◌≤◌, true, ◌&&◌, refl, List, [], ◌∷◌, ◌++◌, length, get_or, take, map, ◌∙◌, ap, arith}
use Rattle.std.proofs.lemmas.List.{take_more}
use Rattle.std.proofs.lemmas.Grind.{common_steps}
use Rattle.std.proofs.lemmas.Bool.Decides.{nat_tests}
use Rattle.std.specs.Prelude.{leb}
use Rattle.range_set.specs.Mapping.{EndWithin}
use Rattle.range_set.specs.declared.ranged.Ranged.{Ranged}
use Rattle.decoration.specs.declared.deco.Deco.{Deco}
use Rattle.cm_plain.specs.Datum.{data_of, depth, deepest}
use Rattle.cm_plain.specs.Plain.{datum_of}
use Rattle.cm_plain.specs.declared.plain.Plain.{Plain}
use Rattle.values.specs.InRange.{data_in_range, datum_in_range, max_u32, set_in_range}

in_range-push : (ps : List Plain) (p : Plain) → data_in_range (data_of (map datum_of (ps ++ p ∷ []))) ≡ (data_in_range (data_of (map datum_of ps)) && datum_in_range (datum_of p))
in_range-push [] p = grind (arith, common_steps)
in_range-push (q ∷ ps) p = let e = in_range-push ps p in grind (arith, common_steps)

pub in_range-more : (ps : List Plain) (i : ℕ) (d : Plain) → i < length ps → data_in_range (data_of (map datum_of (take (i + 1) ps))) ≡ (data_in_range (data_of (map datum_of (take i ps))) && datum_in_range (datum_of (get_or ps i d)))
in_range-more ps i d h = ap (λ x. data_in_range (data_of (map datum_of x))) (take_more ps i d h) ∙ in_range-push (take i ps) (get_or ps i d)

pub item-depth : (ps : List Plain) (i : ℕ) (d : Plain) → i < length ps → depth (datum_of (get_or ps i d)) ≤ deepest (data_of (map datum_of ps))
item-depth [] i d h = absurd (omega arith)
item-depth (p ∷ ps) zero d h = omega arith
item-depth (p ∷ ps) (suc i) d h = let e = item-depth ps i d (omega arith) in omega (arith, e)

ends_within : (a b : ℕ) → a ≤ 4294967295 → b ≤ 4294967295 → (leb a max_u32 && leb b max_u32) ≡ true
ends_within a b h k = grind (arith, nat_tests)

pub set_within : (rs : List (Ranged Deco)) → EndWithin 4294967295 rs → set_in_range rs ≡ true
set_within [] h = refl
set_within (r ∷ rs) h =
    let here = h 0 r (omega arith) in
    rw (ends_within r.from r.to here.0 here.1) (set_within rs (λ k d l. h (suc k) d (omega arith)))
