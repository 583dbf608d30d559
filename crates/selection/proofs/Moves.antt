-- Mapped ranges lie in the new document.
use Rattle.std.proofs.Common.{◌≡◌, ℕ, ◌≤◌, Bool, true, false, cond, ltb, refl, List, [], ◌∷◌, map, Option, Some, None, arith}
use Rattle.std.proofs.lemmas.Bool.Decides.{nat_tests}
use Rattle.std.specs.Prelude.{IfSome, unwrap_or}
use Rattle.change_desc.specs.declared.section.Section.{Section}
use Rattle.change_desc.specs.declared.map_mode.MapMode.TheVariants.{Simple}
use Rattle.change_desc.specs.Sections.{counted, new_size}
use Rattle.change_desc.specs.Places.{place_after}
use Rattle.change_desc.specs.Positions.{map_pos}
use Rattle.change_desc.proofs.Bounds.{map_pos-within}
use Rattle.selection.specs.declared.range.Range.{Range}
use Rattle.selection.specs.Ranges.{low, high, is_empty, is_backward, cursor, ordered_range, uncrossed, moved_range}
use Rattle.selection.specs.Selections.{LieIn}
use Rattle.selection.proofs.Normals.{high-ordered}

zero_within : (n : ℕ) (o : Option ℕ) → IfSome o (λ q. q ≤ n) → unwrap_or o 0 ≤ n
zero_within n (Some q) h = h
zero_within n None h = omega arith

place-inside : (s : List (Section ℕ)) (p : ℕ) (negative : Bool) → place_after s p negative ≤ new_size counted s
place-inside s p negative = zero_within (new_size counted s) (map_pos counted s p negative Simple) (map_pos-within s p negative Simple)

uncrossed-inside : (n from to : ℕ) (backward : Bool) → from ≤ n → to ≤ n → high (uncrossed from to backward) ≤ n
uncrossed-inside n from to backward h k = cases (ltb to from) refl
  where
    cases : (b : Bool) → ltb to from ≡ b → high (cond b (cursor to) (ordered_range from to backward)) ≤ n
    cases true e = omega (arith, k)
    cases false e = let l : from ≤ to = grind (arith, nat_tests) in omega (arith, high-ordered from to backward l, k)

moved-inside : (s : List (Section ℕ)) (r : Range) → high (moved_range s r) ≤ new_size counted s
moved-inside s r =
    let n = new_size counted s in
    elim (is_empty r) as (λ b. high (cond b (cursor (place_after s r.head true)) (uncrossed (place_after s (low r) false) (place_after s (high r) true) (is_backward r))) ≤ n)
    [ true ↦ omega (arith, place-inside s r.head true) | false ↦ uncrossed-inside n _ _ (is_backward r) (place-inside s (low r) false) (place-inside s (high r) true) ]

pub all_moved-inside : (s : List (Section ℕ)) (rs : List Range) → LieIn (new_size counted s) (map (moved_range s) rs)
all_moved-inside s [] = tt
all_moved-inside s (r ∷ rs) = (moved-inside s r, all_moved-inside s rs)
