-- How many of 1,000 points are mapped by themselves at most, where three characters are inserted after all of them, before all,
-- and in their middle.
use Rattle.std.specs.Prelude.{◌≡◌, ℕ, zero, suc, ◌+◌, true, pos, List, [], ◌∷◌, refl}
use Rattle.change_desc.specs.declared.section.Section.TheVariants.{Keep, Replace}
use Rattle.change_desc.specs.declared.map_mode.MapMode.TheVariants.{TrackDel}
use Rattle.range_set.specs.Rules.{RangeRules}
use Rattle.range_set.specs.Mapping.{Changes, most_mapped}
use Rattle.range_set.specs.declared.ranged.Ranged.{Ranged}

abbrev point_rules : RangeRules ℕ
point_rules = record { start_side = λ n. pos 1; end_side = λ n. pos 1; mode = λ n. TrackDel; is_point = λ n. true }

abbrev points_from : (place count : ℕ) → List (Ranged ℕ)
points_from place zero = []
points_from place (suc count) = record { from = place; to = place; value = count } ∷ points_from (place + 10) count

-- an insertion into a text of 20,000 characters
abbrev insertion_at : (before after : ℕ) → Changes
insertion_at before after = Keep before ∷ Replace 0 3 ∷ Keep after ∷ []

after_all : most_mapped point_rules (insertion_at 15000 5000) (points_from 10 1000) ≡ 0
after_all = refl

before_all : most_mapped point_rules (insertion_at 5 19995) (points_from 10 1000) ≡ 0
before_all = refl

in_the_middle : most_mapped point_rules (insertion_at 505 19495) (points_from 10 1000) ≡ 128
in_the_middle = refl
