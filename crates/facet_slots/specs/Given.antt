-- What an input gives, however it is kept.
use Rattle.std.specs.Prelude.{List, [], ◌∷◌}
use Rattle.values.specs.declared.val.Val.{Val}
use Rattle.facet_slots.specs.declared.input_values.Given.{Given}
use Rattle.facet_slots.specs.declared.input_values.Given.TheVariants as given

-- the values of one input
abbrev pub given_values : Given → List Val
given_values (given.One v) = v ∷ []
given_values (given.Many vs) = vs
