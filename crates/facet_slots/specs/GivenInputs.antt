-- What the inputs of a facet give, however it is kept.
use Rattle.std.specs.Prelude.{List, [], ◌∷◌}
use Rattle.values.specs.declared.val.Val.{Val}
use Rattle.facet_slots.specs.declared.facet_inputs.Inputs.{Inputs}
use Rattle.facet_slots.specs.declared.facet_inputs.Inputs.TheVariants as inputs

-- the values of each input of a facet
abbrev pub given_inputs : Inputs → List (List Val)
given_inputs inputs.Empty = []
given_inputs (inputs.One vs) = vs ∷ []
given_inputs (inputs.Many vss) = vss.value.items
