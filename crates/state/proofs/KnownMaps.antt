-- The maps of effect kinds that are declared are numbers of maps that there are.
use Rattle.std.proofs.Common.{ℕ, suc, List, [], ◌∷◌, Option, None, Some, refl}
use Rattle.transaction.specs.Effects.{HasMaps}
use Rattle.values.specs.Rules.{Rules}
use Rattle.values.specs.Lawful.{AllAt, IsMap}

pub has-maps : (rules : Rules) (maps : List (Option ℕ)) → AllAt (IsMap rules) maps → HasMaps rules.effect_maps maps
has-maps rules [] h = tt
has-maps rules (None ∷ maps) h = has-maps rules maps (λ i x e. h (suc i) x e)
has-maps rules (Some number ∷ maps) h = (h 0 (Some number) refl, has-maps rules maps (λ i x e. h (suc i) x e))
