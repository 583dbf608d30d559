-- Effects whose kinds have pairs. Private.
use Rattle.std.specs.Prelude.{ℕ, Bool, false, is_some, List, Option}
use Rattle.transaction.specs.declared.effect.Effect.{Effect}
use Rattle.transaction.specs.declared.effect.Effect.TheVariants.{Kind}
use Rattle.transaction.specs.Effects.{map_of}

-- the effect's kind has a pair
abbrev pub has_pair : {V : Type 0} → List (Option ℕ) → Effect V → Bool
has_pair pairs (Kind id value) = is_some (map_of pairs id)
has_pair pairs effect = false
