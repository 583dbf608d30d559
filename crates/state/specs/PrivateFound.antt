-- What is found of a configuration after effects.
use Rattle.std.specs.Prelude.{◌≡◌, List, true, false, Option, None, Some}
use Rattle.configuration.specs.Config.{ConfigView}
use Rattle.transaction.specs.declared.effect.Effect.{Effect}
use Rattle.values.specs.declared.val.Val.{Val}
use Rattle.values.specs.Declarations.{Declarations}
use Rattle.state.specs.Reconfigured.{configures, extensions_after, extensions_of, IsConfigOf}

-- none where no effect is on the configuration, else what the extensions come to
abbrev pub IsConfigFound : Declarations → ConfigView → List (Effect Val) → Option ConfigView → Type 0
IsConfigFound d old effects None = configures effects ≡ false
IsConfigFound d old effects (Some config) = (configures effects ≡ true) × IsConfigOf d (extensions_after (extensions_of old) effects) config
