-- What a step may rely on in the configuration that was found after effects.
use Rattle.std.specs.Prelude.{Option, None, Some}
use Rattle.configuration.specs.Config.{ConfigView}
use Rattle.values.specs.Declarations.{Declarations}
use Rattle.state.specs.declared.extensions.Extensions.{Extensions}
use Rattle.state.specs.Reconfigured.{IsConfigOf}

-- what was found is what some extensions come to
abbrev pub IsEntered : Declarations → Option ConfigView → Type 0
IsEntered d None = Unit {0}
IsEntered d (Some config) = (e : Extensions) × IsConfigOf d e config
