-- What a registry keeps to. Private.
use Rattle.values.specs.Declarations.{Declarations}
use Rattle.values.specs.Growth.{IsGrowth}
use Rattle.values.specs.Lawful.{IsLawful}
use Rattle.values.specs.Rules.{Rules}
use Rattle.registry.specs.Predeclared.{predeclared}

-- registered: what is declared is lawful, and has grown from what is declared from the start
pub record IsRegistered (rules : Rules) (d : Declarations) : Type 0 where
  pub lawful : IsLawful rules d
  pub grown : IsGrowth predeclared d
