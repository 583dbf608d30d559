-- A registry stays one by what is lawful and a growth.
use Rattle.values.specs.Declarations.{Declarations}
use Rattle.values.specs.Growth.{IsGrowth}
use Rattle.values.specs.Lawful.{IsLawful}
use Rattle.values.specs.Rules.{Rules}
use Rattle.registry.specs.Predeclared.{predeclared}
use Rattle.registry.specs.PrivateRegistered.{IsRegistered}
use Rattle.registry.proofs.Providing.{grows-trans}

pub still-registered : (rules : Rules) (old new : Declarations) → IsRegistered rules old → IsLawful rules new → IsGrowth old new → IsRegistered rules new
still-registered rules old new h lawful grows = record { lawful = lawful; grown = grows-trans predeclared old new h.grown grows }
