-- What holds of a configuration over definitions holds of it over a copy of them.
use Rattle.std.proofs.Common.{◌≡◌, subst, sym}
use Rattle.configuration.specs.Config.{ConfigView}
use Rattle.values.specs.Shipped.{shipped}
use Rattle.facet_slots.specs.Lawful.{IsLawful}
use Rattle.facet_slots.specs.Resolving.{IsResolved}
use Rattle.facet_slots.specs.Setups.{Definitions}

pub resolved-shared : (declared shared : Definitions) (config : ConfigView) → shared ≡ declared → IsResolved (record { defs = declared; config = config }) → IsResolved (record { defs = shared; config = config })
resolved-shared declared shared config same is = subst (λ (k : Definitions). IsResolved (record { defs = k; config = config })) (sym same) is

pub lawful-shared : (declared shared : Definitions) (config : ConfigView) → shared ≡ declared → IsLawful shipped (record { defs = declared; config = config }) → IsLawful shipped (record { defs = shared; config = config })
lawful-shared declared shared config same is = subst (λ (k : Definitions). IsLawful shipped (record { defs = k; config = config })) (sym same) is
