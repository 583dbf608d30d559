use Rattle.std.proofs.Common.{ℕ, refl, subst, sym}
use Rattle.values.specs.Shipped.{shipped}
use Rattle.values.specs.InRange.{IsInRange}
use Rattle.values.specs.Vals.{IsOf}
use Rattle.kit_cases.proofs.kit.updates.Goals as goal

pub call-requires-clause-fits : goal.call-requires-clause-fits
call-requires-clause-fits g c =
    subst (λ (n : ℕ). IsOf (shipped.update_shape n) c.int-one.result) (sym c.updater.ensures.number) (subst (λ v. IsOf (shipped.update_shape 2) v) (sym c.int-one.ensures) (record { shape = refl; range = subst (λ v. IsInRange v) c.int-one.ensures c.known.ensures }))
