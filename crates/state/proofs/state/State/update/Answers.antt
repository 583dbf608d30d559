use Rattle.std.proofs.Common.{subst, sym}
use Rattle.registry.specs.Predeclared.{predeclared}
use Rattle.facet_slots.specs.Agreement.{IsGrown}
use Rattle.facet_slots.specs.Lent.{definitions}
use Rattle.facet_slots.specs.Setups.{Definitions}
use Rattle.facet_slots.specs.Slotted.{Slotted}
use Rattle.facet_slots.proofs.Declared.{grown-same}
use Rattle.facet_slots.proofs.Grown.{grown-twice}
use Rattle.state.proofs.state.State.update.Goals as goal

pub returns-in-Ok-clause-updated : goal.returns-in-Ok-clause-updated
returns-in-Ok-clause-updated g c = rw (← c.self.view_is) c.in-Ok.ensures.updated

pub returns-in-Ok-clause-grown : goal.returns-in-Ok-clause-grown
returns-in-Ok-clause-grown g c =
    subst (λ (k : Definitions). IsGrown k (definitions c.args.registry.now)) (sym c.in-Ok.ensures.defs) (grown-same (definitions c.args.registry.now))

pub returns-in-Ok-clause-cost : goal.returns-in-Ok-clause-cost
returns-in-Ok-clause-cost g c = rw (← c.self.view_is) c.in-Ok.ensures.cost

pub returns-in-Ok-clause-paid : goal.returns-in-Ok-clause-paid
returns-in-Ok-clause-paid g c = rw (← c.self.view_is) c.updated.ensures.paid

pub returns-in-Err-clause-refused : goal.returns-in-Err-clause-refused
returns-in-Err-clause-refused g c = rw (← c.self.view_is) c.in-Err.ensures.refused

pub returns-in-Err-clause-paid : goal.returns-in-Err-clause-paid
returns-in-Err-clause-paid g c = rw (← c.self.view_is) c.updated.ensures.paid

pub invariant_of-result : goal.invariant_of-result
invariant_of-result g c =
    let d = c.args.registry.now in
    let grown : IsGrown c.self.inside.slots.setup.defs (definitions d) = subst (λ (v : Slotted). IsGrown v.setup.defs (definitions d)) (sym c.self.view_is) c.requires.grown in
    subst (IsGrown (definitions predeclared)) (sym c.in-Ok.ensures.defs) (grown-twice (definitions predeclared) c.self.inside.slots.setup.defs (definitions d) c.self.invariant grown)
