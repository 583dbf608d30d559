use Rattle.std.proofs.Common.{sym}
use Rattle.registry.specs.Refusals.{Passes, compartment_refusals}
use Rattle.registry.proofs.Declaring.{compartment-passes, declare-compartment}
use Rattle.registry.proofs.Growing.{grows-compartment}
use Rattle.registry.proofs.Registering.{still-registered}
use Rattle.registry.proofs.registry.Registry.compartment.Goals as goal

pub invariant_of-self : goal.invariant_of-self
invariant_of-self g c =
    let e : Passes (compartment_refusals c.self.inside.parts) = compartment-passes c.self.inside.parts c.compartment_count-id.result c.compartment_count-id.ensures (sym c.in_default.ensures) in
    rw c.add_compartment.ensures (still-registered g.M.Meanings.rules c.self.inside.parts _ c.self.invariant (declare-compartment g.M.Meanings.rules c.self.inside.parts c.self.invariant.lawful e) (grows-compartment c.self.inside.parts))
