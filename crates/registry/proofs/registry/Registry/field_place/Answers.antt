use Rattle.std.proofs.Common.{ℕ, List, sym, subst}
use Rattle.registry.specs.Refusals.{Passes, place_refusals}
use Rattle.registry.proofs.Declaring.{declare-place, place-unplaced}
use Rattle.registry.proofs.Growing.{grows-placed}
use Rattle.registry.proofs.Registering.{still-registered}
use Rattle.registry.proofs.registry.Registry.field_place.Goals as goal

pub invariant_of-self-2 : goal.invariant_of-self-2
invariant_of-self-2 g c =
    let d = c.self.inside.parts in
    let e : Passes (place_refusals d c.args.field c.args.provides) =
    subst (λ (ids : List ℕ). Passes (place_refusals d c.args.field ids)) c.ids.ensures (sym c.in_default.ensures) in
    rw c.in_ok-id.ensures.placed (still-registered g.M.Meanings.rules d _ c.self.invariant (declare-place g.M.Meanings.rules d c.self.invariant.lawful c.args.field c.args.provides e) (grows-placed d c.args.field c.args.provides (place-unplaced g.M.Meanings.rules d c.self.invariant.lawful c.args.field c.args.provides e)))

pub returns-clause-grows : goal.returns-clause-grows
returns-clause-grows g c =
    let d = c.self.inside.parts in
    let e : Passes (place_refusals d c.args.field c.args.provides) =
    subst (λ (ids : List ℕ). Passes (place_refusals d c.args.field ids)) c.ids.ensures (sym c.in_default.ensures) in
    rw (c.in_ok-id.ensures.placed, ← c.self.view_is) (grows-placed d c.args.field c.args.provides (place-unplaced g.M.Meanings.rules d c.self.invariant.lawful c.args.field c.args.provides e))
