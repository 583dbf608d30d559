use Rattle.std.proofs.Common.{sym}
use Rattle.registry.proofs.Declaring.{declare-effect}
use Rattle.registry.proofs.Growing.{grows-effect}
use Rattle.registry.proofs.Registering.{still-registered}
use Rattle.registry.proofs.registry.Registry.effect.Goals as goal

pub invariant_of-self-2 : goal.invariant_of-self-2
invariant_of-self-2 g c = rw c.in_ok-add_effect.ensures.added (still-registered g.M.Meanings.rules c.self.inside.parts _ c.self.invariant (declare-effect g.M.Meanings.rules c.self.inside.parts c.self.invariant.lawful c.args.map (sym c.in_default.ensures)) (grows-effect c.self.inside.parts c.args.map))

pub returns-clause-grows : goal.returns-clause-grows
returns-clause-grows g c = rw (c.in_ok-add_effect.ensures.added, ← c.self.view_is) (grows-effect c.self.inside.parts c.args.map)
