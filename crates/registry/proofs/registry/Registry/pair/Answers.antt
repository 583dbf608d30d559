use Rattle.std.proofs.Common.{sym}
use Rattle.registry.proofs.Declaring.{pair-within}
use Rattle.registry.proofs.Growing.{grows-pair}
use Rattle.registry.proofs.Lawfulness.{lawful-pair}
use Rattle.registry.proofs.Pairs.{can-pair}
use Rattle.registry.proofs.Registering.{still-registered}
use Rattle.registry.proofs.registry.Registry.pair.Goals as goal

pub pair-requires-clause-effect : goal.pair-requires-clause-effect
pair-requires-clause-effect g c = (pair-within g.M.Meanings.rules c.self.inside.parts c.self.invariant.lawful c.args.effect c.args.back (sym c.in_default.ensures)).0

pub pair-requires-clause-back : goal.pair-requires-clause-back
pair-requires-clause-back g c = (pair-within g.M.Meanings.rules c.self.inside.parts c.self.invariant.lawful c.args.effect c.args.back (sym c.in_default.ensures)).1

pub invariant_of-self : goal.invariant_of-self
invariant_of-self g c = rw c.pair.ensures (still-registered g.M.Meanings.rules c.self.inside.parts _ c.self.invariant (lawful-pair g.M.Meanings.rules c.self.inside.parts c.self.invariant.lawful c.args.effect c.args.back (can-pair c.self.inside.parts c.args.effect c.args.back (sym c.in_default.ensures))) (grows-pair c.self.inside.parts c.args.effect c.args.back (can-pair c.self.inside.parts c.args.effect c.args.back (sym c.in_default.ensures))))

pub returns-clause-grows : goal.returns-clause-grows
returns-clause-grows g c = rw (c.pair.ensures, ← c.self.view_is) (grows-pair c.self.inside.parts c.args.effect c.args.back (can-pair c.self.inside.parts c.args.effect c.args.back (sym c.in_default.ensures)))
