use Rattle.registry.proofs.Starting.{starts-registered}
use Rattle.registry.proofs.registry.Registry.started.Goals as goal

pub invariant_of-result : goal.invariant_of-result
invariant_of-result g c = rw c.requires (starts-registered g.M.Meanings.rules g.met.M.Meanings.keeps)
