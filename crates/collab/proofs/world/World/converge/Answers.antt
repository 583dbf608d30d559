use Rattle.std.proofs.Common.{subst}
use Rattle.collab.specs.Converging.{Converges}
use Rattle.collab.proofs.Worlds.{converges}
use Rattle.collab.proofs.world.World.converge.Goals as goal

pub returns : goal.returns
returns c = subst Converges c.self.view_is (converges _ c.self.invariant)
