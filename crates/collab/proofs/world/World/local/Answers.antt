use Rattle.collab.proofs.Outcomes.{local-outcome}
use Rattle.collab.proofs.world.World.local.Goals as goal

pub invariant_of-self : goal.invariant_of-self
invariant_of-self c =
    local-outcome _ c.args.client c.args.changes.now c.self.invariant c.change.result c.change.new.clients.items c.change.ensures.ok c.change.ensures.fits c.change.ensures.err
