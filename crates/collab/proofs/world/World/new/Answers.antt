use Rattle.collab.proofs.Worlds.{begun_is, converges}
use Rattle.collab.proofs.world.World.new.Goals as goal

pub invariant_of-result : goal.invariant_of-result
invariant_of-result c =
    begun_is c.args.text.characters c.args.names.items c.in_ok-authority.authority c.in_ok-clients.clients.items c.new-2.result.items c.requires.short c.requires.names
    c.in_ok-authority.ensures c.in_ok-clients.ensures c.new-2.ensures.items

pub returns-clause-converges : goal.returns-clause-converges
returns-clause-converges c =
    converges _
    (begun_is c.args.text.characters c.args.names.items c.in_ok-authority.authority c.in_ok-clients.clients.items c.new-2.result.items c.requires.short c.requires.names
    c.in_ok-authority.ensures c.in_ok-clients.ensures c.new-2.ensures.items)
