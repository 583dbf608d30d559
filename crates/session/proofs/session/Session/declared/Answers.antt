use Rattle.session.proofs.Settling.{state_stands}
use Rattle.session.proofs.session.Session.declared.Goals as goal

pub invariant_of-self : goal.invariant_of-self
invariant_of-self g c =
    state_stands c.self.inside.names c.declare.new.names c.self.inside.registry c.declare.new.registry c.self.inside.count c.self.inside.window c.self.inside.state c.declare.ensures.grows c.self.invariant
