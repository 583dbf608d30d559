use Rattle.cm_outside.specs.Files.{found_bytes}
use Rattle.session.specs.Filing.{opened}
use Rattle.session.specs.State.{plain_session}
use Rattle.session.proofs.session.Session.open_found.Goals as goal

pub returns : goal.returns
returns g c =
    c.settle.ensures (opened g.M.Meanings.rules (plain_session c.args.self.now) c.args.name.now c.args.base.now (found_bytes c.args.found)) c.opened-outcome.ensures.done
