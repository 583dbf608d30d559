use Rattle.session.specs.State.{plain_session}
use Rattle.session.proofs.editing.typed.Goals as goal

pub returns : goal.returns
returns g c = (plain_session c.run_keys.new.answers.session, c.run_keys.ensures)
