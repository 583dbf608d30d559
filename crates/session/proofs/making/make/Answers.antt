use Rattle.std.proofs.Common.{sym}
use Rattle.made_run.proofs.LastReplies.{nothing_done}
use Rattle.session.specs.State.{fresh, plain_session}
use Rattle.session.proofs.making.make.Goals as goal

pub returns-in_default : goal.returns-in_default
returns-in_default g c = (fresh, nothing_done _ _ _ _)

pub returns : goal.returns
returns g c = rw (sym c.in-Ok.ensures) (plain_session c.run_workload.new.answers, c.run_workload.ensures)
