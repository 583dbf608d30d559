use Rattle.std.proofs.Common.{ap}
use Rattle.cm_outside.specs.Progress.{Progress}
use Rattle.key_run.proofs.Whole.{at_limit, nothing_done}
use Rattle.key_run.proofs.run.run_keys.Goals as goal

pub returns-in-Ok : goal.returns-in-Ok
returns-in-Ok g c =
    let run = c.answer_all.ensures in
    at_limit _ _ _ _ _ _ _ c.in-Ok.bytes.limit (ap (λ (p : Progress). p.limit) c.in-Ok.ensures) (record {
      ended = run.ended;
      reason = run.reason;
      gave = run.gave;
      complete = run.complete;
      clock = run.clock;
      later = record { given = run.later.0; source_faults = run.later.1; sink_faults = run.later.2 };
      store_later = run.later.3;
    })

pub returns-in-Err : goal.returns-in-Err
returns-in-Err g c = nothing_done _ _ _ _ _ _
