-- A made workload: its lines are answered in order, and the reply to the last of them alone is written.
--
-- Read on: `Ran` (made_run/specs/Run.antt: what the sink holds and what the session and the files are under each status, why it
-- came, and when a run ends `Ok`), `made_lines` (workload/specs/MadeLines.antt: the lines), and `machine` (Transcript.antt: what a
-- line does, and the reply to it).
use Rattle.std.specs.Prelude.{ℕ}
use Rattle.cm_outside.specs.Sink.{SinkTold}
use Rattle.cm_outside.specs.declared.status.Status.{Status}
use Rattle.made_run.specs.Run.{Ran}
use Rattle.values.specs.Rules.{Rules}
use Rattle.session.specs.State.{PlainSession, fresh}
use Rattle.session.specs.Stores.{StoreTold, desk_told}
use Rattle.session.specs.Transcript.{machine}

-- A made workload of `count` transactions, answered by the plain session from its start, ended with this status; another session
-- stands after it, with the files.
abbrev pub Made : Rules → (count : ℕ) → Status → (sink sink_now : SinkTold) → (store store_now : StoreTold) → Type 0
Made rules count status sink sink_now store store_now =
    (last : PlainSession) × Ran (machine rules) count (desk_told fresh store) (desk_told last store_now) status sink sink_now
