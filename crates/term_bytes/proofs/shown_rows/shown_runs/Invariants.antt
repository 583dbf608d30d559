use Rattle.std.proofs.Common.{◌≡◌, take, map}
use Rattle.term_bytes.specs.Shown.{shown_run}
use Rattle.term_bytes.proofs.shown_rows.shown_runs.Given as goal

abbrev pub invariant-loop-run : goal.invariant-loop-run
invariant-loop-run l = l.shown.items ≡ map shown_run (take l.run-index l.runs)
