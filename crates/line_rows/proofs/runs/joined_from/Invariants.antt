use Rattle.std.proofs.Common.{◌≡◌, ◌++◌, drop}
use Rattle.line_rows.specs.Run.{joined_from, run_of}
use Rattle.line_rows.proofs.runs.joined_from.Given as goal

abbrev pub invariant-loop-cell : goal.invariant-loop-cell
invariant-loop-cell l = l.runs.items ++ joined_from l.run (drop l.cell-index l.rest) ≡ joined_from (run_of l.first) l.rest
