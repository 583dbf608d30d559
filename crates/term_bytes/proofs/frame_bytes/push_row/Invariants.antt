use Rattle.std.proofs.Common.{◌≡◌, ◌++◌, drop}
use Rattle.std.specs.String.{string_bytes}
use Rattle.pieces.specs.Styles.{plain}
use Rattle.term_bytes.specs.Frame.{runs_from}
use Rattle.term_bytes.proofs.frame_bytes.push_row.Given as goal

abbrev pub invariant-loop-run : goal.invariant-loop-run
invariant-loop-run l = string_bytes l.out ++ runs_from l.before (drop l.run-index l.runs) ≡ string_bytes l.fn.out ++ runs_from plain l.runs
