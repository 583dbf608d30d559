use Rattle.std.proofs.Common.{◌≡◌, ◌≤◌, take}
use Rattle.line_rows.specs.Run.{trimmed}
use Rattle.line_rows.proofs.runs.trimmed_len.Given as goal

abbrev pub invariant-loop-i : goal.invariant-loop-i
invariant-loop-i l = record {
  within : l.len ≤ l.i;
  value : take l.len l.cells ≡ trimmed (take l.i l.cells);
}
