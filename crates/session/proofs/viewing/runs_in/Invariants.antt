use Rattle.std.proofs.Common.{◌≡◌, take, map}
use Rattle.screen.specs.Screen.{row_cells}
use Rattle.term_bytes.specs.Shown.{shown_row}
use Rattle.session.proofs.viewing.runs_in.Given as goal

abbrev pub invariant-loop-row : goal.invariant-loop-row
invariant-loop-row l = l.shown.items ≡ map shown_row (map row_cells (take l.row-index l.rows))
