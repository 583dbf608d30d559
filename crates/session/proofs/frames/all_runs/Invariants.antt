use Rattle.std.proofs.Common.{◌≡◌, take, map}
use Rattle.line_rows.specs.Run.{runs_of}
use Rattle.screen.specs.Screen.{row_cells}
use Rattle.session.specs.Frames.{items_of}
use Rattle.session.proofs.frames.all_runs.Given as goal

abbrev pub invariant-loop-row : goal.invariant-loop-row
invariant-loop-row l = map items_of l.all.items ≡ map runs_of (map row_cells (take l.row-index l.rows))
