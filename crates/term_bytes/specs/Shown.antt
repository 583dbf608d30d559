-- Rows as a reply has them.
use Rattle.std.specs.Prelude.{List, map}
use Rattle.line_rows.specs.Run.{RunView, runs_of}
use Rattle.line_rows.specs.declared.rows.StyledCell.{StyledCell}
use Rattle.replies.specs.declared.shown_screen.ShownRun.{ShownRun}
use Rattle.term_bytes.specs.Frame.{separated_codes}

-- a run: its text, and the codes of its style
abbrev pub shown_run : RunView → ShownRun
shown_run run = record { text = run.text; codes = separated_codes run.style }

-- a row: the runs of its cells
abbrev pub shown_row : List StyledCell → List ShownRun
shown_row cells = map shown_run (runs_of cells)
