use Rattle.line_rows.specs.Run.{cell_text}
use Rattle.line_rows.proofs.RunSteps.{text_more}
use Rattle.line_rows.proofs.runs.Run.push.Goals as goal

pub returns : goal.returns
returns c =
    let more = text_more c.self.inside.text c.push_cell.new.text (cell_text c.args.cell.now.cell) c.in_ok-push_cell.ensures in
    rw (← c.self.view_is) (λ i. record { text = more i; style = c.self.inside.style })
