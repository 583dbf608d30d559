use Rattle.std.proofs.Common.{◌≡◌, ◌++◌, ◌∷◌, [], List, true, false, sym, ap, ◌∙◌}
use Rattle.pieces.specs.Styles.{same_style}
use Rattle.line_rows.specs.Run.{RunView}
use Rattle.line_rows.proofs.RunSteps.{same_run, next_run}
use Rattle.line_rows.proofs.runs.push_cell_run.Goals as goal

pub returns-in_ok-push : goal.returns-in_ok-push
returns-in_ok-push c =
    let same : same_style c.args.cell.now.style c.args.run.now.style ≡ true =
    ap (same_style c.args.cell.now.style) (sym c.style.ensures) ∙ sym c.same_style.ensures ∙ c.if-same_style.true in
    λ cells. ap (λ (rs : List RunView). c.args.runs.now.items ++ rs) (same_run c.args.run.now c.push.new.self c.args.cell.now cells same c.in_ok-push.ensures)

pub returns-in_ok-push-2 : goal.returns-in_ok-push-2
returns-in_ok-push-2 c =
    let other : same_style c.args.cell.now.style c.args.run.now.style ≡ false =
    ap (same_style c.args.cell.now.style) (sym c.style.ensures) ∙ sym c.same_style.ensures ∙ c.if-same_style.false in
    let adds : c.push-else-same_style.new.self.items ≡ c.args.runs.now.items ++ c.args.run.now ∷ [] =
    c.in_ok-push-2.ensures.items ∙ ap (λ (r : RunView). c.args.runs.now.items ++ r ∷ []) c.replace.ensures.value in
    λ cells. next_run c.args.run.now c.replace.new.dest c.args.cell.now cells c.args.runs.now.items _ other (c.replace.ensures.after ∙ c.in_ok-next.ensures) adds
