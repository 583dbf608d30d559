use Rattle.std.proofs.Common.{◌+◌, ℕ, length, ap, ◌∙◌}
use Rattle.cells.proofs.Layouts.{chars-from_bytes}
use Rattle.cursor_moves.proofs.Ends.{length-slice}
use Rattle.cursor_moves.proofs.stops.line_text.Goals as goal

pub returns-clause-value : goal.returns-clause-value
returns-clause-value c = chars-from_bytes c.in_ok-characters.characters _ c.in_ok-characters.ensures ∙ c.in_ok-part.ensures

pub returns-clause-count : goal.returns-clause-count
returns-clause-count c =
    let same = chars-from_bytes c.in_ok-characters.characters _ c.in_ok-characters.ensures ∙ c.in_ok-part.ensures in
    ap (λ cs. c.args.line.now.from + length cs) same ∙ length-slice c.args.line.now.from c.args.line.now.to c.args.text.now.characters c.requires.order c.requires.inside
