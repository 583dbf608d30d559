use Rattle.cursor_moves.proofs.Lines.{line_of-is}
use Rattle.cursor_moves.proofs.places.line_of.Goals as goal

pub returns-clause-value : goal.returns-clause-value
returns-clause-value c = line_of-is c.args.text.now.characters c.args.place c.line_at.result c.line_at.ensures.line c.line_at.ensures.starts c.line_at.ensures.ends
