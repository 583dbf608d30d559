use Rattle.std.proofs.Common.{sym, arith}
use Rattle.line_tree.proofs.LineOf.{line_numbered, place_in_line}
use Rattle.line_tree.proofs.text.Text.line_at.Goals as goal

pub returns-clause-line : goal.returns-clause-line
returns-clause-line c =
    line_numbered c.args.self.now.characters _ _ _ _ (omega (arith, c.from.ensures)) c.line_start.ensures c.line_end.ensures

pub returns-clause-starts : goal.returns-clause-starts
returns-clause-starts c = (place_in_line c.args.self.now.characters _ _ _ c.args.pos c.line_start.ensures c.line_end.ensures c.requires (sym c.breaks_before-breaks.ensures)).0

pub returns-clause-ends : goal.returns-clause-ends
returns-clause-ends c = (place_in_line c.args.self.now.characters _ _ _ c.args.pos c.line_start.ensures c.line_end.ensures c.requires (sym c.breaks_before-breaks.ensures)).1
