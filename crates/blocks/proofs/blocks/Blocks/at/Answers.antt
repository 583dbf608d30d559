use Rattle.blocks.proofs.Finding.{ends_by, first_line, last_line, starts_by}
use Rattle.blocks.proofs.blocks.Blocks.at.Goals as goal

pub returns-clause-starts : goal.returns-clause-starts
returns-clause-starts c = starts_by _ _ _ _ _ c.args.pos c.line_at-line.result c.block_of_line.ensures.ends c.line_at-line.ensures.line c.block_of_line.ensures.starts c.line_at-line.ensures.starts

pub returns-clause-ends : goal.returns-clause-ends
returns-clause-ends c = ends_by _ _ _ _ _ c.args.pos c.line_at-line.result c.block_of_line.ensures.ends c.line_at-line.ensures.line c.block_of_line.ensures.stops c.line_at-line.ensures.ends

pub returns-clause-first : goal.returns-clause-first
returns-clause-first c = rw (← c.self.view_is) (first_line _ _ _ _ _ c.block_of_line.ensures.ends)

pub returns-clause-last : goal.returns-clause-last
returns-clause-last c = rw (← c.self.view_is) (last_line _ _ _ _ _ c.block_of_line.ensures.ends)
