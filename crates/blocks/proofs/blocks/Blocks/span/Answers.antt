use Rattle.blocks.proofs.Finding.{ends_order, first_line, last_line}
use Rattle.blocks.proofs.blocks.Blocks.span.Goals as goal

pub returns-clause-order : goal.returns-clause-order
returns-clause-order c = ends_order _ _ _ _ _ c.numbered_block.ensures.ends c.numbered_block.ensures.order

pub returns-clause-first : goal.returns-clause-first
returns-clause-first c = rw (← c.self.view_is) (first_line _ _ _ _ _ c.numbered_block.ensures.ends)

pub returns-clause-last : goal.returns-clause-last
returns-clause-last c = rw (← c.self.view_is) (last_line _ _ _ _ _ c.numbered_block.ensures.ends)
