use Rattle.change_desc.proofs.Walks.{walk-start}
use Rattle.change_desc.proofs.position_walker.PositionWalker.new.Goals as goal

pub invariant_of-result : goal.invariant_of-result
invariant_of-result c = rw c.as_slice.ensures (walk-start _ c.desc.invariant)
