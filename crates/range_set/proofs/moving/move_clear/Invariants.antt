use Rattle.std.proofs.Common.{length, map}
use Rattle.change_desc.specs.Sections.{old_size}
use Rattle.range_set.specs.PrivateChunks.{grow}
use Rattle.range_set.specs.PrivateMoving.{AreMoved, AreWithin}
use Rattle.range_set.proofs.moving.move_clear.Given as goal

abbrev pub invariant-loop-range : goal.invariant-loop-range
invariant-loop-range g l = record {
  within : AreWithin (old_size l.walk.walker.desc) l.start (map (grow l.grown) l.rest);
  moved : AreMoved g.T.RangeValue.rules l.walk.walker.desc l.start (map (grow l.grown) l.ranges) (map (grow l.grown) l.rest) l.fn.run.items l.run.items l.initial.mapped l.mapped;
}

abbrev pub decreases-loop-range : goal.decreases-loop-range
decreases-loop-range g l = length l.rest
