use Rattle.std.proofs.Common.{reverse}
use Rattle.ext_tree.specs.Unfolding.{unfolding_of}
use Rattle.ext_tree.specs.Walks.{IsWalk, IsMarked, walk_to_do}
use Rattle.ext_tree.proofs.walk.walk_from.Given as goal

abbrev pub invariant-loop-task : goal.invariant-loop-task
invariant-loop-task l = record {
  walk : IsWalk l.tree (unfolding_of l.tree l.roots) (reverse l.walk.tasks.items) l.walk;
  marked : IsMarked l.tree l.walk;
}

abbrev pub decreases-loop-task : goal.decreases-loop-task
decreases-loop-task l = walk_to_do l.tree (reverse l.walk.tasks.items) l.walk
