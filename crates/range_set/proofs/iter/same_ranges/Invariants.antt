use Rattle.std.proofs.Common.{◌↔◌, ◌≡◌, [], ◌++◌, length}
use Rattle.range_set.specs.PrivateChunks.{flat}
use Rattle.range_set.proofs.iter.same_ranges.Given as goal

abbrev pub invariant-loop-left : goal.invariant-loop-left
invariant-loop-left g l = record {
  same : (l.left_run ++ flat l.left ≡ l.right_run ++ flat l.right) ↔ (flat l.fn.left ≡ flat l.fn.right);
  none_left : l.left_run ≡ [] → flat l.left ≡ [];
  none_right : l.right_run ≡ [] → flat l.right ≡ [];
}

abbrev pub decreases-loop-left : goal.decreases-loop-left
decreases-loop-left g l = length (l.left_run ++ flat l.left)
