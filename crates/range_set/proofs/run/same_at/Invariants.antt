use Rattle.std.proofs.Common.{◌≡◌, ◌↔◌, length, map}
use Rattle.range_set.specs.PrivateChunks.{Fit, grow, shift}
use Rattle.range_set.proofs.run.same_at.Given as goal

abbrev pub invariant-loop-a : goal.invariant-loop-a
invariant-loop-a g l = record {
  same : (map (shift l.left_start) (map (grow l.left_grown) l.a-iterator.a.rest.now) ≡ map (shift l.right_start) (map (grow l.right_grown) l.a-iterator.b.rest.now)) ↔ (map (shift l.left_start) (map (grow l.left_grown) l.left) ≡ map (shift l.right_start) (map (grow l.right_grown) l.right));
  left_fits : Fit (map (shift l.left_start) (map (grow l.left_grown) l.a-iterator.a.rest.now));
  right_fits : Fit (map (shift l.right_start) (map (grow l.right_grown) l.a-iterator.b.rest.now));
  as_many : length l.a-iterator.a.rest.now ≡ length l.a-iterator.b.rest.now;
}
