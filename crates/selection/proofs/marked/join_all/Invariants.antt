use Rattle.std.proofs.Common.{◌≡◌, ◌++◌, drop}
use Rattle.selection.specs.Selections.{all_joined, joined_from}
use Rattle.selection.proofs.marked.join_all.Given as goal

abbrev pub invariant-loop-next : goal.invariant-loop-next
invariant-loop-next l = l.done.items ++ joined_from l.last (drop l.next-index l.rest) ≡ all_joined l.ranges
