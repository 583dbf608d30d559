use Rattle.std.proofs.Common.{◌≡◌, drop}
use Rattle.facet_slots.specs.Flags.{same_outputs}
use Rattle.facet_slots.proofs.next.same_outputs.Given as goal

abbrev pub invariant-loop-value : goal.invariant-loop-value
invariant-loop-value g l = same_outputs g.M.Meanings.rules l.comparer (drop l.value-index l.old) l.rest ≡ same_outputs g.M.Meanings.rules l.comparer l.old l.new
