use Rattle.std.proofs.Common.{◌≡◌, length}
use Rattle.history.specs.Histories.{leads}
use Rattle.history.proofs.items.Items.leads.Given as goal

abbrev pub invariant-loop-item : goal.invariant-loop-item
invariant-loop-item l = leads l.len l.rest ≡ leads l.len l.self

abbrev pub decreases-loop-item : goal.decreases-loop-item
decreases-loop-item l = length l.rest
