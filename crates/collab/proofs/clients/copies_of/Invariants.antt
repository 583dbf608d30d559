use Rattle.std.proofs.Common.{◌≡◌, take}
use Rattle.collab.proofs.clients.copies_of.Given as goal

abbrev pub invariant-loop-client : goal.invariant-loop-client
invariant-loop-client l = l.all.items ≡ take l.client-index l.clients
