use Rattle.std.proofs.Common.{◌≡◌, map}
use Rattle.collab.specs.Clients.{joined}
use Rattle.collab.proofs.clients.joined.Given as goal

abbrev pub invariant-loop-name : goal.invariant-loop-name
invariant-loop-name l = l.clients.items ≡ map (λ name. joined name l.text.characters) l.yielded
