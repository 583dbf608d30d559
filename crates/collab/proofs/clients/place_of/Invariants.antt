use Rattle.std.proofs.Common.{◌≡◌, drop, bytes_eq}
use Rattle.std.specs.List.{position_from}
use Rattle.collab.specs.Clients.{ClientView}
use Rattle.collab.proofs.clients.place_of.Given as goal

abbrev pub invariant-loop-index : goal.invariant-loop-index
invariant-loop-index l =
    position_from (λ (c : ClientView). bytes_eq l.name c.name) l.index (drop l.index l.clients) ≡ position_from (λ (c : ClientView). bytes_eq l.name c.name) 0 l.clients
