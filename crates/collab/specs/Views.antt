-- A client's value from its fields: for private clauses.
use Rattle.std.specs.Prelude.{ℕ, List}
use Rattle.collab.specs.declared.client.Client.TheInside.{Inside}
use Rattle.collab.specs.declared.update.Update.{Update}
use Rattle.collab.specs.Clients.{ClientView}

abbrev pub client_view : Inside → ClientView
client_view c = record { name = c.name; version = c.version; made = c.made; confirmed = c.confirmed.characters; pending = c.pending.items }

-- a client at a version with this text at it and these unconfirmed updates
abbrev pub at_version : ClientView → (version : ℕ) → (confirmed : List ℕ) → List Update → ClientView
at_version c version confirmed pending =
    record { name = c.name; version = version; made = c.made; confirmed = confirmed; pending = pending }
