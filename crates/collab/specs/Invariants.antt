-- What holds between the authority, the clients and the messages of a world.
use Rattle.std.specs.Prelude.{◌≡◌, ℕ, ◌+◌, ◌<◌, ◌≤◌, ◌^◌, List, ◌++◌, length, take, drop, map, Some, slice_get}
use Rattle.collab.specs.declared.message.Message.{Message}
use Rattle.collab.specs.declared.message.Message.TheVariants.{Push, Updates}
use Rattle.collab.specs.declared.update.Update.{Update}
use Rattle.collab.specs.Updates.{numbers_of}
use Rattle.collab.specs.Authorities.{AuthorityView, IsAuthority, update_count, text_at, slice_of}
use Rattle.collab.specs.Clients.{ClientView, IsClient, Confirms}
use Rattle.collab.specs.Worlds.{WorldView, AreDistinct, ComeFrom}

-- A client keeps to an authority: it has seen its first updates, among these are the client's own that it counts as confirmed,
-- and those still to come in its name are its first unconfirmed ones.
pub record KeepsTo (a : AuthorityView) (c : ClientView) : Type 0 where
  pub client : IsClient c
  pub seen : c.version ≤ update_count a
  pub confirmed : c.confirmed ≡ text_at a c.version
  pub count : length (numbers_of c.name (take c.version a.updates)) + length c.pending ≡ c.made
  pub confirms : Confirms c (drop c.version a.updates)

-- A client sent updates at a version: at that version it still has them unconfirmed, and others after them.
pub record Sent (c : ClientView) (v : ℕ) (us : List Update) : Type 0 where
  pub version : v ≤ c.version
  pub same : c.version ≡ v → (more : List Update) × (c.pending ≡ us ++ more)

-- One of the clients sent a push.
pub record HasSender (clients : List ClientView) (sender : List ℕ) (v : ℕ) (us : List Update) : Type 0 where
  pub place : ℕ
  pub client : ClientView
  pub at : slice_get clients place ≡ Some client
  pub name : client.name ≡ sender
  pub sent : Sent client v us

-- Updates of the authority's list were published.
pub record IsPart (a : AuthorityView) (from : ℕ) (us : List Update) : Type 0 where
  pub within : from + length us ≤ update_count a
  pub same : us ≡ slice_of from (from + length us) a.updates

-- a message was sent
abbrev pub WasSent : WorldView → Message → Type 0
WasSent w (Push name v us) = HasSender w.clients name v us
WasSent w (Updates from us) = IsPart w.authority from us

-- What each world keeps.
pub record IsWorld (w : WorldView) : Type 0 where
  pub authority : IsAuthority w.authority
  pub clients : (i : ℕ) (c : ClientView) → slice_get w.clients i ≡ Some c → KeepsTo w.authority c
  pub names : AreDistinct (map (λ c. c.name) w.clients)
  pub senders : ComeFrom w.clients w.authority.updates
  pub messages : (i : ℕ) (m : Message) → slice_get w.messages i ≡ Some m → WasSent w m
  pub few : length w.messages < 2 ^ 32
