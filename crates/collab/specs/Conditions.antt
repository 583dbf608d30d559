-- What is asked of an event.
use Rattle.std.specs.Prelude.{◌≡◌, ℕ, ◌+◌, ◌<◌, ◌≤◌, ◌^◌, List, length, Option, Some, None, slice_get}
use Rattle.collab.specs.declared.event.Event.{Event}
use Rattle.collab.specs.declared.event.Event.TheVariants.{Local, Send, Publish, Deliver}
use Rattle.collab.specs.declared.message.Message.{Message}
use Rattle.collab.specs.declared.message.Message.TheVariants.{Push, Updates}
use Rattle.collab.specs.Authorities.{update_count}
use Rattle.collab.specs.Clients.{ClientView}
use Rattle.collab.specs.Worlds.{WorldView}

-- the client that a message is delivered to, if one is named, exists
abbrev pub Exists : Option ℕ → List ClientView → Type 0
Exists None clients = Unit {0}
Exists (Some i) clients = i < length clients

-- The client and the message of an event exist, and what it publishes is of the authority's list.
abbrev pub IsEventOf : WorldView → Event → Type 0
IsEventOf w (Local i changes) = i < length w.clients
IsEventOf w (Send i) = i < length w.clients
IsEventOf w (Publish from to) = (from ≤ to) × (to ≤ update_count w.authority)
IsEventOf w (Deliver m to) = (m < length w.messages) × Exists to w.clients

-- a client that makes a local change made fewer than can be counted
abbrev pub HasNumber : Option ClientView → Type 0
HasNumber None = Unit {0}
HasNumber (Some c) = c.made + 1 < 2 ^ 32

-- the authority takes no more updates of a message than can be counted
abbrev pub HasPlaces : Option Message → WorldView → Type 0
HasPlaces None w = Unit {0}
HasPlaces (Some (Push name v updates)) w = v ≡ update_count w.authority → v + length updates < 2 ^ 32
HasPlaces (Some (Updates from updates)) w = Unit {0}

-- There are still fewer than 2 ^ 32 updates, messages and local changes of each client after an event.
abbrev pub HasRoom : WorldView → Event → Type 0
HasRoom w (Local i changes) = HasNumber (slice_get w.clients i)
HasRoom w (Send i) = length w.messages + 1 < 2 ^ 32
HasRoom w (Publish from to) = length w.messages + 1 < 2 ^ 32
HasRoom w (Deliver m to) = HasPlaces (slice_get w.messages m) w

-- what is asked of an event
pub record CanHappen (w : WorldView) (e : Event) : Type 0 where
  pub is_of : IsEventOf w e
  pub room : HasRoom w e
