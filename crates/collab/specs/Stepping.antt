-- What an event does to a world.
use Rattle.std.specs.Prelude.{ℕ, Bool, true, false, List, length, Option, Some, None, slice_get, option_map, option_and_then}
use Rattle.line_tree.specs.Text.{max_len}
use Rattle.change_desc.specs.Sections.{Sections, spelled}
use Rattle.change_desc.specs.Of.{of}
use Rattle.change_set.specs.declared.change.Change.{Change}
use Rattle.change_set.specs.Changes.{as_sets}
use Rattle.change_set.specs.Refusals.{refusal}
use Rattle.collab.specs.declared.error.CollabError.{CollabError}
use Rattle.collab.specs.declared.event.Event.{Event}
use Rattle.collab.specs.declared.event.Event.TheVariants.{Local, Send, Publish, Deliver}
use Rattle.collab.specs.declared.message.Message.{Message}
use Rattle.collab.specs.declared.message.Message.TheVariants.{Push, Updates}
use Rattle.collab.specs.declared.update.Update.{Update}
use Rattle.collab.specs.Authorities.{AuthorityView, slice_of, push_refusal, pushed}
use Rattle.collab.specs.Clients.{ClientView, document, with_local, receive_refusal, received}
use Rattle.collab.specs.Errors.{of_changes_error}
use Rattle.collab.specs.Worlds.{WorldView, changed_at, with_clients, with_authority, with_message}

-- local changes as a set over the client's text
abbrev pub local_set : List Change → ClientView → Sections
local_set changes c = of spelled (length (document c)) (as_sets (length (document c)) changes)

-- the client after local changes of its text
abbrev pub after_local : List Change → ClientView → ClientView
after_local changes c = with_local c (local_set changes c)

abbrev pub local_refusal : List Change → ClientView → Option CollabError
local_refusal changes c = option_map of_changes_error (refusal (length (document c)) max_len changes)

-- what a client sends: its name, its version and all that is unconfirmed
abbrev pub push_of : ClientView → Message
push_of c = Push c.name c.version c.pending

-- what is published: the updates of some positions
abbrev pub published : (from to : ℕ) → AuthorityView → Message
published from to a = Updates from (slice_of from to a.updates)

abbrev pub with_push : Option ClientView → WorldView → WorldView
with_push None w = w
with_push (Some c) w = with_message (push_of c) w

-- the clients after updates come to the one that is named, if one is
abbrev pub received_by : Option ℕ → (from : ℕ) → List Update → List ClientView → List ClientView
received_by None from updates clients = clients
received_by (Some i) from updates clients = changed_at i (λ c. received c from updates) clients

abbrev pub receiving_refusal : Option ℕ → (from : ℕ) → List Update → List ClientView → Option CollabError
receiving_refusal None from updates clients = None
receiving_refusal (Some i) from updates clients = option_and_then (λ c. receive_refusal c from updates) (slice_get clients i)

-- the world after a delivery: a Push comes to the authority, and Updates come to the client that is named, if one is
abbrev pub delivered : Option Message → Option ℕ → WorldView → WorldView
delivered None to w = w
delivered (Some (Push name version updates)) to w = with_authority (pushed w.authority updates) w
delivered (Some (Updates from updates)) to w = with_clients (received_by to from updates w.clients) w

abbrev pub delivery_refusal : Option Message → Option ℕ → WorldView → Option CollabError
delivery_refusal None to w = None
delivery_refusal (Some (Push name version updates)) to w = push_refusal w.authority version updates
delivery_refusal (Some (Updates from updates)) to w = receiving_refusal to from updates w.clients

-- whether a message is a Push
abbrev pub is_push : Option Message → Bool
is_push None = false
is_push (Some (Push name version updates)) = true
is_push (Some (Updates from updates)) = false

-- STEPPED: the world after an event that isn't refused.
abbrev pub stepped : WorldView → Event → WorldView
stepped w (Local i changes) = with_clients (changed_at i (after_local changes) w.clients) w
stepped w (Send i) = with_push (slice_get w.clients i) w
stepped w (Publish from to) = with_message (published from to w.authority) w
stepped w (Deliver m to) = delivered (slice_get w.messages m) to w

-- why an event is refused: as the call that it makes
abbrev pub step_refusal : WorldView → Event → Option CollabError
step_refusal w (Local i changes) = option_and_then (local_refusal changes) (slice_get w.clients i)
step_refusal w (Send i) = None
step_refusal w (Publish from to) = None
step_refusal w (Deliver m to) = delivery_refusal (slice_get w.messages m) to w
