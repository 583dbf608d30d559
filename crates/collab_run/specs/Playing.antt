-- What a command does: it is refused, or it is answered, and then it may put a new world in place of the old one.
use Rattle.std.specs.Prelude.{ℕ, List, [], length, Option, Some, None, option_map, option_and_then, slice_get, Bool, Result, Ok, Err, nat_lt, nat_le, if◌then◌else◌, codes, ⊤}
use Rattle.std.specs.List.{position_from}
use Rattle.std.specs.Str.{bytes_eq}
use Rattle.line_tree.specs.Text.{cut, max_len}
use Rattle.change_set.specs.declared.change.Change.{Change}
use Rattle.collab.specs.declared.event.Event.{Event}
use Rattle.collab.specs.declared.event.Event.TheVariants as events
use Rattle.collab.specs.Authorities.{latest, update_count}
use Rattle.collab.specs.Clients.{ClientView, document}
use Rattle.collab.specs.Worlds.{WorldView, begun, taken_name}
use Rattle.collab.specs.Stepping.{is_push, step_refusal, stepped}
use Rattle.script.specs.declared.refusal.Refusal.{Refusal}
use Rattle.script.specs.declared.refusal.Refusal.TheVariants.{UnknownName, NameTaken, NoSession, TooLong}
use Rattle.replies.specs.declared.answer.Answer.{Answer}
use Rattle.replies.specs.declared.answer.Answer.TheVariants.{Version, Message, Client, Authority}
use Rattle.script.specs.Reading.{◌>>=◌, bad}
use Rattle.script.specs.Refused.{unless}
use Rattle.collab_run.specs.Refused.{collab_refusal}
use Rattle.collab_run.specs.declared.command.BeginRequest.{BeginRequest}
use Rattle.collab_run.specs.declared.command.CollabCommand.{CollabCommand}
use Rattle.collab_run.specs.declared.command.CollabCommand.TheVariants.{Begin, Local, Send, Publish, Deliver, State}
use Rattle.collab_run.specs.declared.outcome.Outcome.{Outcome}
use Rattle.collab_run.specs.declared.outcome.Outcome.TheVariants.{Answered, Changed}

-- no client has this name
abbrev pub unknown : {A : Type 0} → List ℕ → Result A Refusal
unknown name = Err (UnknownName name)

-- what is found under a name
abbrev pub or_unknown : {A : Type 0} → List ℕ → Option A → Result A Refusal
or_unknown name None = unknown name
or_unknown name (Some x) = Ok x

-- the world, if one was begun
abbrev pub begun_world : Option WorldView → Result WorldView Refusal
begun_world None = Err NoSession
begun_world (Some w) = Ok w

-- its clients: without a world there are none
abbrev pub clients_of : Option WorldView → List ClientView
clients_of None = []
clients_of (Some w) = w.clients

-- the place of the client of a name
unfoldable pub place_of : List ℕ → List ClientView → Result ℕ Refusal
place_of name clients = or_unknown name (position_from (λ c. bytes_eq name c.name) 0 clients)

-- the world, and the place in it of the client of a name
unfoldable pub client_of : List ℕ → Option WorldView → Result (WorldView × ℕ) Refusal
client_of name world = do
  place ← place_of name (clients_of world)
  w ← begun_world world
  Ok (w, place)

-- the world after an event, or why it is refused
unfoldable pub happened : WorldView → Event → Result WorldView Refusal
happened w e = unless (option_and_then collab_refusal (step_refusal w e)) (stepped w e)

-- the client of a name in a world
unfoldable pub client_in : List ℕ → WorldView → Result ClientView Refusal
client_in name w = place_of name w.clients >>= λ place. or_unknown name (slice_get w.clients place)

-- what a client is
abbrev pub client_answer : ClientView → Answer
client_answer c = Client (length c.pending) (document c) c.version

-- a new world, which is answered by what the client of a name is then
unfoldable pub told : List ℕ → WorldView → Result Outcome Refusal
told name w = client_in name w >>= λ c. Ok (Changed (client_answer c) w)

-- no name stands twice, or the first that does is taken
abbrev pub free_names : List (List ℕ) → Result ⊤ Refusal
free_names names = unless (option_map NameTaken (taken_name [] names)) tt

-- the text of some characters, which are not too many
abbrev pub text_of : List ℕ → Result (List ℕ) Refusal
text_of doc = if nat_lt max_len (length (cut doc)) then Err (TooLong (length (cut doc)) max_len) else Ok (cut doc)

-- Begin: a world in which nothing has happened
unfoldable pub begin : BeginRequest → Result Outcome Refusal
begin request = do
  free ← free_names request.clients
  text ← text_of request.doc
  Ok (Changed (Version 0) (begun text request.clients))

-- Local: a client changes its text
unfoldable pub local : List ℕ → List Change → Option WorldView → Result Outcome Refusal
local name changes world = do
  at ← client_of name world
  next ← happened at.0 (events.Local at.1 changes)
  told name next

-- Send: the next message is all that the client has unconfirmed
unfoldable pub send : List ℕ → Option WorldView → Result Outcome Refusal
send name world = do
  at ← client_of name world
  next ← happened at.0 (events.Send at.1)
  Ok (Changed (Message (length at.0.messages)) next)

-- positions of the authority's list, in order
abbrev pub in_order : (from to count : ℕ) → Result ⊤ Refusal
in_order from to count = if nat_le from to then (if nat_le to count then Ok tt else bad (codes "to")) else bad (codes "from")

-- Publish: the next message is the authority's updates of these positions
unfoldable pub publish : (from to : ℕ) → Option WorldView → Result Outcome Refusal
publish from to world = do
  w ← begun_world world
  part ← in_order from to (update_count w.authority)
  next ← happened w (events.Publish from to)
  Ok (Changed (Message (length w.messages)) next)

-- whether a message is a Push, where it was sent
unfoldable pub kind_of : ℕ → WorldView → Result Bool Refusal
kind_of message w = if nat_lt message (length w.messages) then Ok (is_push (slice_get w.messages message)) else bad (codes "message")

-- a message is delivered to the authority, which takes a Push alone
unfoldable pub deliver_push : ℕ → Option WorldView → Result Outcome Refusal
deliver_push message world = do
  w ← begun_world world
  push ← kind_of message w
  (if push then (happened w (events.Deliver message None) >>= λ next. Ok (Changed (Version (update_count next.authority)) next))
      else bad (codes "client"))

-- a message is delivered to the client of a name, which takes Updates alone
unfoldable pub deliver_updates : ℕ → List ℕ → Option WorldView → Result Outcome Refusal
deliver_updates message name world = do
  at ← client_of name world
  push ← kind_of message at.0
  (if push then bad (codes "client")
      else (happened at.0 (events.Deliver message (Some at.1)) >>= λ next. told name next))

-- Deliver: a message is delivered
abbrev pub deliver : ℕ → Option (List ℕ) → Option WorldView → Result Outcome Refusal
deliver message None world = deliver_push message world
deliver message (Some name) world = deliver_updates message name world

-- State: the authority's text and version
unfoldable pub state : Option WorldView → Result Outcome Refusal
state world = begun_world world >>= λ w. Ok (Answered (Authority (latest w.authority) (update_count w.authority)))

-- what a command does to the world, if one was begun
abbrev pub act : CollabCommand → Option WorldView → Result Outcome Refusal
act (Begin request) world = begin request
act (Local name changes) world = local name changes world
act (Send name) world = send name world
act (Publish from to) world = publish from to world
act (Deliver message name) world = deliver message name world
act State world = state world
