-- The commands of `collab`, each of a name and an argument.
use Rattle.std.specs.Prelude.{ℕ, List, [], ◌∷◌, length, Result, Ok, Err, nat_le, ◌&&◌, if◌then◌else◌, codes}
use Rattle.std.specs.Str.{chars, bytes_eq}
use Rattle.serde_json.specs.Data.{Data}
use Rattle.script.specs.declared.refusal.Refusal.{Refusal}
use Rattle.script.specs.declared.refusal.Refusal.TheVariants.{NotCommand}
use Rattle.script.specs.Reading.{◌>>=◌, required, defaulted, optional, text_at, members_at, only, list_of, number_member, text_member, bad}
use Rattle.script.specs.Command.{change_of}
use Rattle.collab_run.specs.declared.command.TheConstants.{MAX_CLIENTS}
use Rattle.collab_run.specs.declared.command.CollabCommand.{CollabCommand}
use Rattle.collab_run.specs.declared.command.CollabCommand.TheVariants.{Begin, Local, Send, Publish, Deliver, State}

-- names, of which there is one at least, and no more than a world may have clients
abbrev pub within_limit : List (List ℕ) → Result (List (List ℕ)) Refusal
within_limit names = if nat_le 1 (length names) && nat_le (length names) MAX_CLIENTS then Ok names else bad (codes "clients")

-- the names of the clients
unfoldable pub clients_of : Data → Result (List (List ℕ)) Refusal
clients_of d = do
  list ← required (codes "clients") d
  names ← list_of text_at (codes "clients") list
  within_limit names

-- `begin`: {doc (default ""), clients}
unfoldable pub begin_of : Data → Result CollabCommand Refusal
begin_of d = do
  members ← members_at (codes "begin") d
  doc ← defaulted (codes "doc") text_at [] d
  clients ← clients_of d
  known ← only (codes "doc" ∷ codes "clients" ∷ []) members
  Ok (Begin (record { doc = doc; clients = clients }))

-- `local`: {client, changes}
unfoldable pub local_of : Data → Result CollabCommand Refusal
local_of d = do
  members ← members_at (codes "local") d
  client ← text_member (codes "client") d
  list ← required (codes "changes") d
  changes ← list_of change_of (codes "changes") list
  known ← only (codes "client" ∷ codes "changes" ∷ []) members
  Ok (Local client changes)

-- `send`: {client}
unfoldable pub send_of : Data → Result CollabCommand Refusal
send_of d = do
  members ← members_at (codes "send") d
  client ← text_member (codes "client") d
  known ← only (codes "client" ∷ []) members
  Ok (Send client)

-- `publish`: {from, to}
unfoldable pub publish_of : Data → Result CollabCommand Refusal
publish_of d = do
  members ← members_at (codes "publish") d
  from ← number_member (codes "from") d
  to ← number_member (codes "to") d
  known ← only (codes "from" ∷ codes "to" ∷ []) members
  Ok (Publish from to)

-- `deliver`: {message, client (default none)}
unfoldable pub deliver_of : Data → Result CollabCommand Refusal
deliver_of d = do
  members ← members_at (codes "deliver") d
  message ← number_member (codes "message") d
  client ← optional (codes "client") text_at d
  known ← only (codes "message" ∷ codes "client" ∷ []) members
  Ok (Deliver message client)

-- `state`: {}
unfoldable pub state_of : Data → Result CollabCommand Refusal
state_of d = do
  members ← members_at (codes "state") d
  known ← only [] members
  Ok State

-- the command of this name with this argument
unfoldable pub command_named : List ℕ → Data → Result CollabCommand Refusal
command_named name d =
    if bytes_eq name (codes "begin") then begin_of d
    else (if bytes_eq name (codes "local") then local_of d
    else (if bytes_eq name (codes "send") then send_of d
    else (if bytes_eq name (codes "publish") then publish_of d
    else (if bytes_eq name (codes "deliver") then deliver_of d
    else (if bytes_eq name (codes "state") then state_of d
    else Err (NotCommand (chars name)))))))
