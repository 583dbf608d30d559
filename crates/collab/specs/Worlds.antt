-- A world: an authority, clients, and all messages that were ever sent.
use Rattle.std.specs.Prelude.{◌≡◌, ℕ, zero, suc, cond, List, [], ◌∷◌, ◌++◌, map, Option, Some, None, slice_get}
use Rattle.std.specs.List.{list_any}
use Rattle.std.specs.Str.{bytes_eq}
use Rattle.collab.specs.declared.message.Message.{Message}
use Rattle.collab.specs.declared.update.Update.{Update}
use Rattle.collab.specs.Authorities.{AuthorityView, opened}
use Rattle.collab.specs.Clients.{ClientView, joined}

pub record WorldView : Type 0 where
  pub authority : AuthorityView
  pub clients : List ClientView
  pub messages : List Message

-- a world before its first event
abbrev pub begun : (text : List ℕ) → (names : List (List ℕ)) → WorldView
begun text names = record { authority = opened text; clients = map (λ name. joined name text) names; messages = [] }

-- no name stands twice
abbrev pub AreDistinct : List (List ℕ) → Type 0
AreDistinct names = (i j : ℕ) (name : List ℕ) → slice_get names i ≡ Some name → slice_get names j ≡ Some name → i ≡ j

-- a name is one of the clients'
pub record IsClientName (clients : List ClientView) (name : List ℕ) : Type 0 where
  pub place : ℕ
  pub client : ClientView
  pub at : slice_get clients place ≡ Some client
  pub same : client.name ≡ name

-- each update bears the name of one of the clients
abbrev pub ComeFrom : List ClientView → List Update → Type 0
ComeFrom clients [] = Unit {0}
ComeFrom clients (u ∷ us) = IsClientName clients u.client × ComeFrom clients us

-- of names after others, the first that stands among those before it
abbrev pub taken_name : (others : List (List ℕ)) → List (List ℕ) → Option (List ℕ)
taken_name others [] = None
taken_name others (name ∷ names) = cond (list_any (bytes_eq name) others) (Some name) (taken_name (others ++ name ∷ []) names)

-- a list with one item changed
abbrev pub changed_at : {A : Type 0} → ℕ → (A → A) → List A → List A
changed_at i f [] = []
changed_at zero f (x ∷ xs) = f x ∷ xs
changed_at (suc i) f (x ∷ xs) = x ∷ changed_at i f xs

abbrev pub with_clients : List ClientView → WorldView → WorldView
with_clients clients w = record { authority = w.authority; clients = clients; messages = w.messages }

abbrev pub with_authority : AuthorityView → WorldView → WorldView
with_authority a w = record { authority = a; clients = w.clients; messages = w.messages }

-- a message more
abbrev pub with_message : Message → WorldView → WorldView
with_message m w = record { authority = w.authority; clients = w.clients; messages = w.messages ++ m ∷ [] }
