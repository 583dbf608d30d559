-- The theorem of collaboration, of a world after any list of events: sends, deliveries, losses and repeats in any order.
use Rattle.std.specs.Prelude.{◌≡◌, ℕ, ◌≤◌, List, [], length, Some, slice_get}
use Rattle.collab.specs.Updates.{applied, numbers_of, CountOn}
use Rattle.collab.specs.Authorities.{text_at, update_count}
use Rattle.collab.specs.Clients.{ClientView, document}
use Rattle.collab.specs.Worlds.{WorldView, ComeFrom}

-- Converges: the clients' texts are as the authority's updates make them, and the authority's updates are the clients' in their orders.
pub record Converges (w : WorldView) : Type 0 where
  -- each client has seen at most the updates that the authority took
  pub seen : (i : ℕ) (c : ClientView) → slice_get w.clients i ≡ Some c → c.version ≤ update_count w.authority
  -- a client with nothing unconfirmed at version v holds the text that the authority's first v updates make
  pub texts : (i : ℕ) (c : ClientView) → slice_get w.clients i ≡ Some c → c.pending ≡ [] → document c ≡ text_at w.authority c.version
  -- any client's text is that text with its unconfirmed updates applied
  pub kept : (i : ℕ) (c : ClientView) → slice_get w.clients i ≡ Some c → document c ≡ applied c.pending (text_at w.authority c.version)
  -- each client's updates stand in the authority's list at most once and in that client's order: their numbers are 0, 1, 2 and on
  pub updates : (name : List ℕ) → CountOn 0 (numbers_of name w.authority.updates)
  -- each of these updates bears the name of one of the clients
  pub senders : ComeFrom w.clients w.authority.updates
  -- and no client has more of them than it made local changes
  pub counts : (i : ℕ) (c : ClientView) → slice_get w.clients i ≡ Some c → length (numbers_of c.name w.authority.updates) ≤ c.made
  -- two clients with nothing unconfirmed at one version hold one text
  pub alike : (i j : ℕ) (c d : ClientView) → slice_get w.clients i ≡ Some c → slice_get w.clients j ≡ Some d →
      c.pending ≡ [] → d.pending ≡ [] → c.version ≡ d.version → document c ≡ document d
