-- An authority (package @codemirror/collab, the central authority): a start text, and updates each over the text of those before.
use Rattle.std.specs.Prelude.{◌≡◌, ℕ, ◌-◌, ◌<◌, ◌^◌, cond, eqb, List, [], ◌++◌, length, take, drop, map, Option, Some, None}
use Rattle.collab.specs.declared.error.CollabError.{CollabError}
use Rattle.collab.specs.declared.error.CollabError.TheVariants.{Stale}
use Rattle.collab.specs.declared.update.Update.{Update}
use Rattle.collab.specs.Updates.{applied, LeadOn, AllBear, numbers_of, CountOn}
use Rattle.collab.specs.Lengths.{lengths_after, lengths_with, too_long}

pub record AuthorityView : Type 0 where
  pub start : List ℕ
  pub updates : List Update

-- how many updates it took
abbrev pub update_count : AuthorityView → ℕ
update_count a = length a.updates

-- the text that its first v updates make
abbrev pub text_at : AuthorityView → ℕ → List ℕ
text_at a v = applied (take v a.updates) a.start

-- its text
abbrev pub latest : AuthorityView → List ℕ
latest a = applied a.updates a.start

-- an authority without updates
abbrev pub opened : List ℕ → AuthorityView
opened text = record { start = text; updates = [] }

-- the updates of positions from to to
abbrev pub slice_of : (from to : ℕ) → List Update → List Update
slice_of from to us = take (to - from) (drop from us)

-- Why updates over the text of a version are refused: the version isn't the authority's, or else the text after one of them is
-- too long.
abbrev pub push_refusal : AuthorityView → (version : ℕ) → List Update → Option CollabError
push_refusal a version us = cond (eqb version (update_count a)) (too_long (lengths_after (latest a) us)) (Some (Stale (update_count a)))

-- the authority with further updates
abbrev pub pushed : AuthorityView → List Update → AuthorityView
pushed a us = record { start = a.start; updates = a.updates ++ us }

-- What is asked of updates that are pushed at the authority's version: they lead on from its text and bear the given name, and
-- their numbers follow on from those of that name in its list, or from 0.
pub record CanTake (a : AuthorityView) (name : List ℕ) (us : List Update) : Type 0 where
  pub leads : LeadOn (length (latest a)) us
  pub bear : AllBear name us
  pub numbers : CountOn (length (numbers_of name a.updates)) (map (λ u. u.number) us)

-- What each authority keeps: its updates lead on from the start text, no text is too long, and each client's numbers are 0, 1, 2
-- and on.
pub record IsAuthority (a : AuthorityView) : Type 0 where
  pub leads : LeadOn (length a.start) a.updates
  pub short : too_long (lengths_with a.start a.updates) ≡ None
  pub numbers : (name : List ℕ) → CountOn 0 (numbers_of name a.updates)
  pub few : update_count a < 2 ^ 32
