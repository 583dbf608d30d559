-- What comes of a draft: another draft, or the refusal of what a rule answered.
use Rattle.std.specs.Prelude.{ℕ, List, [], ◌∷◌, Option, Some, None, Result, Ok, Err}
use Rattle.transaction.specs.declared.draft.Draft.{Draft}
use Rattle.transaction.specs.declared.error.TransactionError.{TransactionError}
use Rattle.values.specs.declared.val.Val.{Val}

abbrev pub Outcome : Type 0
Outcome = Result (Draft Val) TransactionError

-- a draft, unless something is refused
abbrev pub unless : Option TransactionError → Draft Val → Outcome
unless None d = Ok d
unless (Some e) d = Err e

-- what comes of a draft, if there is one
abbrev pub and_then : Outcome → (Draft Val → Outcome) → Outcome
and_then (Ok d) next = next d
and_then (Err e) next = Err e

-- In turn: rules are asked one after the other, each on what those before it left; the first refusal ends it.
abbrev pub in_turn : (ask : ℕ → Draft Val → Outcome) → List ℕ → Draft Val → Outcome
in_turn ask [] d = Ok d
in_turn ask (n ∷ ns) d = and_then (ask n d) (in_turn ask ns)
