-- Rules asked one after the other.
use Rattle.std.proofs.Common.{◌≡◌, ℕ, ◌+◌, ◌<◌, ◌≤◌, List, [], ◌∷◌, length, get_or, drop, Option, None, Some, Ok, Err, sym, ap, ◌∙◌}
use Rattle.std.proofs.lemmas.List.{at_drop_more, at_drop_all}
use Rattle.transaction.specs.declared.draft.Draft.{Draft}
use Rattle.transaction.specs.declared.error.TransactionError.{TransactionError}
use Rattle.values.specs.declared.val.Val.{Val}
use Rattle.filters.specs.Outcomes.{Outcome, and_then, in_turn, unless}

-- one step after another
pub then-ok : (r : Outcome) (next : Draft Val → Outcome) (d : Draft Val) (o : Outcome) → r ≡ Ok d → next d ≡ o → and_then r next ≡ o
then-ok r next d o e h = ap (λ s. and_then s next) e ∙ h

pub then-err : (r : Outcome) (next : Draft Val → Outcome) (e : TransactionError) → r ≡ Err e → and_then r next ≡ Err e
then-err r next e h = ap (λ s. and_then s next) h

-- what is refused or not
pub unless-none : (o : Option TransactionError) (d e : Draft Val) → o ≡ None → e ≡ d → unless o d ≡ Ok e
unless-none o d e h v = ap (λ p. unless p d) h ∙ ap Ok (sym v)

pub unless-some : (o : Option TransactionError) (d : Draft Val) (e : TransactionError) → o ≡ Some e → unless o d ≡ Err e
unless-some o d e h = ap (λ p. unless p d) h

module _ (ask : ℕ → Draft Val → Outcome) (ns : List ℕ) (i : ℕ) (d : Draft Val) (o : Outcome) (turn : in_turn ask (drop i ns) d ≡ o) where
  next-turn : i < length ns → and_then (ask (get_or ns i 0) d) (in_turn ask (drop (i + 1) ns)) ≡ o
  next-turn lt = sym (at_drop_more (λ ms. in_turn ask ms d) ns i 0 lt) ∙ turn

  -- the next one leaves a draft
  pub turn-ok : (e : Draft Val) → i < length ns → ask (get_or ns i 0) d ≡ Ok e → in_turn ask (drop (i + 1) ns) e ≡ o
  turn-ok e lt h = sym (ap (λ r. and_then r (in_turn ask (drop (i + 1) ns))) h) ∙ next-turn lt

  -- what the next one answers is refused
  pub turn-err : (e : TransactionError) → i < length ns → ask (get_or ns i 0) d ≡ Err e → o ≡ Err e
  turn-err e lt h = sym (next-turn lt) ∙ ap (λ r. and_then r (in_turn ask (drop (i + 1) ns))) h

  -- none is left
  pub turn-end : length ns ≤ i → o ≡ Ok d
  turn-end le = sym turn ∙ at_drop_all (λ ms. in_turn ask ms d) ns i le
