-- All filters, one kind after the other, and all extenders.
use Rattle.std.proofs.Common.{◌≡◌, ℕ, true, false, cond, List, [], Ok, Err, sym, ap, ◌∙◌, reverse}
use Rattle.cm_plain.specs.declared.kept_effect.KeptEffect.{KeptEffect}
use Rattle.transaction.specs.declared.draft.Draft.{Draft}
use Rattle.transaction.specs.declared.error.TransactionError.{TransactionError}
use Rattle.values.specs.declared.val.Val.{Val}
use Rattle.values.specs.Rules.{Rules}
use Rattle.values.specs.Views.{TransactionView}
use Rattle.filters.specs.Starts.{StartView}
use Rattle.filters.specs.Extended.{extended, extended_by}
use Rattle.filters.specs.Facets.{FacetsView, rule_numbers}
use Rattle.filters.specs.Filtered.{change_filtered, filtered, transaction_filtered}
use Rattle.filters.specs.Outcomes.{Outcome, and_then, in_turn}
use Rattle.filters.specs.Shown.{shown_of}
use Rattle.filters.proofs.Outcomes.{then-ok, then-err}

module _ (rules : Rules) (facets : FacetsView) (start : StartView) (d : Draft Val) where
  pub filtered-off : d.filter ≡ false → filtered rules facets start d ≡ Ok d
  filtered-off e = ap (λ b. cond b (and_then (change_filtered rules facets start d) (transaction_filtered rules facets start)) (Ok d)) e

  filtered-on : d.filter ≡ true → filtered rules facets start d ≡ and_then (change_filtered rules facets start d) (transaction_filtered rules facets start)
  filtered-on e = ap (λ b. cond b (and_then (change_filtered rules facets start d) (transaction_filtered rules facets start)) (Ok d)) e

  pub filtered-then : (kept : Draft Val) (o : Outcome) → d.filter ≡ true → change_filtered rules facets start d ≡ Ok kept → transaction_filtered rules facets start kept ≡ o →
      filtered rules facets start d ≡ o
  filtered-then kept o e h k = filtered-on e ∙ then-ok (change_filtered rules facets start d) (transaction_filtered rules facets start) kept o h k

  pub filtered-refused : (error : TransactionError) → d.filter ≡ true → change_filtered rules facets start d ≡ Err error → filtered rules facets start d ≡ Err error
  filtered-refused error e h = filtered-on e ∙ then-err (change_filtered rules facets start d) (transaction_filtered rules facets start) error h

-- the numbers from the lowest precedence
pub turn-of : (ask : ℕ → Draft Val → Outcome) (ns ms : List ℕ) (d : Draft Val) (o : Outcome) → ns ≡ reverse ms → in_turn ask ns d ≡ o → in_turn ask (reverse ms) d ≡ o
turn-of ask ns ms d o e h = ap (λ xs. in_turn ask xs d) (sym e) ∙ h

-- extenders that are asked from the lowest precedence what they add to a draft, of which they are shown a transaction
pub extended-is : (rules : Rules) (facets : FacetsView) (start : StartView) (d lent : Draft Val) (inverted : List KeptEffect) (t : TransactionView) (ns : List ℕ) (o : Outcome) → lent ≡ d →
    inverted ≡ [] → t ≡ shown_of start inverted lent → ns ≡ reverse (rule_numbers facets.transaction_extender) → in_turn (extended_by rules facets start t) ns d ≡ o → extended rules facets start d ≡ o
extended-is rules facets start d lent inverted t ns o same none e f h =
    let ms : List ℕ = rule_numbers facets.transaction_extender in
    let told : t ≡ shown_of start [] d = e ∙ (ap (λ is. shown_of start is lent) none ∙ ap (λ x. shown_of start [] x) same) in
    ap (λ s. in_turn (extended_by rules facets start s) (reverse ms) d) (sym told) ∙ turn-of (extended_by rules facets start t) ns ms d o f h
