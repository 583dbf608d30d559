-- Transaction extenders (manual: EditorState.transactionExtender).
use Rattle.std.specs.Prelude.{ℕ, List, [], ◌++◌, reverse}
use Rattle.transaction.specs.declared.draft.Draft.{Draft}
use Rattle.transaction.specs.Refusals.{unknown_in}
use Rattle.values.specs.declared.answers.Extension.{Extension}
use Rattle.values.specs.declared.val.Val.{Val}
use Rattle.values.specs.Rules.{Rules}
use Rattle.values.specs.Views.{TransactionView}
use Rattle.filters.specs.Starts.{StartView}
use Rattle.filters.specs.Facets.{FacetsView, rule_numbers}
use Rattle.filters.specs.Shown.{shown_of}
use Rattle.filters.specs.Outcomes.{Outcome, unless, in_turn}

-- a draft with what an extender adds, after its own effects and annotations
abbrev pub added : Extension → Draft Val → Draft Val
added x d =
    record { changes = d.changes; selection = d.selection; effects = d.effects ++ x.effects; annotations = d.annotations ++ x.annotations; filter = d.filter }

-- the same, unless it adds an effect of an unknown kind or on an unknown compartment
abbrev pub extended_with : StartView → Extension → Draft Val → Outcome
extended_with start x d = unless (unknown_in start.kinds x.effects) (added x d)

-- what the extender of a number makes of a draft, of which it is shown a transaction
abbrev pub extended_by : Rules → FacetsView → StartView → TransactionView → ℕ → Draft Val → Outcome
extended_by rules facets start t n d = extended_with start (rules.extend n t facets.filter_data) d

-- Extended: the extenders are asked from the lowest precedence to the highest, each on the filtered draft.
abbrev pub extended : Rules → FacetsView → StartView → Draft Val → Outcome
extended rules facets start d =
    in_turn (extended_by rules facets start (shown_of start [] d)) (reverse (rule_numbers facets.transaction_extender)) d
