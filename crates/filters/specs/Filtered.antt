-- Transaction filters, and what filters make of a draft (manual: EditorState.transactionFilter).
use Rattle.std.specs.Prelude.{ℕ, cond, List, [], length, reverse, fold, Some, None, Ok}
use Rattle.transaction.specs.declared.draft.Draft.{Draft}
use Rattle.transaction.specs.declared.spec.Spec.{Spec}
use Rattle.transaction.specs.Merging.{merged, with_spec}
use Rattle.transaction.specs.Refusals.{specs_refusal}
use Rattle.values.specs.declared.answers.Filtering.{Filtering}
use Rattle.values.specs.declared.answers.Filtering.TheVariants.{Keep, Instead, Also}
use Rattle.values.specs.declared.val.Val.{Val}
use Rattle.values.specs.Rules.{Rules}
use Rattle.filters.specs.Starts.{StartView}
use Rattle.filters.specs.Facets.{FacetsView, rule_numbers}
use Rattle.filters.specs.Shown.{shown_of}
use Rattle.filters.specs.Outcomes.{Outcome, unless, and_then, in_turn}
use Rattle.filters.specs.Guards.{guarding, guarded}

-- a draft and then these specs, each merged with what stands before it
abbrev pub followed_by : Rules → StartView → Draft Val → List (Spec Val) → Draft Val
followed_by rules start d specs = fold (λ before s. with_spec start.kinds rules.map_effect (length start.document) (Some before) s) d specs

-- What a transaction filter answers of a draft: it stays; or these specs stand in its place, merged anew over the start document;
-- or they follow it. What the specs say of filters isn't looked at.
abbrev pub answered : Rules → StartView → Filtering → Draft Val → Outcome
answered rules start Keep d = Ok d
answered rules start (Instead specs) d =
    unless (specs_refusal (length start.document) start.max start.kinds None specs) (merged start.kinds rules.map_effect (length start.document) specs)
answered rules start (Also specs) d =
    unless (specs_refusal (length start.document) start.max start.kinds (Some d.changes) specs) (followed_by rules start d specs)

-- what comes of a draft by the transaction filter of a number
abbrev pub filtered_by : Rules → FacetsView → StartView → ℕ → Draft Val → Outcome
filtered_by rules facets start n d = answered rules start (rules.filter n (shown_of start [] d) facets.filter_data) d

-- what comes of it by all transaction filters, asked from the lowest precedence to the highest
abbrev pub transaction_filtered : Rules → FacetsView → StartView → Draft Val → Outcome
transaction_filtered rules facets start d = in_turn (filtered_by rules facets start) (reverse (rule_numbers facets.transaction_filter)) d

-- what comes of it by all change filters
abbrev pub change_filtered : Rules → FacetsView → StartView → Draft Val → Outcome
change_filtered rules facets start d =
    guarded rules start (guarding rules facets.filter_data (shown_of start [] d) (rule_numbers facets.change_filter)) d

-- Filtered: the change filters are asked, and then the transaction filters; neither where the specs say so.
abbrev pub filtered : Rules → FacetsView → StartView → Draft Val → Outcome
filtered rules facets start d =
    cond d.filter (and_then (change_filtered rules facets start d) (transaction_filtered rules facets start)) (Ok d)
