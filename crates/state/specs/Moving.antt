-- The transaction that rules are shown of a draft (Reference Manual, Transaction).
use Rattle.transaction.specs.declared.draft.Draft.{Draft}
use Rattle.transaction.specs.Inverted.{inverted_effects}
use Rattle.values.specs.declared.val.Val.{Val}
use Rattle.values.specs.Declarations.{Declarations}
use Rattle.values.specs.Vals.{plain_of}
use Rattle.values.specs.Views.{TransactionView}
use Rattle.filters.specs.Shown.{shown_of}
use Rattle.facet_slots.specs.Stepping.{State}
use Rattle.state.specs.Drafting.{start_in}

-- Transaction of a draft in a state: what is shown of it, with what undoes its effects.
abbrev pub transaction_of : Declarations → State → Draft Val → TransactionView
transaction_of d old draft = shown_of (start_in d old) (inverted_effects plain_of d.maps d.pairs draft) draft
