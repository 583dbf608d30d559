-- The facets that filters go by, and the rule numbers that their values list (manual: EditorState.changeFilter,
-- EditorState.transactionFilter, EditorState.transactionExtender).
use Rattle.std.specs.Prelude.{◌≡◌, ℕ, Bool, true, pos, List, filter_map, Option, None}
use Rattle.cm_plain.specs.Datum.{Datum, number}
use Rattle.cm_plain.specs.Form.{lists, numbers}
use Rattle.values.specs.declared.val.Val.{Val}
use Rattle.values.specs.Reading.{items_in, place_in}
use Rattle.values.specs.Rules.{Rules}
use Rattle.values.specs.Vals.{is_of}
use Rattle.filters.specs.declared.filter_facets.FilterFacets.{FilterFacets}

-- the values of these facets in the start state
pub record FacetsView : Type 0 where
  pub change_filter : Val
  pub transaction_filter : Val
  pub transaction_extender : Val
  pub filter_data : Val

abbrev pub facets_of : FilterFacets → FacetsView
facets_of f =
    record {
      change_filter = f.change_filter.now;
      transaction_filter = f.transaction_filter.now;
      transaction_extender = f.transaction_extender.now;
      filter_data = f.filter_data.now;
    }

-- the number of a rule that an item is
abbrev pub rule_number : Datum → Option ℕ
rule_number (number z) = place_in z
rule_number d = None

-- Rule numbers: those that a facet's value lists, from the highest precedence to the lowest.
abbrev pub rule_numbers : Val → List ℕ
rule_numbers v = filter_map rule_number (items_in v)

-- the value is a list of numbers of a sort that has so many
abbrev pub ListsNumbers : (count : ℕ) → Val → Type 0
ListsNumbers count v = is_of (lists (numbers (pos 1) (pos count))) v ≡ true

-- each value lists numbers of its sort
pub record AreFacets (rules : Rules) (f : FacetsView) : Type 0 where
  pub guards : ListsNumbers rules.change_guards f.change_filter
  pub filters : ListsNumbers rules.transaction_filters f.transaction_filter
  pub extenders : ListsNumbers rules.extenders f.transaction_extender
