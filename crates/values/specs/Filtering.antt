-- The shipped transaction filters (manual: EditorState.transactionFilter). Each is given the transaction and the value of the
-- facet `filterData`.
use Rattle.std.specs.Prelude.{ℕ, true, false, cond, int_lt, ℤ, pos, List, [], ◌∷◌, filter_map, length, codes, Option, Some, None}
use Rattle.std.specs.Option.{option_map_or}
use Rattle.change_desc.specs.Ranges.{changes_nothing}
use Rattle.change_set.specs.declared.change.Change.TheVariants.{Span}
use Rattle.cm_plain.specs.Datum.{Datum, number}
use Rattle.transaction.specs.declared.spec.Spec.{Spec}
use Rattle.values.specs.declared.answers.Filtering.{Filtering}
use Rattle.values.specs.declared.answers.Filtering.TheVariants.{Keep, Instead, Also}
use Rattle.values.specs.declared.val.Val.{Val}
use Rattle.values.specs.Views.{TransactionView}
use Rattle.values.specs.Reading.{row, items_in}
use Rattle.values.specs.Combining.{greatest_of}

-- a spec that inserts a break at a place, after the transaction
abbrev pub break_at : ℕ → Spec Val
break_at place =
    record {
      changes = Span place place (codes "\n") ∷ [];
      selection = None;
      effects = [];
      annotations = [];
      user_event = None;
      sequential = true;
      filter = true;
    }

-- the transaction and a break at the new end; nothing where it changes nothing
abbrev pub with_break : TransactionView → Filtering
with_break t = cond (changes_nothing t.changes) Keep (Also (break_at (length t.document) ∷ []))

-- the number that an item is
abbrev pub number_item : Datum → Option ℤ
number_item (number z) = Some z
number_item d = None

-- the greatest number among the items of a value, if there is one
abbrev pub limit_in : Val → Option ℤ
limit_in v = greatest_of (filter_map number_item (items_in v))

-- nothing where the new document is longer than the limit; without a limit the transaction stays
abbrev pub unless_long : TransactionView → Val → Filtering
unless_long t given = cond (option_map_or (λ limit. int_lt limit (pos (length t.document))) (limit_in given) false) (Instead []) Keep

-- Filter: by the rule's number.
abbrev pub filter : ℕ → TransactionView → (filter_data : Val) → Filtering
filter n =
    row n (λ t given. Keep)
    ((1, λ t given. Keep)  -- the transaction stays
    ∷ (2, λ t given. Instead [])  -- nothing is done
    ∷ (3, λ t given. with_break t)
    ∷ (4, unless_long)
    ∷ [])
