-- The shipped rules that update a field (manual: StateFieldSpec.update). Each is given the old value, the transaction, and what
-- the field reads in the new state.
use Rattle.std.specs.Prelude.{ℕ, Bool, true, false, cond, ◌&&◌, nat_eq, nat_lt, nat_le, ℤ, pos, List, [], ◌∷◌, ◌++◌, map, fold, filter_map, length, codes, Option, Some, None}
use Rattle.std.specs.Option.{option_and_then, option_or, unwrap_or}
use Rattle.std.specs.Prelude.{option_map}
use Rattle.std.specs.Cmp.Lexicographic.{pointwise}
use Rattle.std.specs.List.{list_any, find}
use Rattle.line_tree.specs.Text.{TextView}
use Rattle.change_desc.specs.declared.section.Section.{Section}
use Rattle.change_desc.specs.Sections.{lengths, spelled}
use Rattle.change_desc.specs.Ranges.{changes_nothing}
use Rattle.cm_plain.specs.Datum.{Datum}
use Rattle.cm_plain.specs.Form.{Form, any, lists, ranges, history}
use Rattle.cm_plain.specs.declared.plain.Plain.{Plain as PlainData}
use Rattle.cm_plain.specs.declared.plain.Plain.TheVariants as plain
use Rattle.kept_effects.specs.MappedValues.{two_numbers, ends_in}
use Rattle.range_set.specs.declared.ranged.Ranged.{Ranged}
use Rattle.range_set.specs.Mapping.{map_ranges}
use Rattle.range_set.specs.Updating.{updated}
use Rattle.decoration.specs.declared.deco.Deco.{Deco}
use Rattle.decoration.specs.declared.deco.Deco.TheVariants as deco
use Rattle.decoration.specs.declared.style.Style.{Style}
use Rattle.decoration.specs.Places.{is_line_start}
use Rattle.decoration.specs.Sides.{deco_rules}
use Rattle.selection.specs.Selections.{SelectionView}
use Rattle.transaction.specs.Annotations.{annotation_of}
use Rattle.history.specs.declared.isolation.Isolation.{Isolation}
use Rattle.history.specs.declared.isolation.Isolation.TheVariants.{Before, After, Full}
use Rattle.history.specs.declared.lists.Lists.{Lists}
use Rattle.history.specs.Inputs.{StepView}
use Rattle.history.specs.Steps.{step}
use Rattle.values.specs.declared.shown_effect.ShownEffect.{ShownEffect}
use Rattle.values.specs.declared.val.Val.{Val}
use Rattle.values.specs.declared.val.Val.TheVariants.{Plain, Ranges, Layers, History}
use Rattle.values.specs.Vals.{plain_of}
use Rattle.values.specs.Views.{DepsView, TransactionView}
use Rattle.values.specs.Reading.{row, any_int, plus, int, item, items_in, place_in, places_in, ranges_in, first_read, first_plain, number_in}
use Rattle.values.specs.Combining.{pair_in}

abbrev pub DecoRanges : Type 0
DecoRanges = List (Ranged Deco)

abbrev pub number_or_zero : Val → ℤ
number_or_zero v = unwrap_or (number_in v) (pos 0)

-- the old value and 1 more where the changes aren't empty
abbrev pub counted_up : Val → TransactionView → DepsView → Val
counted_up old t deps = cond (changes_nothing t.changes) old (int (plus (number_or_zero old) (pos 1)))

-- the plain values of the listened effects, in order
abbrev pub plain_values : List ShownEffect → List PlainData
plain_values effects = filter_map (λ (e : ShownEffect). plain_of e.value) effects

abbrev pub last_or : Val → List PlainData → Val
last_or old ps = fold (λ v p. Plain p) old ps

-- the value of the last listened effect that is plain, else the old one
abbrev pub last_effect : Val → TransactionView → DepsView → Val
last_effect old t deps = last_or old (plain_values t.effects)

-- whether a range lies in a document of this length
abbrev pub is_within : ℕ → Ranged Deco → Bool
is_within len r = nat_le r.from len && nat_le r.to len

-- the ranges of a set that lie in a document of this length
abbrev pub kept_within : ℕ → DecoRanges → DecoRanges
kept_within len rs = updated deco_rules (is_within len) rs []

-- Mapped set: a set without the ranges that end past the start document, over the changes.
abbrev pub mapped_set : TransactionView → DecoRanges → DecoRanges
mapped_set t rs = map_ranges deco_rules (lengths spelled t.changes) (kept_within (length t.start) rs)

-- a set with one more range, which stands after those of its place
abbrev pub with_range : DecoRanges → Ranged Deco → DecoRanges
with_range rs r = updated deco_rules (λ q. true) rs (r ∷ [])

-- and with the ranges that effects make, in their order
abbrev pub with_ranges : (ShownEffect → Option (Ranged Deco)) → DecoRanges → List ShownEffect → DecoRanges
with_ranges made rs effects = fold with_range rs (filter_map made effects)

abbrev pub is_unit : Val → Bool
is_unit (Plain plain.Unit) = true
is_unit v = false

-- a mark that shows the characters reversed
abbrev pub reversed : Deco
reversed = deco.Mark (record { style = record { fg = None; bg = None; bold = false; underline = false; reverse = true }; inclusive = record { start = false; end = false } })

-- the mark between two places of a document of this length, unless it is empty or reaches out
abbrev pub mark_between : ℕ → ℕ × ℕ → Option (Ranged Deco)
mark_between len (from, to) = cond (nat_lt from to && nat_le to len) (Some (record { from = from; to = to; value = reversed })) None

-- the mark that an effect makes: its value is a list of the two ends
abbrev pub mark_of : ℕ → ShownEffect → Option (Ranged Deco)
mark_of len e = option_and_then (mark_between len) (option_and_then places_in (pair_in e.value))

-- Marks: the old set mapped, emptied where an effect is Unit; then the marks that effects make.
abbrev pub marks : Val → TransactionView → DepsView → Val
marks old t deps =
    let kept = cond (list_any (λ (e : ShownEffect). is_unit e.value) t.effects) [] (mapped_set t (ranges_in old)) in
    Ranges (with_ranges (mark_of (length t.document)) kept t.effects)

-- a line decoration in bold
abbrev pub bold_line : ℕ → Ranged Deco
bold_line place = record { from = place; to = place; value = deco.Line (record { fg = None; bg = None; bold = true; underline = false; reverse = false }) }

-- one at the start of a line of a document
abbrev pub line_at : List ℕ → ℕ → Option (Ranged Deco)
line_at document place = cond (is_line_start document place) (Some (bold_line place)) None

-- the line decoration that an effect makes: its value is the start of a line of the declared document
abbrev pub line_of : Option (List ℕ) → ShownEffect → Option (Ranged Deco)
line_of document e = option_and_then (λ cs. option_and_then (line_at cs) (option_and_then place_in (number_in e.value))) document

-- Marked lines: the old set mapped; then the line decorations that effects make.
abbrev pub marked_lines : Val → TransactionView → DepsView → Val
marked_lines old t deps = Ranges (with_ranges (line_of deps.document) (mapped_set t (ranges_in old)) t.effects)

-- what annotations of a kind say, where they are of the right sort
abbrev pub int_in : PlainData → Option ℤ
int_in (plain.Int z) = Some z
int_in p = None

abbrev pub number_note : List ℕ → TransactionView → Option ℤ
number_note kind t = option_and_then int_in (annotation_of kind t.annotations)

abbrev pub text_in : PlainData → Option (List ℕ)
text_in (plain.Text cs) = Some cs
text_in p = None

abbrev pub text_note : List ℕ → TransactionView → Option (List ℕ)
text_note kind t = option_and_then text_in (annotation_of kind t.annotations)

abbrev pub bool_in : PlainData → Option Bool
bool_in (plain.Bool b) = Some b
bool_in p = None

abbrev pub bool_note : List ℕ → TransactionView → Option Bool
bool_note kind t = option_and_then bool_in (annotation_of kind t.annotations)

abbrev pub isolation_of : List ℕ → Option Isolation
isolation_of cs =
    cond (pointwise nat_eq cs (codes "before")) (Some Before)
    (cond (pointwise nat_eq cs (codes "after")) (Some After)
    (cond (pointwise nat_eq cs (codes "full")) (Some Full) None))

-- minDepth and newGroupDelay, as the first read has them where it is a list of two numbers
abbrev pub history_bounds : DepsView → ℤ × ℤ
history_bounds deps = unwrap_or (option_and_then pair_in (first_read deps)) (pos 100, pos 500)

-- what a history is told of a transaction
abbrev pub history_input : TransactionView → ℤ × ℤ → StepView
history_input t bounds =
    record {
      changes = t.changes;
      effects = t.inverted;
      document = record { characters = t.start; height = 0 };
      selection = t.start_selection;
      given = cond t.given (Some t.selection) None;
      min_depth = bounds.0;
      delay = bounds.1;
      time = number_note (codes "time") t;
      user_event = text_note (codes "userEvent") t;
      add_to_history = bool_note (codes "addToHistory") t;
      isolate = option_and_then isolation_of (text_note (codes "isolateHistory") t);
      from_history = number_note (codes "fromHistory") t;
    }

abbrev pub stepped : Val → StepView → Val
stepped (History h) input = History (step h input)
stepped old input = old

-- the history after the transaction (manual: history)
abbrev pub next_history : Val → TransactionView → DepsView → Val
next_history old t deps = stepped old (history_input t (history_bounds deps))

-- the old list, and then the plain values of the listened effects
abbrev pub collected : Val → TransactionView → DepsView → Val
collected old t deps = Plain (plain.List (items_in old ++ map item (plain_values t.effects)))

-- Update: by the rule's number.
abbrev pub update : ℕ → (old : Val) → TransactionView → DepsView → Val
update n =
    row n (λ old t deps. first_plain deps)
    ((1, λ old t deps. old)  -- the old value
    ∷ (2, counted_up)
    ∷ (3, last_effect)
    ∷ (4, marks)
    ∷ (5, marked_lines)
    ∷ (6, next_history)
    ∷ (7, collected)
    ∷ (8, λ old t deps. first_plain deps)  -- the first read
    ∷ [])

-- what a field that is updated by the rule holds
abbrev pub update_shape : ℕ → Form
update_shape n =
    row n any
    ((1, any)
    ∷ (2, any_int)
    ∷ (3, any)
    ∷ (4, ranges)
    ∷ (5, ranges)
    ∷ (6, history)
    ∷ (7, lists any)
    ∷ (8, any)
    ∷ [])
