-- When a selection that was left is kept, and when it joins the newest one (manual: history, selection events).
use Rattle.std.specs.Prelude.{ℕ, Bool, true, false, not, ◌&&◌, eqb, ℤ, List, ◌∷◌, drop, length, codes, cond, is_none, Option, Some, None}
use Rattle.std.specs.Cmp.Lexicographic.{pointwise}
use Rattle.std.specs.Option.{option_map_or}
use Rattle.cm_plain.specs.UserEvents.{is_below}
use Rattle.selection.specs.declared.range.Range.{Range}
use Rattle.selection.specs.Selections.{SelectionView}
use Rattle.history.specs.declared.item.SelectItem.{SelectItem}
use Rattle.history.specs.declared.item.Item.{Item}
use Rattle.history.specs.declared.item.Item.TheVariants.{Select}
use Rattle.history.specs.Inputs.{StepView}
use Rattle.history.specs.Joining.{is_within}

abbrev pub is_false : Option Bool → Bool
is_false (Some false) = true
is_false _ = false

abbrev pub same_range : Range → Range → Bool
same_range a b = eqb a.anchor b.anchor && eqb a.head b.head

abbrev pub same_selection : SelectionView → SelectionView → Bool
same_selection a b = eqb a.main b.main && pointwise same_range a.ranges b.ranges

-- the step gives a selection that differs from the start one
abbrev pub goes_elsewhere : StepView → Bool
goes_elsewhere i = option_map_or (λ s. not (same_selection i.selection s)) i.given false

-- Makes a Select: such a selection, where the step is to be recorded and doesn't come from the history.
abbrev pub makes_select : StepView → Bool
makes_select i = goes_elsewhere i && not (is_false i.add_to_history) && is_none i.from_history

-- the selection that is left, with the step's time and user event
abbrev pub left_select : StepView → SelectItem
left_select i = record { selection = i.selection; time = i.time; user_event = i.user_event }

abbrev pub select_event : List ℕ
select_event = codes "select"

-- both events are the same, 'select' or below it
abbrev pub are_selecting : Option (List ℕ) → Option (List ℕ) → Bool
are_selecting (Some a) (Some b) = pointwise eqb a b && is_below a select_event
are_selecting _ _ = false

-- both times are given and less than the delay apart, whichever comes first
abbrev pub are_close : Option ℤ → Option ℤ → (delay : ℤ) → Bool
are_close (Some a) (Some b) delay = is_within b a delay && is_within a b delay
are_close _ _ delay = false

-- Joins: both events are selecting, both times are close, and both selections have as many ranges.
abbrev pub select_joins : SelectItem → StepView → Bool
select_joins s i =
    are_selecting s.user_event i.user_event && are_close s.time i.time i.delay && eqb (length s.selection.ranges) (length i.selection.ranges)

-- the newest item, if it is a Select
abbrev pub first_select : List Item → Option SelectItem
first_select (Select s ∷ items) = Some s
first_select items = None

-- a Select at another time
abbrev pub select_at : Option ℤ → SelectItem → SelectItem
select_at time s = record { selection = s.selection; time = time; user_event = s.user_event }

-- With the selection that is left: the newest Select takes the new time where it joins it, else it stands before all.
abbrev pub with_left : StepView → List Item → List Item
with_left i items =
    option_map_or (λ (s : SelectItem). cond (select_joins s i) (Select (select_at i.time s) ∷ drop 1 items) (Select (left_select i) ∷ items))
    (first_select items) (Select (left_select i) ∷ items)
