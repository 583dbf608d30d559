-- When a change joins the newest group (manual: HistoryConfig.newGroupDelay, isolateHistory, Transaction.userEvent).
use Rattle.std.specs.Prelude.{ℕ, Bool, true, false, not, ◌&&◌, ◌||◌, ℤ, pos, ◌-ℤ◌, int_lt, List, ◌∷◌, codes, Option, Some, None}
use Rattle.std.specs.Option.{option_map_or}
use Rattle.change_desc.specs.Sections.{spelled, lengths}
use Rattle.change_desc.specs.Meeting.{some_meet}
use Rattle.change_desc.specs.Ranges.{replaced}
use Rattle.cm_plain.specs.UserEvents.{is_below}
use Rattle.history.specs.declared.item.ChangeItem.{ChangeItem}
use Rattle.history.specs.declared.item.Item.{Item}
use Rattle.history.specs.declared.item.Item.TheVariants.{Change}
use Rattle.history.specs.declared.lists.Lists.{Lists}
use Rattle.history.specs.declared.group.Group.{Group}
use Rattle.history.specs.declared.group.Group.TheVariants.{Open}
use Rattle.history.specs.declared.isolation.Isolation.{Isolation}
use Rattle.history.specs.declared.isolation.Isolation.TheVariants.{Before, After, Full}
use Rattle.history.specs.Inputs.{StepView}

abbrev pub input_type : List ℕ
input_type = codes "input.type"

abbrev pub deletion : List ℕ
deletion = codes "delete"

-- The user event lets a change join: there is none, or it is 'input.type' or 'delete' or below one of them.
abbrev pub is_joinable : Option (List ℕ) → Bool
is_joinable None = true
is_joinable (Some event) = is_below event input_type || is_below event deletion

-- Isolation: the group is closed before the change, or after it.
abbrev pub closes_before : Option Isolation → Bool
closes_before (Some Before) = true
closes_before (Some Full) = true
closes_before _ = false

abbrev pub closes_after : Option Isolation → Bool
closes_after (Some After) = true
closes_after (Some Full) = true
closes_after _ = false

-- the new time less the last one is less than the delay, which is more than 0
abbrev pub is_within : (last now delay : ℤ) → Bool
is_within last now delay = int_lt (pos 0) delay && int_lt (now -ℤ last) delay

-- Soon: the group is open, and both its last time and the new time are given and lie within the delay.
abbrev pub is_soon : Group → Option ℤ → (delay : ℤ) → Bool
is_soon (Open (Some last)) (Some now) delay = is_within last now delay
is_soon _ _ _ = false

-- the newest item, if it is a Change
abbrev pub first_change : List Item → Option ChangeItem
first_change (Change c ∷ items) = Some c
first_change items = None

-- Near: the newest item is a Change, and some range that the step replaces and some range that it replaces overlap or touch.
-- Both start in one document.
abbrev pub is_near : StepView → List Item → Bool
is_near i items =
    option_map_or (λ (c : ChangeItem). some_meet (replaced (lengths spelled i.changes)) (replaced (lengths spelled c.changes))) (first_change items) false

-- Joins: the step is soon, its user event lets it, no isolation stands before it, and it is near the newest Change.
abbrev pub joins : Lists → StepView → Bool
joins h i = is_soon h.group i.time i.delay && is_joinable i.user_event && not (closes_before i.isolate) && is_near i h.done
