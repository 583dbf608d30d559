-- What a step of a document makes of its history (manual: history, undo, redo, undoSelection, HistoryConfig.minDepth).
use Rattle.std.specs.Prelude.{◌≡◌, ℕ, ◌≤◌, Bool, false, cond, ◌&&◌, ◌||◌, ◌==◌, ℤ, pos, negsuc, List, [], ◌∷◌, ◌++◌, drop, length, is_some, is_none, Option, Some, None}
use Rattle.std.specs.Option.{option_map_or}
use Rattle.std.specs.Ordering.{int_eq}
use Rattle.line_tree.specs.Text.{max_len}
use Rattle.change_desc.specs.declared.section.Section.{Section}
use Rattle.change_desc.specs.Sections.{spelled, lengths, old_size, new_size, invert}
use Rattle.change_desc.specs.Compose.{compose}
use Rattle.change_desc.specs.Ranges.{changes_nothing}
use Rattle.change_set.specs.Same.{same_sections}
use Rattle.kept_effects.specs.MappedValues.{moved_effects}
use Rattle.selection.specs.Selections.{LieIn}
use Rattle.history.specs.declared.case.Case.{Case}
use Rattle.history.specs.declared.case.Case.TheVariants.{Undo, Redo, UndoSelection, RedoSelection, Unchanged, Unrecorded, Recorded}
use Rattle.history.specs.declared.item.ChangeItem.{ChangeItem}
use Rattle.history.specs.declared.item.SelectItem.{SelectItem}
use Rattle.history.specs.declared.item.Item.{Item}
use Rattle.history.specs.declared.item.Item.TheVariants.{Change, Select}
use Rattle.history.specs.declared.group.Group.TheVariants.{Closed, Open}
use Rattle.history.specs.declared.lists.Lists.{Lists}
use Rattle.history.specs.Inputs.{StepView}
use Rattle.history.specs.Histories.{empty, leads_from}
use Rattle.history.specs.Items.{begins_with_change, begins_with_select, keep_changes, keep_selects, most_selects, newest_change, older}
use Rattle.history.specs.Joining.{closes_after, first_change, joins}
use Rattle.history.specs.Moving.{items_over, newest_stays}
use Rattle.history.specs.Selecting.{is_false, makes_select, with_left}

-- the step starts in this document and leads to a document that isn't too long, and the selection lies in the former
pub record IsStep (i : StepView) : Type 0 where
  pub starts : old_size i.changes ≡ length i.document.characters
  pub short : length i.document.characters ≤ max_len
  pub new_short : new_size spelled i.changes ≤ max_len
  pub inside : LieIn (length i.document.characters) i.selection.ranges

-- Way back: the Change that leads from the new document to the start document, with the effects that undo those of the step and
-- the selection there.
abbrev pub way_back : StepView → ChangeItem
way_back i = record { changes = invert i.changes i.document.characters; effects = i.effects; selection = i.selection }

-- the start selection by itself
abbrev pub start_select : StepView → SelectItem
start_select i = record { selection = i.selection; time = None; user_event = None }

-- the step says that it comes from the history, by this number
abbrev pub is_from : ℤ → Option ℤ → Bool
is_from number (Some given) = int_eq given number
is_from number None = false

-- the changes are exactly those of the newest Change of a list
abbrev pub is_newest : List (Section (List ℕ)) → List Item → Bool
is_newest changes items = option_map_or (λ (c : ChangeItem). same_sections changes c.changes) (newest_change items) false

-- the step changes nothing, and its effects need not be undone
abbrev pub is_idle_step : StepView → Bool
is_idle_step i = changes_nothing i.changes && length i.effects == 0

-- the step goes over the newest item of a list, where that is a Select
abbrev pub goes_over : ℤ → StepView → (is_select : Bool) → Bool
goes_over number i is_select = is_from number i.from_history && changes_nothing i.changes && is_select

-- the case of a step that doesn't go over an item: it changes nothing and needs no effect undone; it says that it comes from
-- anywhere, or that it is not to be recorded; any other
abbrev pub own_case : StepView → Case
own_case i = cond (is_idle_step i) Unchanged (cond (is_some i.from_history || is_false i.add_to_history) Unrecorded Recorded)

-- Case: the first that holds. The step says that it comes from what is done (0) or undone (1) and has exactly the newest Change's
-- changes; it says so (2, 3), changes nothing, and the newest item is a Select; its own case.
abbrev pub case_of : Lists → StepView → Case
case_of h i =
    cond (is_from (pos 0) i.from_history && is_newest i.changes h.done) Undo
    (cond (is_from (pos 1) i.from_history && is_newest i.changes h.undone) Redo
    (cond (goes_over (pos 2) i (begins_with_select h.done)) UndoSelection
    (cond (goes_over (pos 3) i (begins_with_select h.undone)) RedoSelection
    (own_case i))))

-- Unchanged: a given selection closes the group, and the one that is left may be kept.
abbrev pub unchanged : Lists → StepView → Lists
unchanged h i =
    record {
      done = cond (makes_select i) (with_left i h.done) h.done;
      undone = h.undone;
      group = cond (is_none i.given) h.group Closed;
    }

-- Unrecorded: all items are moved, and the group stays as open as it was if it stays.
abbrev pub unrecorded : Lists → StepView → Lists
unrecorded h i =
    let over = lengths spelled i.changes in
    record { done = items_over over h.done; undone = items_over over h.undone; group = cond (newest_stays over h.done) h.group Closed }

-- the way back put after a Change: its effects are mapped over that Change's and stand before them, and the older selection
-- stays
abbrev pub joined_change : ChangeItem → ChangeItem → ChangeItem
joined_change w c =
    record { changes = compose spelled w.changes c.changes; effects = moved_effects (lengths spelled c.changes) w.effects ++ c.effects; selection = c.selection }

abbrev pub joined_to : ChangeItem → List Item → List Item
joined_to w items = option_map_or (λ (c : ChangeItem). Change (joined_change w c) ∷ drop 1 items) (first_change items) (Change w ∷ items)

-- Recorded: the way back joins the group or is a new one, and nothing is left that was undone.
abbrev pub recorded : Lists → StepView → Lists
recorded h i =
    record {
      done = cond (joins h i) (joined_to (way_back i) h.done) (Change (way_back i) ∷ h.done);
      undone = [];
      group = cond (closes_after i.isolate) Closed (Open i.time);
    }

-- What each case makes of a history that leads from the start document.
abbrev pub in_case : Case → Lists → StepView → Lists
in_case Undo h i = record { done = older h.done; undone = Change (way_back i) ∷ h.undone; group = Closed }
in_case Redo h i = record { done = Change (way_back i) ∷ h.done; undone = older h.undone; group = Closed }
in_case UndoSelection h i = record { done = drop 1 h.done; undone = Select (start_select i) ∷ h.undone; group = Closed }
in_case RedoSelection h i = record { done = Select (start_select i) ∷ h.done; undone = drop 1 h.undone; group = Closed }
in_case Unchanged h i = unchanged h i
in_case Unrecorded h i = unrecorded h i
in_case Recorded h i = recorded h i

abbrev pub kept_count : ℤ → ℕ
kept_count (pos n) = n
kept_count (negsuc n) = 0

-- Cut: of what can be undone so many Changes are kept as the depth says, where it is 0 or less none; each row of Selects is cut;
-- and no group is open where a Change isn't the newest item.
abbrev pub cut_to : ℤ → Lists → Lists
cut_to depth h =
    let done = keep_selects most_selects (keep_changes (kept_count depth) h.done) in
    record { done = done; undone = keep_selects most_selects h.undone; group = cond (begins_with_change done) h.group Closed }

-- Start: a history that doesn't lead from the start document counts as empty.
abbrev pub start_of : Lists → StepView → Lists
start_of h i = cond (leads_from (length i.document.characters) h) h empty

-- Step: what the case makes of the history, cut.
abbrev pub step : Lists → StepView → Lists
step h i = let start = start_of h i in cut_to i.min_depth (in_case (case_of start i) start i)
