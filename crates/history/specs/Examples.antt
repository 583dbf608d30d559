-- Worked examples of the definitions on short texts, each by computation. 97 is 'a', 98 is 'b'.
use Rattle.std.specs.Prelude.{◌≡◌, ℕ, false, ℤ, pos, List, [], ◌∷◌, length, Some, None, option_map, refl}
use Rattle.change_desc.specs.declared.section.Section.{Section}
use Rattle.change_desc.specs.Sections.{spelled}
use Rattle.change_desc.specs.Of.{span}
use Rattle.selection.specs.Selections.{SelectionView}
use Rattle.history.specs.declared.isolation.Isolation.{Isolation}
use Rattle.history.specs.declared.isolation.Isolation.TheVariants.{Before, After, Full}
use Rattle.history.specs.Inputs.{StepView}
use Rattle.history.specs.declared.item.Item.TheVariants.{Select}
use Rattle.history.specs.declared.group.Group.TheVariants.{Closed}
use Rattle.history.specs.declared.lists.Lists.{Lists}
use Rattle.history.specs.declared.restore.Restore.{Restore}
use Rattle.history.specs.Histories.{empty}
use Rattle.history.specs.Items.{change_count}
use Rattle.history.specs.Joining.{deletion}
use Rattle.history.specs.Reading.{restored_item}
use Rattle.history.specs.Restoring.{given_by}
use Rattle.history.specs.Steps.{step}

abbrev pub Sections : Type 0
Sections = List (Section (List ℕ))

-- the cursor at the start of a document
abbrev pub start : SelectionView
start = record { ranges = record { anchor = 0; head = 0 } ∷ []; main = 0 }

-- a change at a time, with all else as by default
abbrev pub change : Sections → (document : List ℕ) → (time : ℤ) → StepView
change changes document time = record {
  changes = changes;
  effects = [];
  document = record { characters = document; height = 0 };
  selection = start;
  given = None;
  min_depth = pos 100;
  delay = pos 500;
  time = Some time;
  user_event = None;
  add_to_history = None;
  isolate = None;
  from_history = None;
}

-- a text put into a document
abbrev pub insert : (at : ℕ) → (text document : List ℕ) → Sections
insert at text document = span spelled (length document) at at text

-- 'a' and then 'b' after it, 100 milliseconds later
abbrev pub first : StepView
first = change (insert 0 (97 ∷ []) []) [] (pos 0)

abbrev pub second : StepView
second = change (insert 1 (98 ∷ []) (97 ∷ [])) (97 ∷ []) (pos 100)

-- a selection and no change between
abbrev pub selecting : StepView
selecting = record (change (insert 0 [] (97 ∷ [])) (97 ∷ []) (pos 50)) { given = Some start }

abbrev pub depth : Lists → ℕ × ℕ
depth h = (change_count h.done, change_count h.undone)

pub joined : depth (step (step empty first) second) ≡ (1, 0)
joined = refl

pub parted : depth (step (step (step empty first) selecting) second) ≡ (2, 0)
parted = refl

-- 'a' deleted again
abbrev pub deleting : StepView
deleting = record (change (span spelled 1 0 1 []) (97 ∷ []) (pos 100)) { user_event = Some deletion }

-- a deletion that isn't recorded leaves nothing of the insertion
pub deleted_unrecorded : step (step empty first) (record deleting { add_to_history = Some false }) ≡ empty
deleted_unrecorded = refl

-- the same deletion where the step says that it comes from an undo, and from anywhere else
pub deleted_by_undo : depth (step (step empty first) (record deleting { from_history = Some (pos 0) })) ≡ (0, 1)
deleted_by_undo = refl

pub deleted_from_elsewhere : step (step empty first) (record deleting { from_history = Some (pos 7) }) ≡ empty
deleted_from_elsewhere = refl

-- one that is recorded joins, and leaves a Change without changes, which a step without changes can undo
pub deleted : depth (step (step empty first) deleting) ≡ (1, 0)
deleted = refl

abbrev pub undoing : StepView
undoing = record (change (insert 0 [] []) [] (pos 200)) { from_history = Some (pos 0) }

pub undone : depth (step (step (step empty first) deleting) undoing) ≡ (0, 1)
undone = refl

-- isolation before or on both sides, a long time, another event, a time that is missing and no delay part the two
abbrev pub isolated : Isolation → StepView
isolated isolate = record second { isolate = Some isolate }

pub isolated_before : depth (step (step empty first) (isolated Before)) ≡ (2, 0)
isolated_before = refl

pub isolated_fully : depth (step (step empty first) (isolated Full)) ≡ (2, 0)
isolated_fully = refl

pub isolated_after : depth (step (step empty first) (isolated After)) ≡ (1, 0)
isolated_after = refl

pub isolated_first : depth (step (step empty (record first { isolate = Some After })) second) ≡ (2, 0)
isolated_first = refl

pub late : depth (step (step empty first) (record second { time = Some (pos 500) })) ≡ (2, 0)
late = refl

pub timeless : depth (step (step empty first) (record second { time = None })) ≡ (2, 0)
timeless = refl

pub timeless_first : depth (step (step empty (record first { time = None })) second) ≡ (2, 0)
timeless_first = refl

pub undelayed : depth (step (step empty first) (record second { delay = pos 0 })) ≡ (2, 0)
undelayed = refl

-- no depth keeps nothing
pub shallow : step empty (record first { min_depth = pos 0 }) ≡ empty
shallow = refl

-- a selection elsewhere leaves the one before, which an undo of selections gives back
abbrev pub cursor : ℕ → SelectionView
cursor n = record { ranges = record { anchor = n; head = n } ∷ []; main = 0 }

abbrev pub elsewhere : StepView
elsewhere = record selecting { given = Some (cursor 1) }

pub left : (step (step empty first) elsewhere).done ≡ Select (record { selection = start; time = Some (pos 50); user_event = None }) ∷ (step empty first).done
left = refl

pub goes_back : option_map (λ (r : Restore). r.selection) (restored_item (pos 0) (pos 2) (step (step empty first) elsewhere).done) ≡ Some start
goes_back = refl

-- going back moves it to what can be done again, with the selection that is left then
abbrev pub going_back : StepView
going_back = record elsewhere { selection = cursor 1; given = Some start; from_history = Some (pos 2) }

pub gone_back : step (step (step empty first) elsewhere) going_back ≡
    record (step empty first) { undone = Select (record { selection = cursor 1; time = None; user_event = None }) ∷ []; group = Closed }
gone_back = refl

-- an undo, and then a redo, give back the texts between
abbrev pub taken_back : Lists
taken_back = step (step (step empty first) second) (record (change (span spelled 2 0 2 []) (97 ∷ 98 ∷ []) (pos 200)) { from_history = Some (pos 0) })

pub taken_back-depth : depth taken_back ≡ (0, 1)
taken_back-depth = refl

pub taken_back-text : given_by taken_back.undone [] ≡ Some (97 ∷ 98 ∷ [])
taken_back-text = refl
