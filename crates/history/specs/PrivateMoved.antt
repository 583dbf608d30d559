-- One moved item at a time. Private.
use Rattle.std.specs.Prelude.{◌≡◌, ℕ, true, false, List, [], ◌∷◌, ◌++◌, Option, Some, None}
use Rattle.change_desc.specs.declared.section.Section.{Section}
use Rattle.change_desc.specs.Sections.{old_size}
use Rattle.history.specs.declared.item.ChangeItem.{ChangeItem}
use Rattle.history.specs.declared.item.Item.{Item}
use Rattle.history.specs.declared.moving.Moved.{Moved}
use Rattle.history.specs.Histories.{LeadOn}
use Rattle.history.specs.Moving.{is_too_long, items_over, moved_change, over_after}

-- items to which a moved one was put, where there is room for it: what stands after them goes over the changes as they stand
-- after it
pub record PutsSome (over : List (Section ℕ)) (item : Item) (old new : List Item) (after : List (Section ℕ)) : Type 0 where
  pub gives : (items : List Item) → new ++ items_over after items ≡ old ++ items_over over (item ∷ items)
  pub leads : (items : List Item) → LeadOn (old_size over) (item ∷ items) → LeadOn (old_size after) items

-- and where it would be too long
pub record PutsNone (over : List (Section ℕ)) (item : Item) (old new : List Item) : Type 0 where
  pub gives : (items : List Item) → items_over over (item ∷ items) ≡ []
  pub same : new ≡ old

abbrev pub PutsMoved : List (Section ℕ) → Item → (old new : List Item) → Option (List (Section ℕ)) → Type 0
PutsMoved over item old new None = PutsNone over item old new
PutsMoved over item old new (Some after) = PutsSome over item old new after

-- one moved Change: none where it would be too long
pub record IsMoved (over : List (Section ℕ)) (c : ChangeItem) (m : Moved) : Type 0 where
  pub fits : is_too_long over c ≡ false
  pub item : m.item ≡ moved_change over c
  pub after_it : m.after ≡ over_after over c

abbrev pub MovesTo : List (Section ℕ) → ChangeItem → Option Moved → Type 0
MovesTo over c None = is_too_long over c ≡ true
MovesTo over c (Some m) = IsMoved over c m
