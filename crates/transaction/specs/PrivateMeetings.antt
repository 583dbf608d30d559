-- Two sets of changes of one document. Private.
use Rattle.std.specs.Prelude.{◌≡◌, ℕ, List, true, false, None}
use Rattle.change_desc.specs.Sections.{spelled, counted, lengths, new_size, old_size}
use Rattle.change_desc.specs.declared.section.Section.{Section}
use Rattle.change_desc.specs.Compose.{compose}
use Rattle.change_desc.specs.Map.{map_over}
use Rattle.change_desc.specs.Of.{then_also}
use Rattle.transaction.specs.declared.meeting.Meeting.{Meeting}
use Rattle.transaction.specs.Merging.{Changes}
use Rattle.transaction.specs.Refusals.{too_long}

-- what the first does to the new document of the second
abbrev pub back_of : Meeting → List (Section ℕ)
back_of m = map_over counted m.mine m.theirs true

pub record IsMeeting (max : ℕ) (a b : Changes) (m : Meeting) : Type 0 where
  pub accepted : too_long max (then_also spelled a b) ≡ None
  pub changes : m.changes ≡ then_also spelled a b
  pub moved : m.moved ≡ map_over spelled b (lengths spelled a) false
  pub mine : m.mine ≡ lengths spelled a
  pub theirs : m.theirs ≡ lengths spelled b
  pub starts : old_size m.changes ≡ old_size a
  pub moved_old : old_size m.moved ≡ new_size spelled a
  pub moved_new : new_size spelled m.moved ≡ new_size spelled m.changes
  pub back_old : old_size (back_of m) ≡ new_size spelled b
  pub back_new : new_size counted (back_of m) ≡ new_size spelled m.changes

-- the changes, by the description of the first
pub record IsMet (a b : Changes) (mine : List (Section ℕ)) (changes moved : Changes) : Type 0 where
  pub changes_are : changes ≡ compose spelled a (map_over spelled b mine false)
  pub moved_are : moved ≡ map_over spelled b mine false
