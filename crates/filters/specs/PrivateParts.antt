-- The two parts of changes, for private clauses.
use Rattle.std.specs.Prelude.{◌≡◌, ℕ, ◌≤◌, false, List}
use Rattle.change_desc.specs.declared.section.Section.{Section}
use Rattle.change_desc.specs.Sections.{spelled, counted, lengths, new_size, old_size}
use Rattle.change_desc.specs.Map.{map_over}
use Rattle.change_set.specs.declared.filtered.Filtered.{Filtered}
use Rattle.transaction.specs.Merging.{Changes}

-- parts over the document of all changes; the dropped ones, mapped over the kept ones, lead to the new document of all
pub record AreParts (all kept dropped : Changes) : Type 0 where
  pub starts : old_size kept ≡ old_size all
  pub meet : old_size dropped ≡ old_size kept
  pub ends : new_size counted (map_over counted (lengths spelled dropped) (lengths spelled kept) false) ≡ new_size spelled all

-- a way back from the new document of all changes to that of the kept ones
pub record LeadsBack (all kept : Changes) (back : List (Section ℕ)) : Type 0 where
  pub starts : old_size back ≡ new_size spelled all
  pub ends : new_size counted back ≡ new_size spelled kept
