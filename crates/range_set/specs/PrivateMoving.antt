-- What a walk over changes keeps of the last clear place, and the ranges of a chunk that are moved. Private.
use Rattle.std.specs.Prelude.{◌≡◌, ℕ, ◌+◌, ◌^◌, ◌<◌, ◌≤◌, true, false, List, [], ◌∷◌, ◌++◌, length, map, filter_map, Some}
use Rattle.std.specs.List.{list_any}
use Rattle.change_desc.specs.Meeting.{BeginAfter, EndsAtOrAfter}
use Rattle.change_desc.specs.Places.{place_after}
use Rattle.change_desc.specs.Ranges.{meets, replaced}
use Rattle.change_desc.specs.Sections.{old_size}
use Rattle.range_set.specs.Mapping.{Changes, moved}
use Rattle.range_set.specs.PrivateChunks.{Content, GroupContent, IsChunk, IsGroup, content, shift}
use Rattle.range_set.specs.Rules.{RangeRules}
use Rattle.range_set.specs.declared.chunk.Placed.{Placed}
use Rattle.range_set.specs.declared.clear_walk.ClearPlace.{ClearPlace}
use Rattle.range_set.specs.declared.clear_walk.ClearWalk.{ClearWalk}
use Rattle.range_set.specs.declared.ranged.Ranged.{Ranged}

-- a place that no replaced range meets, where it goes, and the replaced ranges that may meet what is from it on
pub record IsClearPlace (d : Changes) (p : ClearPlace) : Type 0 where
  pub clear : list_any (meets p.from p.from) (replaced d) ≡ false
  pub inside : p.from ≤ old_size d
  pub value : p.to ≡ place_after d p.from true
  pub order : BeginAfter 0 p.changed.now
  pub first : EndsAtOrAfter p.from p.changed.now
  pub same : (a b : ℕ) → p.from ≤ a → list_any (meets a b) p.changed.now ≡ list_any (meets a b) (replaced d)

-- the last place of a walk, if any, is such a one
abbrev pub IsClearWalk : ClearWalk → Type 0
IsClearWalk w = (p : ClearPlace) → w.last ≡ Some p → IsClearPlace w.walker.desc p

-- ranges that count from a place: none ends before it starts, and each ends within a text of this length and before 2 ^ 32
abbrev pub AreWithin : {T : Type 0} → (len start : ℕ) → List (Ranged T) → Type 0
AreWithin len start [] = Unit {0}
AreWithin len start (r ∷ rs) = ((r.from ≤ r.to) × (r.to + start ≤ len) × (r.to + start < 2 ^ 32)) × AreWithin len start rs

-- The first of some ranges, which count from a place, were moved or dropped, those that stay were put after a run, and the others were
-- left. A count was raised by one for each that was taken, at most.
pub record AreMoved {T : Type 0} (rules : RangeRules T) (d : Changes) (start : ℕ) (ranges rest old new : List (Ranged T)) (before after : ℕ) : Type 0 where
  pub taken : List (Ranged T)
  pub is : ranges ≡ taken ++ rest
  pub run : new ≡ old ++ filter_map (moved rules d) (map (shift start) taken)
  pub cost : after + length rest ≤ before + length ranges

-- A chunk of one range at a place that no replaced range meets, and the chunk at a place that its range is in after the changes.
pub record IsMovedAlone {T : Type 0} (rules : RangeRules T) (d : Changes) (start : ℕ) (old : Content T) (at : ℕ) (new : Content T) : Type 0 where
  pub range : Ranged T
  pub one : old.ranges ≡ range ∷ []
  pub clear : list_any (meets (range.from + start) (range.from + start)) (replaced d) ≡ false
  pub image : Ranged T
  pub moves : moved rules d (shift start range) ≡ Some image
  pub images : map (shift at) new.ranges ≡ image ∷ []
  pub chunk : IsChunk rules at new

-- A group of one such chunk at a place, and the group that its range is in after the changes.
pub record IsGroupMovedAlone {T : Type 0} (rules : RangeRules T) (d : Changes) (start : ℕ) (old : GroupContent T) (at : ℕ) (new : GroupContent T) : Type 0 where
  pub chunk : Placed T
  pub one : old.chunks ≡ chunk ∷ []
  pub image : Placed T
  pub images : new.chunks ≡ image ∷ []
  pub alone : IsMovedAlone rules d (chunk.start + start) (content chunk) (image.start + at) (content image)
  pub group : IsGroup rules at new
