-- Groups of chunks as one list of ranges, and groups and chunks that are shared one after another, moved as far as one place.
-- Private: contracts of sets see that list alone.
use Rattle.std.specs.Prelude.{Bool, ◌≡◌, ◌⊎◌, ℕ, false, filter, ◌+◌, ◌-◌, ◌^◌, ◌<◌, ◌≤◌, max, List, None, [], ◌∷◌, ◌++◌, length, map}
use Rattle.std.specs.List.{list_any}
use Rattle.change_desc.specs.Ranges.{meets}
use Rattle.change_desc.specs.declared.changed_range.ChangedRange.{ChangedRange}
use Rattle.range_set.specs.Rules.{RangeRules}
use Rattle.range_set.specs.Order.{AllForward, first_fault}
use Rattle.range_set.specs.Mapping.{is_turned}
use Rattle.range_set.specs.Points.{stands}
use Rattle.range_set.specs.Updating.{overlaps}
use Rattle.range_set.specs.declared.ranged.Ranged.{Ranged}
use Rattle.range_set.specs.declared.chunk.Placed.{Placed}
use Rattle.range_set.specs.declared.chunk.Chunk.{Chunk}
use Rattle.range_set.specs.declared.group.Group.{Group}
use Rattle.range_set.specs.declared.group.PlacedGroup.{PlacedGroup}

-- the ranges of a chunk, which count from its place, and what the chunk keeps of them
pub record Content (T : Type 0) : Type 0 where
  pub ranges : List (Ranged T)
  pub reach : ℕ
  pub is_turned : Bool
  pub has_point : Bool

-- the chunks of a group, which count from its place, by how much their ranges end later than it says, and what it keeps of them
pub record GroupContent (T : Type 0) : Type 0 where
  pub grown : ℕ
  pub chunks : List (Placed T)
  pub count : ℕ
  pub reach : ℕ
  pub is_turned : Bool
  pub has_point : Bool

module _ {T : Type 0} where
  -- the range further on
  abbrev pub shift : ℕ → Ranged T → Ranged T
  shift by r = record { from = r.from + by; to = r.to + by; value = r.value }

  -- the range with a later end
  abbrev pub grow : ℕ → Ranged T → Ranged T
  grow by r = record { from = r.from; to = r.to + by; value = r.value }

  -- what a chunk says of itself
  abbrev pub plain : Chunk T → Content T
  plain c = record { ranges = c.ranges.items; reach = c.reach; is_turned = c.is_turned; has_point = c.has_point }

  -- what it holds where each of its ranges ends later by so much
  abbrev pub stretch : ℕ → Chunk T → Content T
  stretch by c = record { ranges = map (grow by) c.ranges.items; reach = c.reach + by; is_turned = c.is_turned; has_point = c.has_point }

  -- what a chunk at a place holds
  abbrev pub content : Placed T → Content T
  content p = stretch p.grown p.chunk.value

  -- the ranges of all chunks at their places
  abbrev pub flat : List (Placed T) → List (Ranged T)
  flat [] = []
  flat (p ∷ ps) = map (shift p.start) (content p).ranges ++ flat ps

  -- the chunk further on
  abbrev pub move : ℕ → Placed T → Placed T
  move by p = record { start = p.start + by; grown = p.grown; chunk = p.chunk }

  -- the chunk, each of whose ranges ends later by so much more
  abbrev pub lengthen : ℕ → Placed T → Placed T
  lengthen by p = record { start = p.start; grown = p.grown + by; chunk = p.chunk }

  -- what a group says of itself
  abbrev pub group_plain : Group T → GroupContent T
  group_plain g = record { grown = 0; chunks = g.chunks.items; count = g.count; reach = g.reach; is_turned = g.is_turned; has_point = g.has_point }

  -- what it holds where each of its ranges ends later by so much
  abbrev pub group_stretch : ℕ → Group T → GroupContent T
  group_stretch by g = record { grown = by; chunks = map (lengthen by) g.chunks.items; count = g.count; reach = g.reach + by; is_turned = g.is_turned; has_point = g.has_point }

  -- what a group at a place holds
  abbrev pub group_content : PlacedGroup T → GroupContent T
  group_content g = group_stretch g.grown g.group.value

  -- the group at another place
  abbrev pub put_at : ℕ → PlacedGroup T → PlacedGroup T
  put_at start g = record { start = start; grown = g.grown; group = g.group }

  -- the chunks of all groups at their places
  abbrev pub spread : List (PlacedGroup T) → List (Placed T)
  spread [] = []
  spread (g ∷ gs) = map (move g.start) (group_content g).chunks ++ spread gs

  -- the start of the first range, and the greatest end
  abbrev pub first_start : List (Ranged T) → ℕ
  first_start [] = 0
  first_start (r ∷ rs) = r.from

  abbrev pub greatest_end : List (Ranged T) → ℕ
  greatest_end [] = 0
  greatest_end (r ∷ rs) = max r.to (greatest_end rs)

  -- each range begins at n or after, and no earlier than the one before it
  abbrev pub Ascend : ℕ → List (Ranged T) → Type 0
  Ascend n [] = Unit {0}
  Ascend n (r ∷ rs) = (n ≤ r.from) × Ascend r.from rs

  -- both ends of each range fit their type
  abbrev pub Fit : List (Ranged T) → Type 0
  Fit [] = Unit {0}
  Fit (r ∷ rs) = ((r.from < 2 ^ 32) × (r.to < 2 ^ 32)) × Fit rs

  -- each range ends at n or before
  abbrev pub EndBy : ℕ → List (Ranged T) → Type 0
  EndBy n [] = Unit {0}
  EndBy n (r ∷ rs) = (r.to ≤ n) × EndBy n rs

  -- the group as far on as the place from goes to the place to
  abbrev pub carry : (from to : ℕ) → PlacedGroup T → PlacedGroup T
  carry from to g = record { start = g.start - from + to; grown = g.grown; group = g.group }

  -- none of the groups is turned, and no range meets what is from a place to the end of one of them
  abbrev pub AllApart : (from : ℕ) → List ChangedRange → List (PlacedGroup T) → Type 0
  AllApart from changed [] = Unit {0}
  AllApart from changed (g ∷ gs) = (((group_content g).is_turned ≡ false) × (list_any (meets from (g.start + (group_content g).reach)) changed ≡ false)) × AllApart from changed gs

  -- the groups fit their types as far on as the place from goes to the place to, where no range meets what is between
  abbrev pub FitCarried : (from to : ℕ) → List ChangedRange → List (PlacedGroup T) → Type 0
  FitCarried from to changed [] = Unit {0}
  FitCarried from to changed (g ∷ gs) = (list_any (meets from (g.start + (group_content g).reach)) changed ≡ false → g.start - from + to + (group_content g).reach < 2 ^ 32) × FitCarried from to changed gs

  -- the first of some groups were put after ranges, as far on as the place from goes to the place to, and the others were left
  pub record AreShared (from to : ℕ) (changed : List ChangedRange) (groups rest : List (PlacedGroup T)) (old new : List (Ranged T)) : Type 0 where
    pub taken : List (PlacedGroup T)
    pub is : groups ≡ taken ++ rest
    pub apart : AllApart from changed taken
    pub ranges : new ≡ old ++ flat (spread (map (carry from to) taken))

  -- the chunk as far on as the place from goes to the place to
  abbrev pub carry_chunk : (from to : ℕ) → Placed T → Placed T
  carry_chunk from to p = record { start = p.start - from + to; grown = p.grown; chunk = p.chunk }

  -- none of the chunks is turned, and no range meets what is from a place to the end of one of them
  abbrev pub AllChunksApart : (from : ℕ) → List ChangedRange → List (Placed T) → Type 0
  AllChunksApart from changed [] = Unit {0}
  AllChunksApart from changed (p ∷ ps) = (((content p).is_turned ≡ false) × (list_any (meets from (p.start + (content p).reach)) changed ≡ false)) × AllChunksApart from changed ps

  -- the chunks fit their types as far on as the place from goes to the place to, where no range meets what is between
  abbrev pub FitCarriedChunks : (from to : ℕ) → List ChangedRange → List (Placed T) → Type 0
  FitCarriedChunks from to changed [] = Unit {0}
  FitCarriedChunks from to changed (p ∷ ps) = (list_any (meets from (p.start + (content p).reach)) changed ≡ false → p.start - from + to + (content p).reach < 2 ^ 32) × FitCarriedChunks from to changed ps

  -- the first of some chunks were put after ranges, as far on as the place from goes to the place to, and the others were left
  pub record AreChunksShared (from to : ℕ) (changed : List ChangedRange) (chunks rest : List (Placed T)) (old new : List (Ranged T)) : Type 0 where
    pub taken : List (Placed T)
    pub is : chunks ≡ taken ++ rest
    pub apart : AllChunksApart from changed taken
    pub ranges : new ≡ old ++ flat (map (carry_chunk from to) taken)

  -- a chunk at a place is the first of those that were left
  pub record IsNextChunk (old : List (Placed T)) (start : ℕ) (chunk : Content T) (new : List (Placed T)) : Type 0 where
    pub ranges : flat old ≡ map (shift start) chunk.ranges ++ flat new
    pub fits : Fit (map (shift start) chunk.ranges)
    pub fewer : length new < length old

  -- equal ranges are taken from the starts of both lists, so that one has none left
  pub record TakesSame (old_left old_right new_left new_right : List (Ranged T)) : Type 0 where
    pub taken : List (Ranged T)
    pub left : old_left ≡ taken ++ new_left
    pub right : old_right ≡ taken ++ new_right
    pub none_left : (new_left ≡ []) ⊎ (new_right ≡ [])

  -- each range begins at n or before
  abbrev pub BeginBy : ℕ → List (Ranged T) → Type 0
  BeginBy n [] = Unit {0}
  BeginBy n (r ∷ rs) = (r.from ≤ n) × BeginBy n rs

  -- what passing over chunks whose hull ends before a place leaves: those that overlap a span from there on, and their order
  pub record ArePassed (place : ℕ) (old new : List (Placed T)) : Type 0 where
    pub kept : (to : ℕ) → filter (overlaps place to) (flat new) ≡ filter (overlaps place to) (flat old)
    pub order : (n : ℕ) → Ascend n (flat old) → Ascend n (flat new)
    pub fewer : length (flat new) ≤ length (flat old)

module _ {T : Type 0} (rules : RangeRules T) where
  -- Up to 128 ranges that count from the start of the first of them, with what a chunk keeps of them: their greatest end, and
  -- whether one of them is empty with an end side less than its start side.
  pub record IsChunk (start : ℕ) (chunk : Content T) : Type 0 where
    pub few : length chunk.ranges ≤ 128
    pub first : first_start chunk.ranges ≡ 0
    pub forward : AllForward chunk.ranges
    pub reach : chunk.reach ≡ greatest_end chunk.ranges
    pub turned : chunk.is_turned ≡ list_any (is_turned rules) chunk.ranges
    pub points : chunk.has_point ≡ list_any (stands rules) chunk.ranges
    pub fits : start + chunk.reach < 2 ^ 32

  -- each chunk is one, and has ranges
  abbrev pub AreChunks : List (Placed T) → Type 0
  AreChunks [] = Unit {0}
  AreChunks (p ∷ ps) = (IsChunk p.start (content p) × (1 ≤ length (content p).ranges)) × AreChunks ps

  -- Up to 64 chunks that count from the start of the first of their ranges, with what a group keeps of these. Its ranges end later than
  -- it says only where it has no more than one chunk.
  pub record IsGroup (start : ℕ) (group : GroupContent T) : Type 0 where
    pub few : length group.chunks ≤ 64
    pub single : 0 < group.grown → length group.chunks ≤ 1
    pub chunks : AreChunks group.chunks
    pub first : first_start (flat group.chunks) ≡ 0
    pub count : group.count ≡ length (flat group.chunks)
    pub reach : group.reach ≡ greatest_end (flat group.chunks)
    pub turned : group.is_turned ≡ list_any (is_turned rules) (flat group.chunks)
    pub points : group.has_point ≡ list_any (stands rules) (flat group.chunks)
    pub fits : start + group.reach < 2 ^ 32

  -- each group is one, and has ranges
  abbrev pub AreGroups : List (PlacedGroup T) → Type 0
  AreGroups [] = Unit {0}
  AreGroups (g ∷ gs) = (IsGroup g.start (group_content g) × (1 ≤ length (flat (group_content g).chunks))) × AreGroups gs

  -- groups, and how many ranges they have
  pub record AreGroupsOf (gs : List (PlacedGroup T)) (len : ℕ) : Type 0 where
    pub groups : AreGroups gs
    pub count : len ≡ length (flat (spread gs))

  -- what a set keeps of its groups and the number of its ranges
  pub record IsRangeSet (gs : List (PlacedGroup T)) (len : ℕ) : Type 0 where
    pub sound : AreGroupsOf gs len
    pub order : first_fault rules (flat (spread gs)) ≡ None
