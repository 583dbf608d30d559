-- Pages of groups as one list of groups at their places. Private: contracts of sets see the ranges alone.
use Rattle.std.specs.Prelude.{◌≡◌, ℕ, ◌+◌, ◌^◌, ◌<◌, ◌≤◌, All, List, [], ◌∷◌, ◌++◌, length, map}
use Rattle.std.specs.List.{list_any}
use Rattle.range_set.specs.Rules.{RangeRules}
use Rattle.range_set.specs.Mapping.{is_turned}
use Rattle.range_set.specs.Points.{stands}
use Rattle.range_set.specs.PrivateChunks.{AreGroups, IsGroup, first_start, flat, greatest_end, group_content, put_at, spread}
use Rattle.range_set.specs.declared.group.PlacedGroup.{PlacedGroup}
use Rattle.range_set.specs.declared.page.Page.{Page}
use Rattle.range_set.specs.declared.page.PlacedPage.{PlacedPage}

module _ {T : Type 0} where
  -- the group further on
  abbrev pub further : ℕ → PlacedGroup T → PlacedGroup T
  further by g = record { start = g.start + by; grown = g.grown; group = g.group }

  -- the groups of all pages at their places
  abbrev pub laid : List (PlacedPage T) → List (PlacedGroup T)
  laid [] = []
  laid (p ∷ ps) = map (further p.start) p.page.value.groups.items ++ laid ps

  -- groups that are the last of others
  pub record AreLast (groups rest : List (PlacedGroup T)) : Type 0 where
    pub taken : List (PlacedGroup T)
    pub is : groups ≡ taken ++ rest

module _ {T : Type 0} (rules : RangeRules T) where
  -- Groups that count from the start of the first of their ranges, with what a page keeps of these.
  pub record IsPage (start : ℕ) (page : Page T) : Type 0 where
    pub groups : AreGroups rules page.groups.items
    pub first : first_start (flat (spread page.groups.items)) ≡ 0
    pub count : page.count ≡ length (flat (spread page.groups.items))
    pub reach : page.reach ≡ greatest_end (flat (spread page.groups.items))
    pub turned : page.is_turned ≡ list_any (is_turned rules) (flat (spread page.groups.items))
    pub points : page.has_point ≡ list_any (stands rules) (flat (spread page.groups.items))
    pub fits : start + page.reach < 2 ^ 32

  -- each page is one, and has ranges
  abbrev pub ArePages : List (PlacedPage T) → Type 0
  ArePages [] = Unit {0}
  ArePages (p ∷ ps) = (IsPage p.start p.page.value × (1 ≤ length (flat (spread p.page.value.groups.items)))) × ArePages ps

  -- groups at their places, of which the first begins at a place and the others there or after it, and whose ranges can be counted
  pub record AreGrowing (start : ℕ) (gs : List (PlacedGroup T)) : Type 0 where
    pub groups : AreGroups rules gs
    pub after : All (λ g. start ≤ g.start) gs
    pub first : 1 ≤ length gs → first_start (flat (spread gs)) ≡ start
    pub room : length (flat (spread gs)) < 2 ^ 64

  -- what a builder of pages keeps of those that are done and of the groups of the one that is growing
  pub record ArePagesBuilt (done : List (PlacedPage T)) (start : ℕ) (growing : List (PlacedGroup T)) : Type 0 where
    pub pages : ArePages done
    pub groups : AreGrowing start growing

  -- what a cursor keeps of the groups that are left of a page, which count from a place, and of the pages after them
  pub record AreGroupsLeft (base : ℕ) (groups : List (PlacedGroup T)) (pages : List (PlacedPage T)) : Type 0 where
    pub opened : AreGroups rules (map (further base) groups)
    pub others : ArePages pages

  -- a group at a place is the first of some groups, and others come after it
  pub record PlacesFirst (groups : List (PlacedGroup T)) (start : ℕ) (placed : PlacedGroup T) (others : List (PlacedGroup T)) : Type 0 where
    pub is : groups ≡ put_at start placed ∷ others
    pub first : IsGroup rules start (group_content placed)
    pub some : 1 ≤ length (flat (group_content placed).chunks)

  -- groups that count from a place are the first of some groups, and those of pages come after them
  pub record PlacesGroups (groups : List (PlacedGroup T)) (base : ℕ) (opened : List (PlacedGroup T)) (pages : List (PlacedPage T)) : Type 0 where
    pub is : groups ≡ map (further base) opened ++ laid pages
    pub left : AreGroupsLeft base opened pages
    pub some : 1 ≤ length opened

  -- the groups of a page are the first of some groups, and others come after them
  pub record PlacesPage (groups : List (PlacedGroup T)) (placed : PlacedPage T) (others : List (PlacedGroup T)) : Type 0 where
    pub is : groups ≡ map (further placed.start) placed.page.value.groups.items ++ others
    pub page : IsPage placed.start placed.page.value
    pub some : 1 ≤ length (flat (spread placed.page.value.groups.items))

  -- a group comes next, and begins before a place
  abbrev pub NextBegins : ℕ → List (PlacedGroup T) → Type 0
  NextBegins place [] = ⊥
  NextBegins place (g ∷ gs) = (g.start < place) × (IsGroup rules g.start (group_content g) × (1 ≤ length (flat (group_content g).chunks)))
