-- An update under way, chunk by chunk: what functions that put ranges after a run say of it. Private.
use Rattle.std.specs.Prelude.{◌≡◌, ℕ, ◌≤◌, ◌<◌, Bool, true, false, List, [], ◌∷◌, ◌++◌, length}
use Rattle.std.specs.List.{list_any}
use Rattle.range_set.specs.Rules.{RangeRules}
use Rattle.range_set.specs.Order.{before}
use Rattle.range_set.specs.PrivateChunks.{AreChunks, flat, spread}
use Rattle.range_set.specs.declared.ranged.Ranged.{Ranged}
use Rattle.range_set.specs.declared.chunk.Placed.{Placed}
use Rattle.range_set.specs.declared.group.PlacedGroup.{PlacedGroup}

module _ {T : Type 0} where
  -- each range begins before a place
  abbrev pub BeginUnder : ℕ → List (Ranged T) → Type 0
  BeginUnder place [] = Unit {0}
  BeginUnder place (r ∷ rs) = (r.from < place) × BeginUnder place rs

  -- each range begins after a place
  abbrev pub BeginPast : ℕ → List (Ranged T) → Type 0
  BeginPast place [] = Unit {0}
  BeginPast place (r ∷ rs) = (place < r.from) × BeginPast place rs

  -- the first of some groups, whose ranges begin before a place, were put after chunks, and the others were left
  pub record AreSharedBefore (place : ℕ) (groups rest : List (PlacedGroup T)) (old new : List (Placed T)) : Type 0 where
    pub taken : List (PlacedGroup T)
    pub is : groups ≡ taken ++ rest
    pub before : BeginUnder place (flat (spread taken))
    pub chunks : new ≡ old ++ spread taken

  -- a test that none of a run and none of a chunk passes, none of the new run does, which has no more ranges than both
  pub record KeepsPart (chunk old new : List (Ranged T)) : Type 0 where
    pub none : (q : Ranged T → Bool) → list_any q old ≡ false → list_any q chunk ≡ false → list_any q new ≡ false
    pub room : length new ≤ length (old ++ chunk)

module _ {T : Type 0} (rules : RangeRules T) where
  -- each added range belongs before the first of a chunk
  abbrev pub StandBefore : List (Ranged T) → (taken : List (Ranged T)) → Type 0
  StandBefore [] [] = Unit {0}
  StandBefore [] (x ∷ taken) = ⊥
  StandBefore (u ∷ chunk) [] = Unit {0}
  StandBefore (u ∷ chunk) (x ∷ taken) = (before rules x u ≡ true) × StandBefore (u ∷ chunk) taken

  -- added ranges that belong before the first of a chunk are taken from the others and put after a run
  pub record TakesBefore (chunk old_run old_added new_run new_added : List (Ranged T)) : Type 0 where
    pub taken : List (Ranged T)
    pub run : new_run ≡ old_run ++ taken
    pub added : old_added ≡ taken ++ new_added
    pub before : StandBefore chunk taken

  -- the first added range doesn't belong before the last of a chunk
  abbrev pub IsBeyond : (chunk added : List (Ranged T)) → Type 0
  IsBeyond chunk [] = Unit {0}
  IsBeyond [] (x ∷ added) = Unit {0}
  IsBeyond (u ∷ []) (x ∷ added) = before rules x u ≡ false
  IsBeyond (u ∷ v ∷ chunk) (x ∷ added) = IsBeyond (v ∷ chunk) (x ∷ added)

  -- chunks of the first of some groups, and the others, whose ranges begin after a place
  pub record AreOpened (place : ℕ) (groups : List (PlacedGroup T)) (chunks : List (Placed T)) (rest : List (PlacedGroup T)) : Type 0 where
    pub taken : List (PlacedGroup T)
    pub is : groups ≡ taken ++ rest
    pub ranges : flat chunks ≡ flat (spread taken)
    pub are : AreChunks rules chunks
    pub after : BeginPast place (flat (spread rest))
