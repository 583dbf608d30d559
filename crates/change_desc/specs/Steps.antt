-- What one section does to a position, and to the replaced ranges.
use Rattle.std.specs.Prelude.{◌≡◌, ℕ, ◌-◌, ◌+◌, ◌≤◌, ltb, Bool, true, false, List, [], ◌∷◌, ◌++◌, Some, None}
use Rattle.std.specs.declared.option.Option.{Option}
use Rattle.change_desc.specs.declared.section.Section.{Section}
use Rattle.change_desc.specs.Sections.{counted, old_of, new_of}
use Rattle.change_desc.specs.declared.map_mode.MapMode.{MapMode}
use Rattle.change_desc.specs.declared.map_mode.MapMode.TheVariants.{Simple, TrackDel, TrackBefore, TrackAfter}
use Rattle.change_desc.specs.Positions.{moved, cuts, is_lost}
use Rattle.change_desc.specs.declared.changed_range.ChangedRange.{ChangedRange}
use Rattle.change_desc.specs.Ranges.{replaced_from, united}

-- the same place further on
abbrev pub plus : ℕ → Option ℕ → Option ℕ
plus n (Some m) = Some (n + m)
plus n None = None

-- whatever follows, the position goes to this place of the section's new text
pub record StopsAt (x : Section ℕ) (p : ℕ) (negative : Bool) (q : ℕ) : Type 0 where
  pub goes : (s : List (Section ℕ)) → moved negative p (cuts counted (x ∷ s)) ≡ Some q
  pub within : q ≤ new_of counted x

-- or it goes where the sections after it say
pub record GoesOn (x : Section ℕ) (p : ℕ) (negative : Bool) : Type 0 where
  pub goes : (s : List (Section ℕ)) → moved negative p (cuts counted (x ∷ s)) ≡ plus (new_of counted x) (moved negative (p - old_of x) (cuts counted s))
  pub past : old_of x ≤ p

-- whatever follows, the section decides whether what is tracked is lost
pub record DecidesLoss (x : Section ℕ) (p : ℕ) (mode : MapMode) (lost : Bool) : Type 0 where
  pub says : (s : List (Section ℕ)) → is_lost counted mode p (x ∷ s) ≡ lost

-- or the sections after it do
pub record LeavesLoss (x : Section ℕ) (p : ℕ) (mode : MapMode) : Type 0 where
  pub says : (s : List (Section ℕ)) → is_lost counted mode p (x ∷ s) ≡ is_lost counted mode (p - old_of x) s
  pub past : old_of x ≤ p

-- whether a Replace loses what is tracked at a place p before its end
abbrev pub loses : MapMode → ℕ → Bool
loses Simple p = false
loses TrackDel p = ltb 0 p
loses TrackBefore p = ltb 0 p
loses TrackAfter p = true

-- a range that may be there, as a list
abbrev pub listed : Option ChangedRange → List ChangedRange
listed (Some r) = r ∷ []
listed None = []

-- whatever follows, the section's range, if it has one, stands before the ranges after it
pub record GivesRange (x : Section ℕ) (a b : ℕ) (o : Option ChangedRange) : Type 0 where
  pub goes : (s : List (Section ℕ)) → replaced_from a b (x ∷ s) ≡ listed o ++ replaced_from (a + old_of x) (b + new_of counted x) s

-- whatever follows, the ranges done and the one that may still grow come to the same
pub record Unites (done after : List ChangedRange) (open_range : Option ChangedRange) (r next : ChangedRange) : Type 0 where
  pub goes : (rs : List ChangedRange) → after ++ united (next ∷ rs) ≡ done ++ united (listed open_range ++ r ∷ rs)
