-- Places in a walk over the old text of a description: for private clauses.
use Rattle.std.specs.Prelude.{ℕ, ◌≤◌, Bool, List, [], ◌∷◌, length, drop}
use Rattle.change_desc.specs.declared.section.Section.{Section}
use Rattle.change_desc.specs.declared.section.Section.TheVariants.{Keep, Replace}
use Rattle.change_desc.specs.Sections.{old_of}
use Rattle.change_set.specs.declared.place.Place.{Place}
use Rattle.change_set.specs.Texts.{kept_marks}

-- the marks of the characters that are left
abbrev pub marks_at : List (Section ℕ) → Place → List Bool
marks_at s place = drop place.offset (kept_marks (drop place.index s))

-- how many characters the first section has
abbrev pub first_len : List (Section ℕ) → ℕ
first_len [] = 0
first_len (x ∷ s) = old_of x

-- the place is in a section or at its end
pub record IsPlace (s : List (Section ℕ)) (place : Place) : Type 0 where
  pub index : place.index ≤ length s
  pub offset : place.offset ≤ first_len (drop place.index s)

-- how many of the next characters of a section are kept
abbrev pub kept_count : ℕ → Section ℕ → ℕ
kept_count n (Keep m) = n
kept_count n (Replace m t) = 0
