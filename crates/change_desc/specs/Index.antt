-- The places of a description from which a walk may begin.
use Rattle.std.specs.Prelude.{ℕ, ◌<◌, List, All}
use Rattle.change_desc.specs.declared.section.Section.{Section}
use Rattle.change_desc.specs.declared.passed.Passed.{Passed}
use Rattle.change_desc.specs.Sections.{IsSet, counted}
use Rattle.change_desc.specs.Walker.{IsPassed}

-- sections that are passed for each place after their end
abbrev pub ArePassed : List (Section ℕ) → Passed → Type 0
ArePassed s passed = (p : ℕ) → passed.old < p → IsPassed s passed p

-- the sections of a description, and some beginnings of them
pub record IsIndex (s : List (Section ℕ)) (beginnings : List Passed) : Type 0 where
  pub is_set : IsSet counted s
  pub are_passed : All (ArePassed s) beginnings
