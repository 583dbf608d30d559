-- A store that keeps files in memory.
use Rattle.std.specs.Prelude.{◌≡◌, ℕ, List, Bool, cond, nat_eq}
use Rattle.std.specs.Cmp.Lexicographic.{pointwise}
use Rattle.std.specs.List.{find}
use Rattle.std.specs.Option.{option_map}
use Rattle.cm_outside.specs.Files.{Files}
use Rattle.cm_outside.specs.Memory.{counted, is_failing}
use Rattle.cm_outside.specs.declared.leaves.Leaves.{Leaves}

-- a file: its name as characters, and its bytes
pub record FileView : Type 0 where
  pub name : List ℕ
  pub bytes : List ℕ

-- What a store in memory shows: its files, the numbers of the calls that fail, what a save that fails leaves, how many calls
-- there were, and how many of them failed.
pub record MemStoreView : Type 0 where
  pub files : List FileView
  pub failing : List ℕ
  pub leaves : Leaves
  pub calls : ℕ
  pub faults : ℕ

-- whether a file has this name
abbrev pub is_named : List ℕ → FileView → Bool
is_named name f = pointwise nat_eq f.name name

-- the files of a list, where the first one of a name counts
abbrev pub files_of : List FileView → Files
files_of files name = option_map (λ (f : FileView). f.bytes) (find (is_named name) files)

-- a call was counted, and a fault where it is one of those that fail; nothing but files changed beside
pub record IsCounted (old new : MemStoreView) : Type 0 where
  pub failing : new.failing ≡ old.failing
  pub leaves : new.leaves ≡ old.leaves
  pub calls : new.calls ≡ counted old.calls
  pub faults : new.faults ≡ cond (is_failing old.calls old.failing) (counted old.faults) old.faults
