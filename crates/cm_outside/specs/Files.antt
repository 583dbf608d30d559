-- Files by their names, and what a load and a save make of them.
use Rattle.std.specs.Prelude.{◌≡◌, ◌≢◌, ℕ, ◌⊎◌, List, Option, Some, Result, Ok, Err, Vec, ⊤}
use Rattle.std.specs.Option.{IsSomeAnd, option_map}
use Rattle.std.specs.declared.alloc.Global.{Global}
use Rattle.cm_outside.specs.declared.store_fault.StoreFault.{StoreFault}
use Rattle.cm_outside.specs.declared.store_fault.StoreFault.TheVariants.{Failed, NoMemory}

-- Files: the bytes of each by its name, none where there is no such file.
abbrev pub Files : Type 0
Files = (name : List ℕ) → Option (List ℕ)

-- each file is as it was
abbrev pub AreSame : (old new : Files) → Type 0
AreSame old new = (name : List ℕ) → new name ≡ old name

-- one file has these bytes, and each other one is as it was
pub record IsSaved (name bytes : List ℕ) (old new : Files) : Type 0 where
  pub file : new name ≡ Some bytes
  pub others : (other : List ℕ) → other ≢ name → new other ≡ old other

-- the bytes of a file that was found
abbrev pub found_bytes : Option (Vec ℕ Global) → Option (List ℕ)
found_bytes found = option_map (λ (v : Vec ℕ Global). v.items) found

-- the bytes of the file are given, or that there is no such file
abbrev pub IsLoaded : Result (Option (Vec ℕ Global)) StoreFault → List ℕ → Files → Type 0
IsLoaded (Ok found) name files = found_bytes found ≡ files name
IsLoaded (Err fault) name files = ⊤

-- A load gives the file's bytes, and changes no file, whatever it answers.
pub record Loads (result : Result (Option (Vec ℕ Global)) StoreFault) (name : List ℕ) (old : Files) (now : Option Files) : Type 0 where
  pub loaded : IsLoaded result name old
  pub same : IsSomeAnd now (AreSame old)

-- A save replaces the whole file. Where it failed, the file is as before or as asked; out of memory changes nothing.
abbrev pub Saves : Result (Unit {0}) StoreFault → (name bytes : List ℕ) → (old : Files) → (now : Option Files) → Type 0
Saves (Ok done) name bytes old now = IsSomeAnd now (IsSaved name bytes old)
Saves (Err Failed) name bytes old now = IsSomeAnd now (λ new. AreSame old new ⊎ IsSaved name bytes old new)
Saves (Err NoMemory) name bytes old now = IsSomeAnd now (AreSame old)
