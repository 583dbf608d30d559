-- What a store tells, alone and beside a session.
use Rattle.std.specs.Prelude.{ℕ, Option}
use Rattle.cm_outside.specs.Answering.{AnswererTold}
use Rattle.cm_outside.specs.Files.{Files}
use Rattle.session.specs.State.{PlainSession, Desk, desk_of}

-- what a store tells: its files, where it tells them, and how often it failed
pub record StoreTold : Type 0 where
  pub files : Option Files
  pub faults : ℕ

-- what a store tells, by what each count of its kind is
abbrev pub store_told : {D : Type 0} → (D → Option Files) → (D → ℕ) → D → StoreTold
store_told files faults d = record { files = files d; faults = faults d }

-- what a session beside a store tells
abbrev pub desk_told : PlainSession → StoreTold → AnswererTold Desk
desk_told s store = record { plain = desk_of s store.files; faults = store.faults }
