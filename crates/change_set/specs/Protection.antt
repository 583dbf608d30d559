-- What private clauses say of the two halves of a filtered set.
use Rattle.std.specs.Prelude.{ℕ, ◌<◌, ◌^◌, Bool, true, false, not, List, ◌++◌}
use Rattle.change_desc.specs.declared.section.Section.{Section}
use Rattle.change_desc.specs.declared.section.Section.TheVariants.{Keep, Replace}
use Rattle.change_desc.specs.Sections.{Sections, spelled, normal, old_size, new_size}
use Rattle.change_desc.specs.Columns.{Row, Fate, follows, times, along_old}
use Rattle.change_desc.specs.Pieces.{closed, gather}
use Rattle.change_desc.specs.Filter.{taken, is_protected, is_inside}
use Rattle.change_set.specs.declared.half.Half.{Half}
use Rattle.change_set.specs.declared.half.Half.TheVariants.{Kept, Dropped}

-- what a half takes over: the half, the protected ranges, and the length of the document
pub record Taking : Type 0 where
  pub half : Half
  pub ranges : List (ℕ × ℕ)
  pub len : ℕ

abbrev pub taking : Half → List (ℕ × ℕ) → (len : ℕ) → Taking
taking half ranges len = record { half = half; ranges = ranges; len = len }

-- whether a half has the deletion of a character, or the insertion at a place, that is protected or not
abbrev pub takes : Half → (is_protected : Bool) → Bool
takes Kept b = not b
takes Dropped b = b

abbrev pub takes_char : Taking → ℕ → Bool
takes_char t p = takes t.half (is_protected t.ranges t.len p)

abbrev pub takes_place : Taking → ℕ → Bool
takes_place t p = takes t.half (is_inside t.ranges t.len p)

-- what a row comes to in one half, from a place on
abbrev pub pieced : Taking → ℕ → Row (List ℕ) (Fate (List ℕ)) → Sections
pieced t p r = closed spelled (gather spelled (taken spelled (takes_char t) (takes_place t) p r))

-- what is done of a half, and what sections that begin at a place come to in it
abbrev pub half_from : Taking → (done : Sections) → ℕ → Sections → Sections
half_from t done p s = normal spelled (done ++ pieced t p (along_old spelled s))

-- the same inside a section, of which so many deleted characters are left
abbrev pub half_within : Taking → (done : Sections) → ℕ → (left : ℕ) → Sections → Sections
half_within t done p left s = normal spelled (done ++ pieced t p (times spelled left follows (along_old spelled s)))

-- the section of one run of deleted characters in a half: their deletion with a text, or characters that are kept
abbrev pub run_section : (is_taken : Bool) → ℕ → List ℕ → Section (List ℕ)
run_section true n t = Replace n t
run_section false n t = Keep n

-- a list of sections both of whose texts have a length that fits
pub record HasRoom (s : Sections) : Type 0 where
  pub old_fits : old_size s < 2 ^ 32
  pub new_fits : new_size spelled s < 2 ^ 32

-- how many characters a run of deleted ones gives to the new text of a half, with a text of so many
abbrev pub given_len : (is_taken : Bool) → (count text : ℕ) → ℕ
given_len true n m = m
given_len false n m = n
