-- What private clauses say of running totals.
use Rattle.std.specs.Prelude.{◌≡◌, ℕ, ◌≤◌, ◌<◌, List, None, fold, drop}
use Rattle.change_desc.specs.Sections.{Sections, spelled, old_size, new_size}
use Rattle.change_desc.specs.Of.{then_also, of}
use Rattle.change_set.specs.declared.change.Change.{Change}
use Rattle.change_set.specs.declared.change.Change.TheVariants.{Span, Set}
use Rattle.change_set.specs.declared.error.ChangesError.{ChangesError}
use Rattle.change_set.specs.declared.error.ChangesError.TheVariants.{TooLong}
use Rattle.change_set.specs.Changes.{as_sets}
use Rattle.change_set.specs.Refusals.{first_fault, too_long, refusal}

-- a change of a document of this length that has no fault
abbrev pub IsOver : ℕ → Change → Type 0
IsOver len (Span from to insert) = (from ≤ to) × (to ≤ len)
IsOver len (Set changes) = old_size changes ≡ len

-- the total is too long, and the error says so
pub record IsTooLong (max : ℕ) (total : Sections) (error : ChangesError) : Type 0 where
  pub says : error ≡ TooLong (new_size spelled total) max
  pub longer : max < new_size spelled total

-- the total of the first i changes: going on from it with the others gives the set that all make, and their refusal
pub record IsTotal (len max i : ℕ) (total : Sections) (changes : List Change) : Type 0 where
  pub folds : fold (then_also spelled) total (as_sets len (drop i changes)) ≡ of spelled len (as_sets len changes)
  pub rest : too_long max total (as_sets len (drop i changes)) ≡ refusal len max changes
  pub sound : first_fault len i (drop i changes) ≡ None
  pub old : old_size total ≡ len
  pub short : new_size spelled total ≤ max
