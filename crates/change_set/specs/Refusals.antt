-- When a list of changes is refused, and with which values (Reference Manual: ChangeSet.of).
use Rattle.std.specs.Prelude.{ℕ, suc, ◌||◌, ltb, eqb, cond, List, [], ◌∷◌, Some, None}
use Rattle.std.specs.declared.option.Option.{Option}
use Rattle.std.specs.Option.{option_or}
use Rattle.change_desc.specs.declared.section.Section.{Section}
use Rattle.change_desc.specs.declared.section.Section.TheVariants.{Keep}
use Rattle.change_desc.specs.Sections.{spelled, old_size, new_size, normal}
use Rattle.change_desc.specs.Of.{then_also}
use Rattle.change_set.specs.declared.change.Change.{Change}
use Rattle.change_set.specs.declared.change.Change.TheVariants.{Span, Set}
use Rattle.change_set.specs.declared.error.ChangesError.{ChangesError}
use Rattle.change_set.specs.declared.error.ChangesError.TheVariants.{BadRange, LengthMismatch, TooLong}
use Rattle.change_set.specs.Changes.{as_sets}

-- what is wrong with one change of a document of this length: a range that is reversed or ends past the document,
-- or a set over a document of another length
abbrev pub fault : (len index : ℕ) → Change → Option ChangesError
fault len index (Span from to insert) = cond (ltb to from || ltb len to) (Some (BadRange index from to len)) None
fault len index (Set changes) = cond (eqb (old_size changes) len) None (Some (LengthMismatch len (old_size changes)))

-- the first fault in a list whose first change has this index
abbrev pub first_fault : (len index : ℕ) → List Change → Option ChangesError
first_fault len index [] = None
first_fault len index (change ∷ changes) = option_or (fault len index change) (first_fault len (suc index) changes)

-- the first of the running totals that leads to a text longer than max: the total at the start, and the one after
-- each set that is put in
abbrev pub too_long : (max : ℕ) (total : List (Section (List ℕ))) → List (List (Section (List ℕ))) → Option ChangesError
too_long max total [] = cond (ltb max (new_size spelled total)) (Some (TooLong (new_size spelled total) max)) None
too_long max total (set ∷ sets) =
    cond (ltb max (new_size spelled total)) (Some (TooLong (new_size spelled total) max)) (too_long max (then_also spelled total set) sets)

-- why a list of changes of a document of this length is refused, if it is: its first fault, or else the first running
-- total that is too long
abbrev pub refusal : (len max : ℕ) → List Change → Option ChangesError
refusal len max changes = option_or (first_fault len 0 changes) (too_long max (normal spelled (Keep len ∷ [])) (as_sets len changes))
