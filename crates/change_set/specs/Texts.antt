-- The texts of a set in a row, and sections with given lengths filled from such a row: for private clauses.
use Rattle.std.specs.Prelude.{ℕ, suc, ◌+◌, Bool, true, false, List, [], ◌∷◌, ◌++◌, take, drop, replicate}
use Rattle.change_desc.specs.declared.section.Section.{Section}
use Rattle.change_desc.specs.declared.section.Section.TheVariants.{Keep, Replace}

-- the texts that are put in, one after the other
abbrev pub written : {C : Type 0} → List (Section (List C)) → List C
written [] = []
written (Keep n ∷ s) = written s
written (Replace n t ∷ s) = t ++ written s

-- sections with texts of these lengths, taken from a row of texts
abbrev pub filled : {C : Type 0} → List (Section ℕ) → List C → List (Section (List C))
filled [] text = []
filled (Keep n ∷ s) text = Keep n ∷ filled s text
filled (Replace n m ∷ s) text = Replace n (take m text) ∷ filled s (drop m text)

-- for each character of the old text, whether it is kept
abbrev pub kept_marks : {T : Type 0} → List (Section T) → List Bool
kept_marks [] = []
kept_marks (Keep n ∷ s) = replicate n true ++ kept_marks s
kept_marks (Replace n t ∷ s) = replicate n false ++ kept_marks s

-- how many are marked
abbrev pub marked : List Bool → ℕ
marked [] = 0
marked (true ∷ marks) = suc (marked marks)
marked (false ∷ marks) = marked marks

-- how many are not
abbrev pub unmarked : List Bool → ℕ
unmarked [] = 0
unmarked (true ∷ marks) = unmarked marks
unmarked (false ∷ marks) = suc (unmarked marks)

-- The texts of two sets one after the other: those that the second puts in, and of those that the first put in what the
-- second keeps. The marks say of each character between which are kept from the old text; `first` are the others.
abbrev pub texts_between : {C : Type 0} → (marks : List Bool) (first : List C) → List (Section (List C)) → List C
texts_between marks first [] = []
texts_between marks first (Keep n ∷ s) =
    take (unmarked (take n marks)) first ++ texts_between (drop n marks) (drop (unmarked (take n marks)) first) s
texts_between marks first (Replace n t ∷ s) =
    t ++ texts_between (drop n marks) (drop (unmarked (take n marks)) first) s

-- of the marked characters, how many a set over them keeps
abbrev pub kept_of : {T : Type 0} → (marks : List Bool) → List (Section T) → ℕ
kept_of marks [] = 0
kept_of marks (Keep n ∷ s) = marked (take n marks) + kept_of (drop n marks) s
kept_of marks (Replace n t ∷ s) = kept_of (drop n marks) s

-- how many characters the texts have together
abbrev pub text_total : List (Section ℕ) → ℕ
text_total [] = 0
text_total (Keep n ∷ s) = text_total s
text_total (Replace n m ∷ s) = m + text_total s

-- what a section of the second set takes: the next characters of the first set's texts, or its own text
abbrev pub text_of_section : {C : Type 0} → (count : ℕ) (first : List C) → Section (List C) → List C
text_of_section count first (Keep n) = take count first
text_of_section count first (Replace n t) = t
