-- The flat order as the code makes it: precedence by precedence, each leaf where it was not taken before. Private
-- clauses alone speak of it.
use Rattle.std.specs.Prelude.{ℕ, List, [], ◌∷◌, ◌++◌, cond, eqb, fold}
use Rattle.std.specs.List.{list_any}
use Rattle.ext_tree.specs.declared.visit.Visit.{Visit}
use Rattle.ext_tree.specs.Flat.{levels, at_level}

-- taken in: a node stands at the end of a list unless the list has it
abbrev pub take_in : List ℕ → ℕ → List ℕ
take_in taken n = cond (list_any (eqb n) taken) taken (taken ++ n ∷ [])

-- taken at a level: the nodes of one precedence are taken in, in order
abbrev pub take_level : List Visit → List ℕ → ℕ → List ℕ
take_level vs taken i = fold take_in taken (at_level i vs)

-- flat: the leaves from the highest precedence to the lowest, each at its first place
abbrev pub flat : List Visit → List ℕ
flat vs = fold (take_level vs) [] levels
