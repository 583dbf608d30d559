use Rattle.std.specs.Prelude.{ℕ, List, not, nat_lt, filter, Option}
use Rattle.id_lists.specs.Least.{least}

-- unknown ids: those of a list that are no node of an arena of so many nodes
abbrev pub unknown_ids : ℕ → List ℕ → List ℕ
unknown_ids count ids = filter (λ (n : ℕ). not (nat_lt n count)) ids

-- least unknown id of a list, none where all are known
abbrev pub least_unknown : ℕ → List ℕ → Option ℕ
least_unknown count ids = least (unknown_ids count ids)
