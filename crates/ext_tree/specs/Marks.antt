use Rattle.std.specs.Prelude.{◌≡◌, ◌<◌, ℕ, ◌+◌, List, [], ◌∷◌, Bool, false, cond, eqb, Option, length, get_or}
use Rattle.std.specs.List.{list_any}
use Rattle.std.specs.Map.{lookup}
use Rattle.std.specs.BTreeMap.{is_at}
use Rattle.std.specs.Ordering.{nat_cmp}
use Rattle.std.specs.Option.{unwrap_or}
use Rattle.ext_tree.specs.declared.visit.Visit.{Visit}
use Rattle.ext_tree.specs.Tree.{Tree}
use Rattle.ext_tree.specs.Unfolding.{is_slot_of}
use Rattle.ext_tree.specs.Refusal.{first_met}

-- kept for: what a table has for a compartment, if anything
abbrev pub kept_for : List (ℕ × ℕ) → ℕ → Option ℕ
kept_for table c = lookup (is_at (nat_cmp c)) table

-- count: the number that a table has for a compartment, 0 where it has none
abbrev pub count_of : List (ℕ × ℕ) → ℕ → ℕ
count_of table c = unwrap_or (kept_for table c) 0

-- slots on a path: how many slots of a compartment stand on it
abbrev pub slots_on : Tree → ℕ → List ℕ → ℕ
slots_on t c [] = 0
slots_on t c (s ∷ path) = cond (is_slot_of t c s) 1 0 + slots_on t c path

-- open slots: for each compartment the count of its slots on the path
abbrev pub AreOpen : Tree → List ℕ → List (ℕ × ℕ) → Type 0
AreOpen t path counts = (c : ℕ) → count_of counts c ≡ slots_on t c path

-- first slots: for each compartment the first of its slots that was met
abbrev pub AreFirsts : Tree → List ℕ → List (ℕ × ℕ) → Type 0
AreFirsts t met firsts = (c : ℕ) → kept_for firsts c ≡ first_met t c met

-- taken: a mark for each node that a list has
pub record AreTaken (taken : List ℕ) (marks : List Bool) : Type 0 where
  pub marked : (n : ℕ) → n < length marks → get_or marks n false ≡ list_any (eqb n) taken

-- within: a leaf's node is less than a number
abbrev pub IsWithin : ℕ → Visit → Type 0
IsWithin room v = v.node < room
