use Rattle.std.specs.Prelude.{ℕ, List, Option, None, cond, eqb}
use Rattle.std.specs.Ordering.{nat_cmp}
use Rattle.std.specs.List.{list_any}
use Rattle.std.specs.List.Sorted.{IsStrictlySortedBy}
use Rattle.std.specs.Map.{keys_of, values_of, lookup}
use Rattle.std.specs.BTreeMap.{is_at, insert_entry}

-- set content: the node that a compartment was set to (Reference Manual, Compartment.reconfigure)
abbrev pub content_of : List (ℕ × ℕ) → ℕ → Option ℕ
content_of contents c = lookup (is_at (nat_cmp c)) contents

-- with a content: a compartment has this content in place of what it had, or else is put where its number belongs
abbrev pub with_content : List (ℕ × ℕ) → ℕ → ℕ → List (ℕ × ℕ)
with_content contents c node = insert_entry nat_cmp contents c node

-- ascending: the compartments ascend, so each stands once
abbrev pub AreAscending : List (ℕ × ℕ) → Type 0
AreAscending contents = IsStrictlySortedBy nat_cmp (keys_of contents)

-- kept content: that of a compartment that is kept, none of any other
abbrev pub kept_content : List ℕ → List (ℕ × ℕ) → ℕ → Option ℕ
kept_content kept contents c = cond (list_any (eqb c) kept) (content_of contents c) None

-- content nodes: the nodes that compartments were set to, by compartment
abbrev pub content_nodes : List (ℕ × ℕ) → List ℕ
content_nodes contents = values_of contents
