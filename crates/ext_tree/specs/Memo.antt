use Rattle.std.specs.Prelude.{ℕ, ◌+◌, ◌*◌, List, Bool, false, slice_get}
use Rattle.std.specs.Option.{unwrap_or}
use Rattle.ext_tree.specs.declared.visit.Visit.{Visit}
use Rattle.ext_tree.specs.Flat.{level, precedences}

-- the place of a node's mark
abbrev pub place_of : Visit → ℕ
place_of v = v.node * precedences + level v.precedence

-- walked: whether a node is marked at a precedence
abbrev pub is_walked : List Bool → Visit → Bool
is_walked marks v = unwrap_or (slice_get marks (place_of v)) false
