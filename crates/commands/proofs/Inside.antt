-- Each range of a selection that lies in a document ends in it.
use Rattle.std.proofs.Common.{◌≡◌, ℕ, zero, suc, ◌<◌, ◌≤◌, List, [], ◌∷◌, length, get_or, arith}
use Rattle.selection.specs.declared.range.Range.{Range}
use Rattle.selection.specs.Ranges.{high}
use Rattle.selection.specs.Selections.{LieIn}

pub high_within : (len : ℕ) (rs : List Range) (i : ℕ) (d : Range) → LieIn len rs → i < length rs → high (get_or rs i d) ≤ len
high_within len [] i d lie within = absurd (omega arith)
high_within len (r ∷ rs) zero d lie within = lie.0
high_within len (r ∷ rs) (suc i) d lie within = high_within len rs i d lie.1 (omega arith)
