-- The greatest of some numbers, one more at a time.
use Rattle.std.specs.Prelude.{◌≡◌, ℤ, List, [], ◌∷◌, ◌++◌, fold, Option, Some, None, refl}
use Rattle.std.specs.Int.{int_max}
use Rattle.std.proofs.Common.{ap}
use Rattle.std.proofs.lemmas.List.Sums.{fold-append}
use Rattle.values.specs.Combining.{greatest_of}

-- the greater of a number found before, if there is one, and another
abbrev pub greater_of : Option ℤ → ℤ → Option ℤ
greater_of (Some before) z = Some (int_max before z)
greater_of None z = Some z

pub greatest-push : (zs : List ℤ) (z : ℤ) → greatest_of (zs ++ z ∷ []) ≡ greater_of (greatest_of zs) z
greatest-push [] z = refl
greatest-push (w ∷ ws) z = ap Some (fold-append int_max w ws (z ∷ []))
