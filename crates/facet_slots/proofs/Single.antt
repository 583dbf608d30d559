-- A list of one.
use Rattle.std.proofs.Common.{arith, ◌≡◌, ◌<◌, ◌≤◌, ℕ, List, [], ◌∷◌, get_or, length, ap, sym}

pub one_node : (ns : List ℕ) → length ns < 2 → 1 ≤ length ns → (n : ℕ) → n ≡ get_or ns 0 n → ns ≡ n ∷ []
one_node [] below some n e = absurd (omega (arith, some))
one_node (x ∷ []) below some n e = ap (λ (k : ℕ). k ∷ []) (sym e)
one_node (x ∷ y ∷ ns) below some n e = absurd (omega (arith, below))
