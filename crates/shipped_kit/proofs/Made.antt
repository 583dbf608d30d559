-- What is said of each rule that was made of a number.
use Rattle.std.proofs.Common.{All, List, ℕ}
use Rattle.transaction.specs.Numbers.{IsNumber}

pub all_made : {X : Type 0} {count : ℕ} (Q : X → Type 0) (xs : List X) → All (λ x. (n : ℕ) × (IsNumber count n × Q x)) xs → All Q xs
all_made Q xs h i d inside = let p = h i d inside in p.1.1
