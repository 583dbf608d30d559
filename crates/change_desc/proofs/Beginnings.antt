-- Sections that are passed for each place after their end.
use Rattle.std.proofs.Common.{◌≡◌, ℕ, ◌+◌, ◌<◌, List, length, get_or, drop, sym, subst, ap, arith}
use Rattle.change_desc.specs.declared.section.Section.{Section}
use Rattle.change_desc.specs.declared.passed.Passed.{Passed}
use Rattle.change_desc.specs.Index.{ArePassed}
use Rattle.change_desc.specs.Sections.{counted, old_of, new_of, old_size, new_size}
use Rattle.change_desc.specs.Walker.{IsPassed}
use Rattle.change_desc.proofs.Walks.{Begins, begins, passed-more}

-- the section after those that are passed
pub begins_at : (s : List (Section ℕ)) (w : Passed) (i : ℕ) (d : Section ℕ) → w.count ≡ i → i < length s → Begins s w.count (get_or s i d)
begins_at s w i d e l = subst (λ (n : ℕ). Begins s n (get_or s i d)) (sym e) (begins s i d l)

module _ (s : List (Section ℕ)) (w : Passed) (x : Section ℕ) where
  pub old_within : (n : ℕ) → Begins s w.count x → ArePassed s w → old_size s < n → w.old + old_of x < n
  old_within n b h l = let k = h (w.old + 1) (omega arith) in omega (arith, k.old, ap old_size b.splits, l)

  pub new_within : (n : ℕ) → Begins s w.count x → ArePassed s w → new_size counted s < n → w.new + new_of counted x < n
  new_within n b h l = let k = h (w.old + 1) (omega arith) in omega (arith, k.new, ap (new_size counted) b.splits, l)

  -- with one more
  pub more_passed : w.count < length s → Begins s w.count x → ArePassed s w →
      ArePassed s (record { count = w.count + 1; old = w.old + old_of x; new = w.new + new_of counted x })
  more_passed l b h = λ p k. passed-more s w p x l b (omega (arith, k)) (h p (omega (arith, k)))
