use Rattle.std.proofs.Common.{◌≤◌, ℕ}
use Rattle.values.specs.Numbered.{HasNumber}
use Rattle.values.proofs.numbered.first_gap.Given as goal

abbrev pub invariant-loop-below : goal.invariant-loop-below
invariant-loop-below g l = (m : ℕ) → 1 ≤ m → m ≤ l.below → HasNumber g.T.Numbered.number_of l.list m
