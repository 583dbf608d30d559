use Rattle.std.proofs.Common.{◌≡◌, ◌<◌, ℕ, slice_index_or}
use Rattle.values.proofs.numbered.find.Given as goal

abbrev pub invariant-loop-place : goal.invariant-loop-place
invariant-loop-place g l = (k : ℕ) (d : _) → k < l.place → g.T.Numbered.number_of (slice_index_or l.list k d) ≡ l.number → ⊥
