-- Ends of a range of a document. Private.
use Rattle.std.specs.Prelude.{ℕ, ◌≤◌}

-- both lie in a document of this length
abbrev pub AreIn : ℕ → ℕ × ℕ → Type 0
AreIn len ends = (ends.0 ≤ len) × (ends.1 ≤ len)
