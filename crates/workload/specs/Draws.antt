-- Random numbers below 2 ^ 15: the generator that the C standard shows as an example of `rand`.
use Rattle.std.specs.Prelude.{ℕ, ◌+◌, ◌*◌, ◌/◌, ◌%◌, ◌^◌, List, [], ◌∷◌, zero, suc}

-- what a draw sets the generator's number to
abbrev pub next_seed : ℕ → ℕ
next_seed seed = (seed * 1103515245 + 12345) % 2 ^ 31

-- what a draw gives, by the number that it set
abbrev pub drawn : ℕ → ℕ
drawn seed = seed / 65536

-- the next draws
abbrev pub draws : ℕ → ℕ → List ℕ
draws zero seed = []
draws (suc count) seed = drawn (next_seed seed) ∷ draws count (next_seed seed)
