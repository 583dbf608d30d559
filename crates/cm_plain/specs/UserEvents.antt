-- User events and those below them (manual: Transaction.isUserEvent).
use Rattle.std.specs.Prelude.{ℕ, Bool, true, eqb, ◌&&◌, List, [], ◌∷◌, drop, length}
use Rattle.std.specs.List.{starts_with}

-- nothing follows, or a full stop
abbrev pub ends_or_stops : List ℕ → Bool
ends_or_stops [] = true
ends_or_stops (c ∷ cs) = eqb c 46

-- Is below: an event starts with another one, and ends there or goes on with a full stop. So each event is below itself.
abbrev pub is_below : (event of : List ℕ) → Bool
is_below event of = starts_with eqb event of && ends_or_stops (drop (length of) event)
