-- What a source and a sink in memory show, and what they are after a call.
use Rattle.std.specs.Prelude.{ℕ, ◌+◌, ◌-◌, ◌^◌, List, ◌++◌, drop, length, min, Bool, ◌&&◌, nat_eq, nat_lt, nat_le}
use Rattle.std.specs.List.{list_any}

-- A source over bytes in memory: the bytes left, how many it gave, how many it had given when it was last read, the most that it gives at once, the numbers of
-- the calls that fail, how many calls there were, and how many of them failed.
pub record MemSourceView : Type 0 where
  pub left : List ℕ
  pub given : ℕ
  pub asked : ℕ
  pub piece : ℕ
  pub failing : List ℕ
  pub calls : ℕ
  pub faults : ℕ

-- A sink that keeps bytes in memory: those that it holds, how many it can hold, the numbers of the calls that fail,
-- how many calls there were, and how many of them failed.
pub record MemSinkView : Type 0 where
  pub held : List ℕ
  pub room : ℕ
  pub failing : List ℕ
  pub calls : ℕ
  pub faults : ℕ

-- the call of this number is one of those that fail
abbrev pub is_failing : ℕ → List ℕ → Bool
is_failing call failing = list_any (λ number. nat_eq number call) failing

-- one call or fault more; the count stands still at the greatest 64-bit number
abbrev pub counted : ℕ → ℕ
counted n = min (n + 1) (2 ^ 64 - 1)

-- how many bytes a source gives into a room of this length: as many as it has left, as a piece has, as there is room for
abbrev pub count_given : MemSourceView → ℕ → ℕ
count_given s room = min (min (length s.left) s.piece) room

-- a source that gave this many bytes
abbrev pub source_after : MemSourceView → ℕ → MemSourceView
source_after s count = record s { left = drop count s.left; given = s.given + count; asked = s.given; calls = counted s.calls }

-- a source whose call failed
abbrev pub source_after_failure : MemSourceView → MemSourceView
source_after_failure s = record s { asked = s.given; calls = counted s.calls; faults = counted s.faults }

-- a sink has no room left for a piece of this length, which isn't empty
abbrev pub is_full_for : MemSinkView → ℕ → Bool
is_full_for s len = nat_lt 0 len && nat_le s.room (length s.held)

-- how many bytes of a piece of this length a sink takes: as many as there is room for
abbrev pub count_taken : MemSinkView → ℕ → ℕ
count_taken s len = min len (s.room - length s.held)

-- a sink that took these bytes
abbrev pub sink_after : MemSinkView → List ℕ → MemSinkView
sink_after s bytes = record s { held = s.held ++ bytes; calls = counted s.calls }

-- a sink whose call failed
abbrev pub sink_after_failure : MemSinkView → MemSinkView
sink_after_failure s = record s { calls = counted s.calls; faults = counted s.faults }
