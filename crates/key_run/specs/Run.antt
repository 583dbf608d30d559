-- A run over keys: what was written and what the answerer is under each status, and why the run ended so.
use Rattle.std.specs.Prelude.{◌≡◌, ℕ, ◌+◌, ◌≤◌, ◌<◌, ◌⊎◌, true, false, if◌then◌else◌, List, length, take, Option, IfSome}
use Rattle.std.specs.Option.{IsSomeAnd}
use Rattle.cm_outside.specs.declared.status.Status.{Status}
use Rattle.cm_outside.specs.declared.status.Status.TheVariants.{Ok, Usage, ReadFault, WriteFault, StoreFault, NoMemory, TooMuch, BadFile}
use Rattle.cm_outside.specs.Answering.{AnswererTold, Exchange, AllAnswered, EndedBetween, EndedByStore, EndedWriting}
use Rattle.cm_outside.specs.Faults.{Rose}
use Rattle.cm_outside.specs.Runs.{Run, taken_by, source_rose, sink_rose, answers_of, HasReason, Gave, CountsOn}
use Rattle.cm_outside.specs.Times.{Times}
use Rattle.key_run.specs.Typing.{KeyMachine, shown, events, typed, has_quit}

-- the input was read to its end, or Quit is among the keys of the bytes taken; those after it don't count
abbrev pub IsReadOut : (taken : ℕ) → List ℕ → Type 0
IsReadOut taken input = (taken ≡ length input) ⊎ (has_quit (take taken input) ≡ true)

-- What a run leaves, over this input, of which `taken` bytes were taken, with these times: what was written, and what the
-- answerer is.
abbrev pub Ended : {P : Type 0} → KeyMachine P → Status → (limit taken : ℕ) → List ℕ → Times → Exchange P → Type 0
-- all keys up to the first Quit were answered
Ended m Ok limit taken input times exchange = IsReadOut taken input × AllAnswered (shown m) (events times input) exchange
-- exactly the keys of the bytes taken were, among which is no Quit
Ended m ReadFault limit taken input times exchange = (has_quit (take taken input) ≡ false) × AllAnswered (shown m) (events times (take taken input)) exchange
-- exactly the keys of the first `limit` bytes were, among which is no Quit, of an input that has more
Ended m TooMuch limit taken input times exchange =
    (limit < length input) × (has_quit (take limit input) ≡ false) × AllAnswered (shown m) (events times (take limit input)) exchange
-- the answer to a key was broken off, and those before it were answered
Ended m StoreFault limit taken input times exchange = EndedByStore (shown m) (events times input) exchange
-- the write of a frame was broken off
Ended m WriteFault limit taken input times exchange = EndedWriting (shown m) (events times input) exchange
-- some first keys were answered
Ended m NoMemory limit taken input times exchange = EndedBetween (shown m) (events times input) exchange
-- no other status is answered
Ended m Usage limit taken input times exchange = ⊥
Ended m BadFile limit taken input times exchange = ⊥

-- how many keys there are up to the first Quit, itself counted
abbrev pub key_count : List ℕ → ℕ
key_count bytes = length (typed bytes) + (if has_quit bytes then 1 else 0)

-- a clock with these times was read this often
abbrev pub IsReadTimes : ℕ → Times → Option Times → Type 0
IsReadTimes count times now = IsSomeAnd now (λ later. (n : ℕ) → later n ≡ times (count + n))

-- how often the clock was read: once for each key, and for Quit too
abbrev pub ReadsClock : Status → (limit taken : ℕ) → List ℕ → Times → Option Times → Type 0
ReadsClock Ok limit taken input times now = IsReadTimes (key_count input) times now
ReadsClock ReadFault limit taken input times now = IsReadTimes (key_count (take taken input)) times now
ReadsClock TooMuch limit taken input times now = IsReadTimes (key_count (take limit input)) times now
ReadsClock _ limit taken input times now = Unit {0}

-- the input has at most `limit` bytes, or so many up to Quit, its own counted
abbrev pub IsWithin : (limit : ℕ) → List ℕ → Type 0
IsWithin limit input = (length input ≤ limit) ⊎ (has_quit (take limit input) ≡ true)

-- A run by this machine, whose answerer told `old` before it and tells `new` now, and whose clock told `times` and tells
-- `times_now`, ended with this status. What it leaves is told where the source, the answerer and the clock tell theirs;
-- what was written, where the sink tells it.
pub record Ran {P : Type 0} (m : KeyMachine P) (old new : AnswererTold P) (times times_now : Option Times) (status : Status) (run : Run) : Type 0 where
  pub ended : IfSome run.source.left (λ input. IfSome old.plain (λ first. IfSome times (λ t.
      Ended m status run.limit (taken_by run) input t (answers_of run first new.plain))))
  pub reason : HasReason status run.limit (taken_by run) (source_rose run) (sink_rose run) (Rose old.faults new.faults)
  pub gave : IfSome run.source.left (λ input. Gave (taken_by run) input run.source_now.left)
  -- without a fault and within the limit the input is read to its end or up to Quit, or out of memory
  pub complete : ¬ source_rose run → ¬ sink_rose run → ¬ (Rose old.faults new.faults) → IfSome run.source.left (λ input.
      IsWithin run.limit input → (status ≡ Ok) ⊎ (status ≡ NoMemory))
  pub clock : IfSome run.source.left (λ input. IfSome times (λ t. ReadsClock status run.limit (taken_by run) input t times_now))
  pub later : CountsOn run
  pub store_later : old.faults ≤ new.faults
