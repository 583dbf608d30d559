-- A run over lines: what was written and what the answerer is under each status, and why the run ended so.
use Rattle.std.specs.Prelude.{◌≡◌, ℕ, ◌≤◌, ◌<◌, ◌⊎◌, List, length, take, Option, Some, IfSome}
use Rattle.cm_outside.specs.declared.status.Status.{Status}
use Rattle.cm_outside.specs.declared.status.Status.TheVariants.{Ok, Usage, ReadFault, WriteFault, StoreFault, NoMemory, TooMuch, BadFile}
use Rattle.cm_outside.specs.Answering.{Machine, AnswererTold, Exchange, AllAnswered, EndedBetween, EndedByStore, EndedWriting}
use Rattle.cm_outside.specs.Faults.{Rose}
use Rattle.cm_outside.specs.Lines.{lines_of, whole_lines}
use Rattle.cm_outside.specs.Runs.{Run, taken_by, source_rose, sink_rose, answers_of, HasReason, Gave, CountsOn}

-- What a run leaves, over this input, of which `taken` bytes were taken: what was written, and what the answerer is.
abbrev pub Ended : {P : Type 0} → Machine (List ℕ) P → Status → (limit taken : ℕ) → List ℕ → Exchange P → Type 0
-- all lines of an input that was read to its end were answered
Ended m Ok limit taken input exchange = (taken ≡ length input) × AllAnswered m (lines_of input) exchange
-- exactly the lines whose line feed was taken were
Ended m ReadFault limit taken input exchange = AllAnswered m (whole_lines (take taken input)) exchange
-- exactly the lines whose line feed is among the first `limit` bytes were, of an input that has more
Ended m TooMuch limit taken input exchange = (limit < length input) × AllAnswered m (whole_lines (take limit input)) exchange
-- the answer to a line was broken off, and those before it were answered
Ended m StoreFault limit taken input exchange = EndedByStore m (lines_of input) exchange
-- a line was answered, and the write of its reply was broken off
Ended m WriteFault limit taken input exchange = EndedWriting m (lines_of input) exchange
-- some first lines were answered
Ended m NoMemory limit taken input exchange = EndedBetween m (lines_of input) exchange
-- no other status is answered
Ended m Usage limit taken input exchange = ⊥
Ended m BadFile limit taken input exchange = ⊥

-- A run by this machine, whose answerer told `old` before it and tells `new` now, ended with this status. What it leaves is
-- told where the source tells what it has left and the answerer what it is; what was written, where the sink tells it.
pub record Ran {P : Type 0} (m : Machine (List ℕ) P) (old new : AnswererTold P) (status : Status) (run : Run) : Type 0 where
  pub ended : IfSome run.source.left (λ input. IfSome old.plain (λ first.
      Ended m status run.limit (taken_by run) input (answers_of run first new.plain)))
  pub reason : HasReason status run.limit (taken_by run) (source_rose run) (sink_rose run) (Rose old.faults new.faults)
  pub gave : IfSome run.source.left (λ input. Gave (taken_by run) input run.source_now.left)
  -- without a fault and within the limit the input is read to its end, or out of memory
  pub complete : ¬ source_rose run → ¬ sink_rose run → ¬ (Rose old.faults new.faults) → IfSome run.source.left (λ input.
      length input ≤ run.limit → (status ≡ Ok) ⊎ (status ≡ NoMemory))
  pub later : CountsOn run
  pub store_later : old.faults ≤ new.faults

-- A run by this machine, whose answerer was `first` before it, has no store, and was let go at the end.
abbrev pub RanAlone : {P : Type 0} → Machine (List ℕ) P → P → Status → Run → Type 0
RanAlone {P} m first status run = (last : Option P) × Ran m (record { plain = Some first; faults = 0 }) (record { plain = last; faults = 0 }) status run
