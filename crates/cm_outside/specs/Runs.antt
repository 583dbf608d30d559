-- A run over a source and a sink: how many bytes it took, and why it ended so.
use Rattle.std.specs.Prelude.{◌≡◌, ℕ, ◌+◌, ◌-◌, ◌≤◌, List, length, drop, Option, Some}
use Rattle.cm_outside.specs.declared.status.Status.{Status}
use Rattle.cm_outside.specs.declared.status.Status.TheVariants.{Ok, Usage, ReadFault, WriteFault, StoreFault, NoMemory, TooMuch, BadFile}
use Rattle.cm_outside.specs.Answering.{Exchange, exchange_of}
use Rattle.cm_outside.specs.Faults.{Rose}
use Rattle.cm_outside.specs.Sink.{SinkTold}
use Rattle.cm_outside.specs.Source.{SourceTold}

-- A run: the greatest number of bytes that it takes, and what its source and its sink tell before and after it.
pub record Run : Type 0 where
  pub limit : ℕ
  pub source : SourceTold
  pub source_now : SourceTold
  pub sink : SinkTold
  pub sink_now : SinkTold

-- how many bytes a run took
abbrev pub taken_by : Run → ℕ
taken_by run = run.source_now.given - run.source.given

-- the count of faults of the source rose in a run, the count of the sink
abbrev pub source_rose : Run → Type 0
source_rose run = Rose run.source.faults run.source_now.faults

abbrev pub sink_rose : Run → Type 0
sink_rose run = Rose run.sink.faults run.sink_now.faults

-- Why a run ended so: how many bytes were taken, and whether the counts of faults of the source, the sink and the store rose.
abbrev pub HasReason : Status → (limit taken : ℕ) → (source_rose sink_rose store_rose : Type 0) → Type 0
HasReason Ok limit taken source_rose sink_rose store_rose = taken ≤ limit
HasReason ReadFault limit taken source_rose sink_rose store_rose = (taken ≤ limit) × source_rose
HasReason WriteFault limit taken source_rose sink_rose store_rose = (taken ≤ limit) × sink_rose
HasReason StoreFault limit taken source_rose sink_rose store_rose = (taken ≤ limit) × store_rose
HasReason NoMemory limit taken source_rose sink_rose store_rose = taken ≤ limit
-- always where one byte more than the limit was taken, since no other status takes more than the limit
HasReason TooMuch limit taken source_rose sink_rose store_rose = taken ≡ limit + 1
HasReason Usage limit taken source_rose sink_rose store_rose = ⊥
HasReason BadFile limit taken source_rose sink_rose store_rose = ⊥

-- the source has given this many bytes of what it had left
abbrev pub Gave : ℕ → List ℕ → Option (List ℕ) → Type 0
Gave taken input now = (taken ≤ length input) × (now ≡ Some (drop taken input))

-- No count fell.
pub record CountsOn (run : Run) : Type 0 where
  pub given : run.source.given ≤ run.source_now.given
  pub source_faults : run.source.faults ≤ run.source_now.faults
  pub sink_faults : run.sink.faults ≤ run.sink_now.faults

-- the answers of a run whose answerer was `first` and is `now`
abbrev pub answers_of : {P : Type 0} → Run → P → Option P → Exchange P
answers_of run first now = exchange_of first now run.sink.held run.sink_now.held
