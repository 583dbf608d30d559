-- A made workload: its lines are answered in order, and the reply to the last of them alone is written.
--
-- Read on: `made_lines` (workload/specs/MadeLines.antt: the lines).
use Rattle.std.specs.Prelude.{◌≡◌, ℕ, ◌≤◌, ◌⊎◌, List, [], ◌∷◌, ◌++◌, Option, Some, IfSome}
use Rattle.cm_outside.specs.Answering.{Machine, AnswererTold, Exchange, exchange_of, after_all, IsHalted}
use Rattle.cm_outside.specs.Faults.{Rose}
use Rattle.cm_outside.specs.Sink.{Appends, AppendsPrefix, SinkTold}
use Rattle.cm_outside.specs.declared.status.Status.{Status}
use Rattle.cm_outside.specs.declared.status.Status.TheVariants.{Ok, Usage, ReadFault, WriteFault, StoreFault, NoMemory, TooMuch, BadFile}
use Rattle.workload.specs.MadeLines.{made_lines}

-- the reply to the last of some inputs, after all those before it; without an input, no text
abbrev pub last_reply : {I P : Type 0} → Machine I P → P → List I → List ℕ
last_reply m p [] = []
last_reply m p (x ∷ []) = m.reply x p
last_reply m p (x ∷ y ∷ xs) = last_reply m (m.after x p) (y ∷ xs)

-- some first inputs were answered
pub record AnsweredSome {I P : Type 0} (m : Machine I P) (inputs : List I) (first : P) (now : Option P) : Type 0 where
  pub done : List I
  pub others : List I
  pub cut : inputs ≡ done ++ others
  pub stands : now ≡ Some (after_all m first done)

-- a fault of the store broke off the answer to an input, and those before it were answered
pub record AnsweredUntil {I P : Type 0} (m : Machine I P) (inputs : List I) (first : P) (now : Option P) : Type 0 where
  pub done : List I
  pub next : I
  pub others : List I
  pub cut : inputs ≡ done ++ next ∷ others
  pub stands : IsHalted m next (after_all m first done) now

-- each input was answered, and the last reply was written, whole
pub record WroteLast {I P : Type 0} (m : Machine I P) (inputs : List I) (exchange : Exchange P) : Type 0 where
  pub stands : exchange.now ≡ Some (after_all m exchange.first inputs)
  pub wrote : IfSome exchange.held (λ before. Appends before exchange.held_now (last_reply m exchange.first inputs))

-- each input was answered, and of the last reply a prefix was written
pub record WroteSome {I P : Type 0} (m : Machine I P) (inputs : List I) (exchange : Exchange P) : Type 0 where
  pub stands : exchange.now ≡ Some (after_all m exchange.first inputs)
  pub wrote : IfSome exchange.held (λ before. AppendsPrefix before exchange.held_now (last_reply m exchange.first inputs))

-- what is written under a status, and what the data are
abbrev pub Leaves : {I P : Type 0} → Machine I P → Status → List I → Exchange P → Type 0
Leaves m Ok inputs exchange = WroteLast m inputs exchange
Leaves m WriteFault inputs exchange = WroteSome m inputs exchange
-- nothing was written
Leaves m StoreFault inputs exchange = (exchange.held_now ≡ exchange.held) × AnsweredUntil m inputs exchange.first exchange.now
Leaves m NoMemory inputs exchange = (exchange.held_now ≡ exchange.held) × AnsweredSome m inputs exchange.first exchange.now
-- no other status is answered
Leaves m Usage inputs exchange = ⊥
Leaves m ReadFault inputs exchange = ⊥
Leaves m TooMuch inputs exchange = ⊥
Leaves m BadFile inputs exchange = ⊥

-- why a run ended so: whether the counts of faults of the sink and of the store rose
abbrev pub IsDueTo : Status → (sink_rose store_rose : Type 0) → Type 0
IsDueTo Ok sink_rose store_rose = Unit {0}
IsDueTo WriteFault sink_rose store_rose = sink_rose
IsDueTo StoreFault sink_rose store_rose = store_rose
IsDueTo NoMemory sink_rose store_rose = Unit {0}
IsDueTo Usage sink_rose store_rose = ⊥
IsDueTo ReadFault sink_rose store_rose = ⊥
IsDueTo TooMuch sink_rose store_rose = ⊥
IsDueTo BadFile sink_rose store_rose = ⊥

-- A run over the made workload of `count` transactions by this machine, whose answerer told `old` before it and tells `new` now,
-- ended with this status. What it leaves is told where the answerer tells what it is; what was written, where the sink tells it.
pub record Ran {P : Type 0} (m : Machine (List ℕ) P) (count : ℕ) (old new : AnswererTold P) (status : Status) (sink sink_now : SinkTold) : Type 0 where
  pub leaves : IfSome old.plain (λ first. Leaves m status (made_lines count) (exchange_of first new.plain sink.held sink_now.held))
  pub reason : IsDueTo status (Rose sink.faults sink_now.faults) (Rose old.faults new.faults)
  -- without a fault the last reply is written whole, or out of memory
  pub complete : ¬ (Rose sink.faults sink_now.faults) → ¬ (Rose old.faults new.faults) → (status ≡ Ok) ⊎ (status ≡ NoMemory)
  pub sink_later : sink.faults ≤ sink_now.faults
  pub store_later : old.faults ≤ new.faults
