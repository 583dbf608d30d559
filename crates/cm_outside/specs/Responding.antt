-- What one answer in a run leads to. Private clauses alone speak of it.
use Rattle.std.specs.Prelude.{◌≡◌, List, Option, Some, IfSome, ⊤}
use Rattle.std.specs.declared.result.Result.{Result}
use Rattle.std.specs.declared.result.Result.TheVariants as result
use Rattle.cm_outside.specs.declared.status.Status.{Status}
use Rattle.cm_outside.specs.declared.status.Status.TheVariants.{Ok, Usage, ReadFault, WriteFault, StoreFault, NoMemory, TooMuch, BadFile}
use Rattle.cm_outside.specs.Answering.{Machine, Exchange, IsHalted}
use Rattle.cm_outside.specs.Sink.{Appends, AppendsPrefix}

-- An input was answered, and the sink has the reply.
pub record RepliedTo {I P : Type 0} (m : Machine I P) (x : I) (exchange : Exchange P) : Type 0 where
  pub wrote : IfSome exchange.held (λ before. Appends before exchange.held_now (m.reply x exchange.first))
  pub stands : exchange.now ≡ Some (m.after x exchange.first)

-- An input was answered, and the write of the reply failed.
pub record FailedOn {I P : Type 0} (m : Machine I P) (x : I) (exchange : Exchange P) : Type 0 where
  pub wrote : IfSome exchange.held (λ before. AppendsPrefix before exchange.held_now (m.reply x exchange.first))
  pub stands : exchange.now ≡ Some (m.after x exchange.first)

-- nothing was written, and the answerer is as it was
abbrev pub IsSame : {P : Type 0} → Exchange P → Type 0
IsSame exchange = (exchange.held_now ≡ exchange.held) × (exchange.now ≡ Some exchange.first)

-- nothing was written, and a fault of the store broke off the answer
abbrev pub HaltedOn : {I P : Type 0} → Machine I P → I → Exchange P → Type 0
HaltedOn m x exchange = (exchange.held_now ≡ exchange.held) × IsHalted m x exchange.first exchange.now

-- what was done with an input
abbrev pub RespondsTo : {I P : Type 0} → Machine I P → I → Exchange P → Result ⊤ Status → Type 0
RespondsTo m x exchange (result.Ok done) = RepliedTo m x exchange
RespondsTo m x exchange (result.Err Ok) = ⊥
RespondsTo m x exchange (result.Err Usage) = ⊥
RespondsTo m x exchange (result.Err ReadFault) = ⊥
RespondsTo m x exchange (result.Err WriteFault) = FailedOn m x exchange
RespondsTo m x exchange (result.Err StoreFault) = HaltedOn m x exchange
RespondsTo m x exchange (result.Err NoMemory) = IsSame exchange
RespondsTo m x exchange (result.Err TooMuch) = ⊥
RespondsTo m x exchange (result.Err BadFile) = ⊥

-- an input is not answered, or not whole, only where the store or a write failed, or out of memory
abbrev pub IsStop : Status → Type 0
IsStop WriteFault = Unit {0}
IsStop StoreFault = Unit {0}
IsStop NoMemory = Unit {0}
IsStop _ = ⊥
