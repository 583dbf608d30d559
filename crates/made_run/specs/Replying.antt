-- What the answers to a workload's lines lead to, before anything is written. Private clauses alone speak of it.
use Rattle.std.specs.Prelude.{◌≡◌, ℕ, List, Option, Some, String, string_bytes}
use Rattle.std.specs.declared.alloc.Global.{Global}
use Rattle.std.specs.declared.result.Result.{Result}
use Rattle.std.specs.declared.result.Result.TheVariants as result
use Rattle.cm_outside.specs.Answering.{Machine, after_all, IsHalted}
use Rattle.cm_outside.specs.declared.status.Status.{Status}
use Rattle.cm_outside.specs.declared.status.Status.TheVariants.{Ok, Usage, ReadFault, WriteFault, StoreFault, NoMemory, TooMuch, BadFile}
use Rattle.made_run.specs.Run.{AnsweredSome, AnsweredUntil, last_reply}

-- what the answer to one input leads to
abbrev pub RespondsBy : {I P : Type 0} → Machine I P → I → P → Option P → Result (String Global) Status → Type 0
RespondsBy m x p now (result.Ok text) = (string_bytes text ≡ m.reply x p) × (now ≡ Some (m.after x p))
RespondsBy m x p now (result.Err StoreFault) = IsHalted m x p now
RespondsBy m x p now (result.Err NoMemory) = now ≡ Some p
RespondsBy m x p now (result.Err Ok) = ⊥
RespondsBy m x p now (result.Err Usage) = ⊥
RespondsBy m x p now (result.Err ReadFault) = ⊥
RespondsBy m x p now (result.Err WriteFault) = ⊥
RespondsBy m x p now (result.Err TooMuch) = ⊥
RespondsBy m x p now (result.Err BadFile) = ⊥

-- all inputs were answered, and the text is the last reply
pub record AnsweredAll {I P : Type 0} (m : Machine I P) (inputs : List I) (first : P) (now : Option P) (text : List ℕ) : Type 0 where
  pub text_is : text ≡ last_reply m first inputs
  pub stands : now ≡ Some (after_all m first inputs)

-- what the answers to some inputs lead to
abbrev pub AnswersBy : {I P : Type 0} → Machine I P → List I → P → Option P → Result (String Global) Status → Type 0
AnswersBy m inputs first now (result.Ok text) = AnsweredAll m inputs first now (string_bytes text)
AnswersBy m inputs first now (result.Err StoreFault) = AnsweredUntil m inputs first now
AnswersBy m inputs first now (result.Err NoMemory) = AnsweredSome m inputs first now
AnswersBy m inputs first now (result.Err Ok) = ⊥
AnswersBy m inputs first now (result.Err Usage) = ⊥
AnswersBy m inputs first now (result.Err ReadFault) = ⊥
AnswersBy m inputs first now (result.Err WriteFault) = ⊥
AnswersBy m inputs first now (result.Err TooMuch) = ⊥
AnswersBy m inputs first now (result.Err BadFile) = ⊥
