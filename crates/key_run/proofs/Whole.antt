-- A whole run over keys, and one that ends before it reads.
use Rattle.std.proofs.Common.{◌≡◌, ℕ, ◌-◌, ◌⊎◌, inr, List, [], drop, Option, Some, None, IfSome, refl, sym, ap, subst, arith}
use Rattle.cm_outside.specs.Answering.{AnswererTold, exchange_of, EndedBetween}
use Rattle.cm_outside.specs.Runs.{Run, Gave}
use Rattle.cm_outside.specs.Sink.{SinkTold}
use Rattle.cm_outside.specs.Source.{SourceTold}
use Rattle.cm_outside.specs.Times.{Times}
use Rattle.cm_outside.specs.declared.status.Status.{Status}
use Rattle.cm_outside.specs.declared.status.Status.TheVariants as statuses
use Rattle.cm_outside.proofs.Exchanges as exchanges
use Rattle.key_run.specs.Typing.{KeyMachine, shown, events}
use Rattle.key_run.specs.Run.{Ran, IsWithin}

nothing_answered : {P : Type 0} (m : KeyMachine P) (told : Option (List ℕ)) (first : Option P) (times : Option Times) (held : Option (List ℕ))
    → IfSome told (λ input. IfSome first (λ f. IfSome times (λ t. EndedBetween (shown m) (events t input) (exchange_of f first held held))))
nothing_answered m None first times held = tt
nothing_answered m (Some input) None times held = tt
nothing_answered m (Some input) (Some f) None held = tt
nothing_answered m (Some input) (Some f) (Some t) held = record { done = []; others = events t input; cut = refl; answered = exchanges.begins (shown m) f held }

gave_nothing : (told : Option (List ℕ)) (taken : ℕ) → taken ≡ 0 → IfSome told (λ i. Gave taken i told)
gave_nothing None taken e = tt
gave_nothing (Some input) taken e = (omega (arith, e), ap (λ n. Some (drop n input)) (sym e))

completes : (told : Option (List ℕ)) (limit : ℕ) → IfSome told (λ input. IsWithin limit input → (statuses.NoMemory ≡ statuses.Ok) ⊎ (statuses.NoMemory ≡ statuses.NoMemory))
completes None limit = tt
completes (Some input) limit = λ _. inr refl

nothing_said : (told : Option (List ℕ)) (times : Option Times) → IfSome told (λ input. IfSome times (λ t. Unit {0}))
nothing_said None times = tt
nothing_said (Some input) None = tt
nothing_said (Some input) (Some t) = tt

-- a run that ends before it reads
pub nothing_done : {P : Type 0} (m : KeyMachine P) (old : AnswererTold P) (times : Option Times) (limit : ℕ) (source : SourceTold) (sink : SinkTold)
    → Ran m old old times times statuses.NoMemory (record { limit = limit; source = source; source_now = source; sink = sink; sink_now = sink })
nothing_done m old times limit source sink = record {
  ended = nothing_answered m source.left old.plain times sink.held;
  reason = omega arith;
  gave = gave_nothing source.left (source.given - source.given) (omega arith);
  complete = λ _ _ _. completes source.left limit;
  clock = nothing_said source.left times;
  later = record { given = omega arith; source_faults = omega arith; sink_faults = omega arith };
  store_later = omega arith;
}

-- a run by a reader with the run's limit
pub at_limit : {P : Type 0} (m : KeyMachine P) (old new : AnswererTold P) (times times_now : Option Times) (status : Status) (run : Run) (limit : ℕ) → limit ≡ run.limit
    → Ran m old new times times_now status (record run { limit = limit }) → Ran m old new times times_now status run
at_limit m old new times times_now status run limit same ran = subst (λ n. Ran m old new times times_now status (record run { limit = n })) same ran
