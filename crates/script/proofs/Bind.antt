-- A refusal goes through what is read after it.
use Rattle.std.proofs.Common.{Result, ap}
use Rattle.script.specs.declared.refusal.Refusal.{Refusal}
use Rattle.script.specs.declared.refusal.LineError.{LineError}
use Rattle.script.specs.declared.refusal.LineError.TheVariants as errors
use Rattle.script.specs.Reading.{◌>>=◌, Fails}

pub fails_through : {A B : Type 0} (e : LineError) (read : Result A Refusal) (then : A → Result B Refusal) → Fails e read → Fails e (read >>= then)
fails_through errors.NoMemory read then h = tt
fails_through (errors.Refused r) read then h = ap (λ x. x >>= then) h
