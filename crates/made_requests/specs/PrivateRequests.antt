-- What a transaction of the workload asks for. Private clauses alone speak of it.
use Rattle.std.specs.Prelude.{ℕ, pos, List, [], ◌∷◌, None, true, false, codes}
use Rattle.change_set.specs.declared.change.Change.{Change}
use Rattle.cm_plain.specs.Datum.{number}
use Rattle.cm_plain.specs.declared.plain.Plain.{Plain}
use Rattle.cm_plain.specs.declared.plain.Plain.TheVariants.{Int, List as Values}
use Rattle.requests.specs.declared.named_effect.NamedEffect.{NamedEffect}
use Rattle.requests.specs.declared.named_effect.NamedEffect.TheVariants.{Kind}
use Rattle.requests.specs.declared.spec_request.SpecRequest.{SpecRequest}
use Rattle.transaction.specs.declared.annotation.Annotation.{Annotation}

-- the annotation of a time in milliseconds
abbrev pub time_note : ℕ → Annotation
time_note time = record { kind = codes "time"; value = Int (pos time) }

-- a spec of these changes, effects and annotations alone, which filters apply to
abbrev pub spec : List Change → List NamedEffect → List Annotation → SpecRequest
spec changes effects annotations =
    record { changes = changes; selection = None; effects = effects; annotations = annotations; user_event = None; sequential = false; filter = true }

-- the spec that makes a change and tells the time
abbrev pub changing : ℕ → Change → SpecRequest
changing time change = spec (change ∷ []) [] (time_note time ∷ [])

-- two positions as a value
abbrev pub positions : ℕ → ℕ → Plain
positions from to = Values (number (pos from) ∷ number (pos to) ∷ [])

-- the spec that sets the effect `mark` of two positions
abbrev pub marking : ℕ → ℕ → SpecRequest
marking from to = spec [] (Kind (codes "mark") (positions from to) ∷ []) []
