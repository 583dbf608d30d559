-- What a declaration comes to, by what the registry answers.
use Rattle.std.specs.Bool.{⊤}
use Rattle.std.proofs.Common.{◌≡◌, ℕ, List, [], ◌∷◌, ◌++◌, length, take, Option, Some, Result, Ok, Err, IsOk, IsErr, IfErr, OnOk, OnErr, refl, sym, ap, ◌∙◌, is_some, true≢false}
use Rattle.values.specs.Declarations.{Declarations}
use Rattle.registry.specs.declared.registry_error.RegistryError.{RegistryError}
use Rattle.registry.specs.declared.registry_error.RegistryError.TheVariants as refused
use Rattle.registry.specs.Refusals.{first_of, IsRefused, Passes}
use Rattle.script.specs.declared.refusal.Refusal.{Refusal}
use Rattle.script.specs.declared.refusal.LineError.{LineError}
use Rattle.script.specs.declared.refusal.LineError.TheVariants as errors
use Rattle.script.specs.Reading.{◌>>=◌, Gives}
use Rattle.script.specs.Refused.{unless}
use Rattle.names.specs.declared.named.Named.{Named}
use Rattle.names.specs.Names.{NameList}
use Rattle.names.specs.RegistryRefusals.{IsWritten, registry_refusal}
use Rattle.names.specs.Adding.{world, passing}

-- the first refusal is the one that is written
passes_on : (ids : ℕ → List ℕ) (rs : List (Option RegistryError)) (next : Declarations) (error : RegistryError) (r : Refusal)
    → IsRefused rs error → registry_refusal ids error ≡ Some r → passing ids (first_of rs) next ≡ Err r
passes_on ids rs next refused.NoMemory r h w = absurd (true≢false (sym (ap is_some w)))
passes_on ids rs next (refused.UnknownId sort id) r h w = ap (λ f. passing ids f next) h ∙ ap (λ o. unless o next) w
passes_on ids rs next (refused.UnknownRule sort number) r h w = ap (λ f. passing ids f next) h ∙ ap (λ o. unless o next) w
passes_on ids rs next (refused.StaticFacet id) r h w = ap (λ f. passing ids f next) h ∙ ap (λ o. unless o next) w
passes_on ids rs next (refused.WrongShape id) r h w = ap (λ f. passing ids f next) h ∙ ap (λ o. unless o next) w
passes_on ids rs next (refused.AlreadyPlaced id) r h w = ap (λ f. passing ids f next) h ∙ ap (λ o. unless o next) w
passes_on ids rs next (refused.BadInverse one back) r h w = ap (λ f. passing ids f next) h ∙ ap (λ o. unless o next) w
passes_on ids rs next (refused.InverseTaken id) r h w = ap (λ f. passing ids f next) h ∙ ap (λ o. unless o next) w
passes_on ids rs next (refused.TooMany kind) r h w = ap (λ f. passing ids f next) h ∙ ap (λ o. unless o next) w

-- what is declared, or the refusal
pub passed : {T : Type 0} (result : Result ⊤ LineError) (outcome : Result T RegistryError) (ids : ℕ → List ℕ) (rs : List (Option RegistryError)) (next declared : Declarations)
    → OnOk outcome (declared ≡ next) → OnOk outcome (Passes rs) → IfErr outcome (IsRefused rs) → OnOk result (IsOk outcome) → OnErr result (IsErr outcome) → IfErr result (λ e. IfErr outcome (λ error. IsWritten ids error e))
    → Gives (λ x. declared) result (passing ids (first_of rs) next)
passed (Ok tt) (Ok t) ids rs next declared is passes refuses done failed written = ap (λ f. passing ids f next) passes ∙ ap Ok (sym is)
passed (Ok tt) (Err error) ids rs next declared is passes refuses done failed written = absurd (true≢false (sym done))
passed (Err e) (Ok t) ids rs next declared is passes refuses done failed written = absurd (true≢false (sym failed))
passed (Err errors.NoMemory) (Err error) ids rs next declared is passes refuses done failed written = tt
passed (Err (errors.Refused r)) (Err error) ids rs next declared is passes refuses done failed written = passes_on ids rs next error r refuses written

and_then : (result : Result ⊤ LineError) (declared : Declarations) (read : Result Declarations Refusal) (names after : NameList) → Gives (λ x. declared) result read → OnOk result (after ≡ names)
    → Gives (λ x. world after declared) result (read >>= λ d. Ok (world names d))
and_then (Ok tt) declared read names after h is = ap (λ r. r >>= λ d. Ok (world names d)) h ∙ ap (λ n. Ok (world n declared)) (sym is)
and_then (Err errors.NoMemory) declared read names after h is = tt
and_then (Err (errors.Refused r)) declared read names after h is = ap (λ x. x >>= λ d. Ok (world names d)) h

-- and the names with it
pub settles : {T : Type 0} (result : Result ⊤ LineError) (outcome : Result T RegistryError) (ids : ℕ → List ℕ) (rs : List (Option RegistryError)) (next declared : Declarations) (names mid after : NameList)
    → OnOk outcome (declared ≡ next) → OnOk outcome (Passes rs) → IfErr outcome (IsRefused rs) → OnOk result (IsOk outcome) → OnErr result (IsErr outcome) → IfErr result (λ e. IfErr outcome (λ error. IsWritten ids error e))
    → mid ≡ names → OnOk result (after ≡ mid) → Gives (λ x. world after declared) result (passing ids (first_of rs) next >>= λ d. Ok (world names d))
settles result outcome ids rs next declared names mid after is passes refuses done failed written added named =
    and_then result declared (passing ids (first_of rs) next) names after (passed result outcome ids rs next declared is passes refuses done failed written) (on_ok result named) where
      on_ok : (r : Result ⊤ LineError) → OnOk r (after ≡ mid) → OnOk r (after ≡ names)
      on_ok (Ok x) h = h ∙ added
      on_ok (Err e) h = tt

-- a name that was added is gone
taken_back : (names : NameList) (e : List ℕ × Named) → take (length names) (names ++ e ∷ []) ≡ names
taken_back [] e = refl
taken_back (n ∷ names) e = ap (λ ns. n ∷ ns) (taken_back names e)

pub gone : (result : Result ⊤ LineError) (count : ℕ) (names mid after : NameList) (e : List ℕ × Named) → count ≡ length names → mid ≡ names ++ e ∷ [] → OnErr result (after ≡ take count mid) → OnErr result (after ≡ names)
gone (Ok x) count names mid after e counted added h = tt
gone (Err error) count names mid after e counted added h = h ∙ ap (λ n. take n mid) counted ∙ ap (take (length names)) added ∙ taken_back names e

-- where no name was added, none is taken away
pub none_gone : (result : Result ⊤ LineError) (count : ℕ) (names after : NameList) → count ≡ length names → OnErr result (after ≡ take count names) → OnErr result (after ≡ names)
none_gone (Ok x) count names after counted h = tt
none_gone (Err error) count names after counted h = h ∙ ap (λ n. take n names) counted ∙ take_whole names where
  take_whole : (ns : NameList) → take (length ns) ns ≡ ns
  take_whole [] = refl
  take_whole (n ∷ ns) = ap (λ rest. n ∷ rest) (take_whole ns)

-- a refusal leaves what the registry leaves
pub leaves : {T : Type 0} (P : Type 0) (result : Result ⊤ LineError) (outcome : Result T RegistryError) → OnErr result (IsErr outcome) → OnErr outcome P → OnErr result P
leaves P (Ok x) outcome failed h = tt
leaves P (Err e) (Ok t) failed h = absurd (true≢false (sym failed))
leaves P (Err e) (Err error) failed h = h
