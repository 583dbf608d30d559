-- A new state in place of the one before, or its refusal.
use Rattle.std.proofs.Common.{◌≡◌, ◌≢◌, ℕ, List, [], ◌∷◌, Bool, true, false, length, Some, is_some, Result, Ok, Err, IfOk, IfErr, refl, sym, ap, ◌∙◌, subst, true≢false}
use Rattle.facet_slots.specs.Slotted.{Slotted}
use Rattle.facet_slots.specs.Stepping.{State}
use Rattle.replies.specs.declared.answer.Answer.{Answer}
use Rattle.replies.specs.declared.answer.Answer.TheVariants.{Nothing}
use Rattle.script.specs.declared.refusal.Refusal.{Refusal}
use Rattle.script.specs.declared.refusal.LineError.{LineError}
use Rattle.script.specs.declared.refusal.LineError.TheVariants as errors
use Rattle.script.specs.Reading.{Fails, Gives}
use Rattle.script.specs.Refused.{unless}
use Rattle.state.specs.declared.state_error.StateError.{StateError}
use Rattle.state.specs.declared.state_error.StateError.TheVariants as causes
use Rattle.state.specs.Plainly.{updated_from}
use Rattle.transaction.specs.declared.spec.Spec.{Spec}
use Rattle.values.specs.declared.val.Val.{Val}
use Rattle.values.specs.Rules.{Rules}
use Rattle.viewport.specs.Window.{Window}
use Rattle.session.specs.declared.outcome.Outcome.{Outcome}
use Rattle.session.specs.Doing.{done_with, said}
use Rattle.session.specs.Outcomes.{answered, done_by, put_if, put_stepped, shown_in}
use Rattle.session.specs.PrivateSession.{Finds}
use Rattle.session.specs.Refused.{Refuses, state_refusal}
use Rattle.session.specs.State.{PlainSession, plain_state}

-- whether an error is a refusal
abbrev is_refusal : LineError → Bool
is_refusal errors.NoMemory = false
is_refusal (errors.Refused r) = true

-- a refusal has a cause that isn't out of memory
caused : (s : PlainSession) (cause : StateError) (r : Refusal) → state_refusal s.world.names cause ≡ Some r → cause ≢ causes.NoMemory
caused s cause r is none = true≢false (sym (ap is_some is) ∙ ap (λ e. is_some (state_refusal s.world.names e)) none)

pub put-refused : (said : ℕ → Answer) (s : PlainSession) (count : ℕ) (window : Window) (out : Result State StateError) (state : Result Slotted StateError) (error : LineError)
    → Finds out state → IfErr state (λ cause. Refuses s.world.names cause error) → IfOk state (λ new. error ≡ errors.NoMemory) → Fails error (put_if said s count window out)
put-refused said s count window out state errors.NoMemory finds refuses made = tt
put-refused said s count window out (Ok new) (errors.Refused r) finds refuses made = absurd (true≢false (ap is_refusal made))
put-refused said s count window out (Err cause) (errors.Refused r) finds refuses made =
    ap (put_if said s count window) (finds (caused s cause r refuses)) ∙ ap (λ o. unless o (answered s Nothing)) refuses

pub put-done : (said : ℕ → Answer) (s : PlainSession) (count : ℕ) (window : Window) (out : Result State StateError) (slots : Slotted) (state : Result Slotted StateError) (len count-now : ℕ) (window-now : Window)
    → Finds out state → state ≡ Ok slots → len ≡ length slots.scene.document → count-now ≡ count → window-now ≡ shown_in (plain_state slots) window
    → put_if said s count window out ≡ Ok (record { answer = said len; session = record s { state = Some (plain_state slots); count = count-now; window = window-now } })
put-done said s count window out slots state len count-now window-now finds is measured counted shown =
    let found : out ≡ Ok (plain_state slots) = subst (Finds out) is finds in
    rw (found, measured, counted, shown) refl

-- what a call found, by its contract
pub found-by : (out : Result State StateError) (result : Result Slotted StateError) → IfOk result (λ slots. out ≡ Ok (plain_state slots)) → IfErr result (λ error. error ≢ causes.NoMemory → out ≡ Err error) → Finds out result
found-by out (Ok slots) made refused = made
found-by out (Err error) made refused = refused

-- a command sends one spec
pub done-one : (rules : Rules) (s : PlainSession) (old : State) (spec : Spec Val) (specs : List (Spec Val)) (result : Result (Outcome Slotted) LineError) → specs ≡ spec ∷ []
    → Gives (done_by s) result (put_stepped (said true) s (updated_from rules s.world.declared old specs)) → Gives (done_by s) result (done_with rules s old (Some spec))
done-one rules s old spec specs result is gives = subst (λ (items : List (Spec Val)). Gives (done_by s) result (put_stepped (said true) s (updated_from rules s.world.declared old items))) is gives
