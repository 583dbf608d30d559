-- What a command does that isn't refused.
use Rattle.std.specs.Prelude.{ℕ, ◌+◌, length, min, Some, Result, Ok, Err}
use Rattle.facet_slots.specs.Slotted.{Slotted}
use Rattle.facet_slots.specs.Stepping.{State}
use Rattle.replies.specs.declared.answer.Answer.{Answer}
use Rattle.replies.specs.declared.answer.Answer.TheVariants.{Nothing, Length}
use Rattle.screen.specs.Reveal.{revealed_window}
use Rattle.script.specs.declared.refusal.Refusal.{Refusal}
use Rattle.script.specs.Refused.{unless}
use Rattle.state.specs.declared.state_error.StateError.{StateError}
use Rattle.viewport.specs.Window.{Window}
use Rattle.session.specs.Refused.{state_refusal}
use Rattle.session.specs.State.{PlainSession, plain_state, window_of}
use Rattle.session.specs.Views.{view_of}
use Rattle.session.specs.declared.outcome.Outcome.{Outcome}
use Rattle.session.specs.declared.outcome.Outcome.TheVariants.{Answered, Changed, Viewed}

-- Done: the answer, and the session after it
pub record Done : Type 0 where
  pub answer : Answer
  pub session : PlainSession

-- an answer, after which the session is as before
abbrev pub answered : PlainSession → Answer → Done
answered s answer = record { answer = answer; session = s }

-- a count of transactions goes on by one, and stands still at the greatest number of 64 bits
abbrev pub counted : ℕ → ℕ
counted count = min (count + 1) 18446744073709551615

-- the window moved as little as it takes to show the main range's head in a state
abbrev pub shown_in : State → Window → Window
shown_in new window = revealed_window (view_of new window)

-- Put: a new state in place of the one before, with a count and a window, which is moved; it is answered by the length of its
-- document
abbrev pub put : (ℕ → Answer) → PlainSession → (count : ℕ) → Window → State → Done
put said s count window new =
    record { answer = said (length new.scene.document); session = record s { state = Some new; count = count; window = shown_in new window } }

-- a state or its refusal, put so. The definition of a state is never out of memory; that would change nothing.
abbrev pub put_if : (ℕ → Answer) → PlainSession → (count : ℕ) → Window → Result State StateError → Result Done Refusal
put_if said s count window (Ok new) = Ok (put said s count window new)
put_if said s count window (Err error) = unless (state_refusal s.world.names error) (answered s Nothing)

-- Started: a first state. The count begins anew, and the window at the first block and column; its size stays.
abbrev pub put_started : PlainSession → Result State StateError → Result Done Refusal
put_started s = put_if Length s 0 (window_of s.window.rows s.window.cols)

-- Stepped: the state after a transaction, which is counted
abbrev pub put_stepped : (ℕ → Answer) → PlainSession → Result State StateError → Result Done Refusal
put_stepped said s = put_if said s (counted s.count) s.window

-- an outcome as what it does to a session
abbrev pub done_by : PlainSession → Outcome Slotted → Done
done_by s (Answered answer) = answered s answer
done_by s (Changed answer next) =
    record { answer = answer; session = record s { state = Some (plain_state next.state); count = next.count; window = next.window } }
done_by s (Viewed window) = record { answer = Nothing; session = record s { window = window } }
