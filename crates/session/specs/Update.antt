-- The command `update`: the state after a transaction (Reference Manual: EditorState.update).
use Rattle.std.specs.Prelude.{List, Option, None, Some, Result, Ok, Err}
use Rattle.values.specs.Rules.{Rules}
use Rattle.facet_slots.specs.Stepping.{State}
use Rattle.replies.specs.declared.answer.Answer.TheVariants.{Length}
use Rattle.script.specs.declared.refusal.Refusal.{Refusal}
use Rattle.script.specs.declared.refusal.Refusal.TheVariants.{NoSession}
use Rattle.script.specs.Reading.{◌>>=◌}
use Rattle.requests.specs.declared.spec_request.SpecRequest.{SpecRequest}
use Rattle.names.specs.Transacting.{specs_of}
use Rattle.state.specs.Plainly.{updated_from}
use Rattle.session.specs.State.{PlainSession}
use Rattle.session.specs.Outcomes.{Done, put_stepped}

-- the state, if one was started
abbrev pub started : Option State → Result State Refusal
started None = Err NoSession
started (Some s) = Ok s

-- Update: the transaction that specs make, whose effects are by name
abbrev pub update : Rules → PlainSession → List SpecRequest → Result Done Refusal
update rules s requests = do
  specs ← specs_of s.world.names requests
  old ← started s.state
  put_stepped Length s (updated_from rules s.world.declared old specs)
