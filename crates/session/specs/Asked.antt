-- The commands that ask for a part of the session and change nothing.
use Rattle.std.specs.Prelude.{ℕ, List, Result, Ok}
use Rattle.values.specs.Rules.{Rules}
use Rattle.mapping.specs.Mapping.{mapped}
use Rattle.names.specs.Names.{found, as_value}
use Rattle.replies.specs.declared.answer.Answer.{Answer}
use Rattle.replies.specs.declared.answer.Answer.TheVariants.{Text, Selection, Value, Mapped}
use Rattle.script.specs.declared.map_request.MapParts.{MapParts}
use Rattle.script.specs.declared.refusal.Refusal.{Refusal}
use Rattle.script.specs.Reading.{◌>>=◌}
use Rattle.session.specs.State.{PlainSession}
use Rattle.session.specs.Update.{started}
use Rattle.session.specs.Values.{value_of, shown}

-- Text: the document
abbrev pub text : PlainSession → Result Answer Refusal
text s = started s.state >>= λ state. Ok (Text state.scene.document)

-- Selection: the selection
abbrev pub selection : PlainSession → Result Answer Refusal
selection s = started s.state >>= λ state. Ok (Selection state.scene.selection)

-- Get: the value of the facet or field of a name (Reference Manual: EditorState.facet, EditorState.field)
abbrev pub get : Rules → PlainSession → List ℕ → Result Answer Refusal
get rules s name = do
  thing ← found as_value s.world.names name
  state ← started s.state
  Ok (Value (shown (value_of rules s.world.declared state thing)))

-- Map: it needs no state
abbrev pub map_answer : MapParts → Result Answer Refusal
map_answer request = mapped request >>= λ m. Ok (Mapped m)
