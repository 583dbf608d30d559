-- The command `start`: a new state (Reference Manual: EditorState.create).
use Rattle.std.specs.Prelude.{option_and_then, Result}
use Rattle.line_tree.specs.Text.{cut}
use Rattle.selection.specs.Selections.{SelectionView, normal_form, selection_refusal}
use Rattle.transaction.specs.declared.spec.SelectionSpec.{SelectionSpec}
use Rattle.values.specs.Rules.{Rules}
use Rattle.script.specs.declared.refusal.Refusal.{Refusal}
use Rattle.script.specs.Reading.{◌>>=◌}
use Rattle.script.specs.Refused as script
use Rattle.script.specs.Refused.{unless}
use Rattle.requests.specs.declared.new_state.NewState.{NewState}
use Rattle.names.specs.Names.{all_found, as_node}
use Rattle.state.specs.Plainly.{created_from}
use Rattle.session.specs.State.{PlainSession}
use Rattle.session.specs.Outcomes.{Done, put_started}

-- the selection that ranges make, in normal form, or their refusal
abbrev pub created : SelectionSpec → Result SelectionView Refusal
created given = unless (option_and_then script.selection_refusal (selection_refusal given.ranges given.main)) (normal_form given.ranges given.main)

-- Start: the state that the named extensions come to over the document, which is cut into lines, and the selection
abbrev pub start : Rules → PlainSession → NewState → Result Done Refusal
start rules s request = do
  base ← all_found as_node s.world.names request.extensions
  selection ← created request.selection
  put_started s (created_from rules s.world.declared base (record { document = cut request.doc; selection = selection }))
