-- The command `do`: a command of the editor (Reference Manual: StateCommand).
use Rattle.std.specs.Prelude.{ℕ, [], ◌∷◌, Bool, true, false, length, Option, None, Some, Result, Ok}
use Rattle.line_tree.specs.Text.{cut}
use Rattle.commands.specs.Editing.{SceneView}
use Rattle.commands.specs.Inserting.{insert_spec, newline_spec}
use Rattle.commands.specs.Deleting.{delete_back_spec, delete_forward_spec}
use Rattle.commands.specs.Moving.{move_spec, select_all_spec}
use Rattle.commands.specs.Undoing.{undo_spec, redo_spec, undo_selection_spec, redo_selection_spec}
use Rattle.facet_slots.specs.Stepping.{State}
use Rattle.replies.specs.declared.answer.Answer.{Answer}
use Rattle.replies.specs.declared.answer.Answer.TheVariants.{Done as DoneAnswer}
use Rattle.requests.specs.declared.do_request.DoRequest.{DoRequest}
use Rattle.requests.specs.declared.do_request.EditorCommand.{EditorCommand}
use Rattle.requests.specs.declared.do_request.EditorCommand.TheVariants.{Insert, Newline, DeleteBack, DeleteForward, Move, SelectAll, Undo, Redo, UndoSelection, RedoSelection}
use Rattle.script.specs.declared.refusal.Refusal.{Refusal}
use Rattle.script.specs.Reading.{◌>>=◌}
use Rattle.state.specs.Plainly.{updated_from}
use Rattle.transaction.specs.declared.spec.Spec.{Spec}
use Rattle.values.specs.declared.val.Val.{Val}
use Rattle.values.specs.Rules.{Rules}
use Rattle.session.specs.Outcomes.{Done, answered, put_stepped}
use Rattle.session.specs.State.{PlainSession}
use Rattle.session.specs.Update.{started}
use Rattle.session.specs.Views.{scene_of}

-- what a command sends, if it has anything to send; a text is cut into lines
abbrev pub sent : EditorCommand → SceneView → DoRequest → Option (Spec Val)
sent Insert scene r = insert_spec scene (cut r.text)
sent Newline scene r = newline_spec scene
sent DeleteBack scene r = delete_back_spec scene
sent DeleteForward scene r = delete_forward_spec scene
sent Move scene r = move_spec scene r.direction r.extend
sent SelectAll scene r = select_all_spec scene
sent Undo scene r = undo_spec scene
sent Redo scene r = redo_spec scene
sent UndoSelection scene r = undo_selection_spec scene
sent RedoSelection scene r = redo_selection_spec scene

-- a command's answer: whether it did anything, and the length of the document after it
abbrev pub said : Bool → ℕ → Answer
said done len = DoneAnswer done len

-- the transaction of what a command sends; nothing happens where it has nothing to send
abbrev pub done_with : Rules → PlainSession → State → Option (Spec Val) → Result Done Refusal
done_with rules s old None = Ok (answered s (said false (length old.scene.document)))
done_with rules s old (Some spec) = put_stepped (said true) s (updated_from rules s.world.declared old (spec ∷ []))

-- Do: what the command sends over the state, at its time, if it is said
abbrev pub do_command : Rules → PlainSession → DoRequest → Result Done Refusal
do_command rules s r = do
  old ← started s.state
  done_with rules s old (sent r.command (scene_of old r.time) r)
