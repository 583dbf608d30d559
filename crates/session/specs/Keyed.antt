-- What a key does to a session and to the files of a store, and the frame after it.
use Rattle.std.specs.Prelude.{ℕ, ℤ, List, [], ◌∷◌, true, false, Option, None, Some}
use Rattle.cm_outside.specs.Files.{Files}
use Rattle.key_run.specs.Typing.{KeyMachine}
use Rattle.requests.specs.declared.do_request.DoRequest.{DoRequest}
use Rattle.requests.specs.declared.do_request.EditorCommand.{EditorCommand}
use Rattle.requests.specs.declared.do_request.EditorCommand.TheVariants as commands
use Rattle.term_keys.specs.declared.key.Key.{Key}
use Rattle.term_keys.specs.declared.key.Key.TheVariants.{Char, Newline, DeleteBack, DeleteForward, Move, Extend, SelectAll, Undo, Redo, Save, Quit}
use Rattle.term_keys.specs.declared.key.Move.TheVariants.{Left}
use Rattle.values.specs.Rules.{Rules}
use Rattle.session.specs.Doing.{do_command}
use Rattle.session.specs.Filing.{save}
use Rattle.session.specs.Frames.{frame_of}
use Rattle.session.specs.Session.{files_by, left_by}
use Rattle.session.specs.State.{PlainSession, Desk}

-- a command of the editor at a time in milliseconds, without what other commands have a use for
abbrev pub command_at : EditorCommand → ℤ → DoRequest
command_at command time = record { command = command; text = []; direction = Left; extend = false; time = Some time }

-- the command of a key that is pressed at a time: a character is inserted. Save and Quit are no commands of the editor.
abbrev pub command_of : Key → ℤ → Option DoRequest
command_of (Char c) time = Some (record (command_at commands.Insert time) { text = c ∷ [] })
command_of Newline time = Some (command_at commands.Newline time)
command_of DeleteBack time = Some (command_at commands.DeleteBack time)
command_of DeleteForward time = Some (command_at commands.DeleteForward time)
command_of (Move direction) time = Some (record (command_at commands.Move time) { direction = direction })
command_of (Extend direction) time = Some (record (command_at commands.Move time) { direction = direction; extend = true })
command_of SelectAll time = Some (command_at commands.SelectAll time)
command_of Undo time = Some (command_at commands.Undo time)
command_of Redo time = Some (command_at commands.Redo time)
command_of Save time = None
command_of Quit time = None

-- the session after a command, if there is one; a refused one leaves it as it is
abbrev pub after_command : Rules → PlainSession → Option DoRequest → PlainSession
after_command rules s None = s
after_command rules s (Some command) = left_by s (do_command rules s command)

-- the files after a key: Save writes the document's text to the file, with the save separator in place of each break
abbrev pub files_after_key : (file : List ℕ) → Key → PlainSession → Files → Files
files_after_key file Save s files = files_by files (save s files file)
files_after_key file key s files = files

-- the files beside a session after a key that is pressed over it
abbrev pub saved_by_key : (file : List ℕ) → Key → Desk → Desk
saved_by_key file key d = record d { files = files_after_key file key d.session d.files }

-- Key: what a key that is pressed at a time makes of a session and of the files
abbrev pub after_key : Rules → (file : List ℕ) → Key → ℤ → Desk → Desk
after_key rules file key time d = record (saved_by_key file key d) { session = after_command rules d.session (command_of key time) }

-- a session that edits a file as a machine: a save that failed may have left the file as asked
abbrev pub key_machine : Rules → (file : List ℕ) → KeyMachine Desk
key_machine rules file = record { after = after_key rules file; saved = λ key time d. saved_by_key file key d; frame = λ d. frame_of d.session }
