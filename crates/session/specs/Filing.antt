-- The commands of files.
use Rattle.std.specs.Prelude.{ℕ, List, [], ◌∷◌, length, Option, None, Some, Result, Ok, Err, if◌then◌else◌, codes}
use Rattle.std.specs.Str.{bytes_eq}
use Rattle.cm_outside.specs.Files.{Files}
use Rattle.cm_plain.specs.declared.plain.Plain.TheVariants as plain
use Rattle.facet_slots.specs.Stepping.{State}
use Rattle.file_text.specs.Files.{saved_bytes, read_chars}
use Rattle.names.specs.Names.{all_found, as_node}
use Rattle.registry.specs.declared.predeclared.TheConstants.{SAVE_SEPARATOR}
use Rattle.replies.specs.declared.answer.Answer.{Answer}
use Rattle.replies.specs.declared.answer.Answer.TheVariants.{Bytes}
use Rattle.requests.specs.declared.open_request.OpenRequest.{OpenRequest}
use Rattle.script.specs.declared.file_refusal.FileRefusal.TheVariants.{FileMissing, FileNotUtf8}
use Rattle.script.specs.declared.refusal.Refusal.{Refusal}
use Rattle.script.specs.declared.refusal.Refusal.TheVariants.{File}
use Rattle.script.specs.Reading.{◌>>=◌}
use Rattle.selection.specs.Selections.{SelectionView}
use Rattle.state.specs.Plainly.{created_from}
use Rattle.values.specs.declared.val.Val.{Val}
use Rattle.values.specs.declared.val.Val.TheVariants as val
use Rattle.values.specs.Rules.{Rules}
use Rattle.session.specs.Outcomes.{Done, put_started}
use Rattle.session.specs.State.{PlainSession}
use Rattle.session.specs.Update.{started}
use Rattle.session.specs.Views.{facet_in}

-- the text that ends lines in a file that is saved: the value of `saveSeparator`, or else LF
abbrev pub separator_in : Val → List ℕ
separator_in (val.Plain (plain.Text text)) = text
separator_in v = codes "\n"

-- the files with these bytes under a name
abbrev pub with_file : Files → (name bytes : List ℕ) → Files
with_file files name bytes other = if bytes_eq other name then Some bytes else files other

-- the bytes that a save of a state writes
abbrev pub bytes_of : State → List ℕ
bytes_of s = saved_bytes (separator_in (facet_in s SAVE_SEPARATOR)) s.scene.document

-- the bytes that a save writes, if a state was started
abbrev pub saved : PlainSession → Result (List ℕ) Refusal
saved s = started s.state >>= λ state. Ok (bytes_of state)

-- Save: the document's text with the save separator in place of each break, under a name
abbrev pub save : PlainSession → Files → (name : List ℕ) → Result (Answer × Files) Refusal
save s files name = saved s >>= λ bytes. Ok (Bytes (length bytes), with_file files name bytes)

-- the bytes of a file, if there is one of this name
abbrev pub or_missing : (name : List ℕ) → Option (List ℕ) → Result (List ℕ) Refusal
or_missing name None = Err (File (FileMissing name))
or_missing name (Some bytes) = Ok bytes

-- its characters, cut into lines, if its bytes are UTF-8
abbrev pub or_not_utf8 : (name : List ℕ) → Option (List ℕ) → Result (List ℕ) Refusal
or_not_utf8 name None = Err (File (FileNotUtf8 name))
or_not_utf8 name (Some text) = Ok text

-- the cursor before the first character
abbrev pub at_start : SelectionView
at_start = record { ranges = record { anchor = 0; head = 0 } ∷ []; main = 0 }

-- the state that nodes come to over the text of a file of this name, whose bytes were found if there is one
abbrev pub opened : Rules → PlainSession → (name : List ℕ) → (base : List ℕ) → Option (List ℕ) → Result Done Refusal
opened rules s name base found = do
  bytes ← or_missing name found
  text ← or_not_utf8 name (read_chars bytes)
  put_started s (created_from rules s.world.declared base (record { document = text; selection = at_start }))

-- Open: the state that the named extensions come to over a file's text
abbrev pub open_file : Rules → PlainSession → Files → OpenRequest → Result Done Refusal
open_file rules s files request = do
  base ← all_found as_node s.world.names request.extensions
  opened rules s request.file base (files request.file)
