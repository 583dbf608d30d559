-- What a line does to a session and to the files of a store, and the reply to it.
use Rattle.std.specs.Prelude.{ℕ, List, Result}
use Rattle.cm_outside.specs.Answering.{Machine}
use Rattle.replies.specs.Replies.{reply_text}
use Rattle.requests.specs.Requests.{request_named}
use Rattle.script.specs.declared.refusal.Refusal.{Refusal}
use Rattle.script.specs.Lines.{line_command}
use Rattle.script.specs.Reading.{◌>>=◌}
use Rattle.values.specs.Rules.{Rules}
use Rattle.session.specs.Outcomes.{Done}
use Rattle.session.specs.Session.{act, files_left, left_by, reply_of}
use Rattle.session.specs.State.{Desk}

-- what a line does, or the first refusal that holds
unfoldable pub outcome : Rules → List ℕ → Desk → Result Done Refusal
outcome rules line d = line_command request_named line >>= λ request. act rules request d.session d.files

-- the files after a line
unfoldable pub files_of : List ℕ → Desk → Desk
files_of line d = record d { files = files_left (line_command request_named line) d.session d.files }

-- the session and the files after a line
unfoldable pub after : Rules → List ℕ → Desk → Desk
after rules line d = record (files_of line d) { session = left_by d.session (outcome rules line d) }

-- the reply to a line, with its line feed
unfoldable pub reply : Rules → List ℕ → Desk → List ℕ
reply rules line d = reply_text (reply_of (outcome rules line d))

-- a session with its files as a machine: a save that failed may have left the file as asked
abbrev pub machine : Rules → Machine (List ℕ) Desk
machine rules = record { after = after rules; reply = reply rules; saved = files_of }
