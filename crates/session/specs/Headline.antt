-- THE HEADLINE. After any replayed list of lines, every reply is that of the plain session: each facet its present inputs
-- combined from scratch in precedence order, each field the fold of its updates since it entered, each range set every range
-- mapped plainly, the screen the whole state rendered; a refused line changes nothing; the store's files are the plain
-- session's. The run ends `Ok` unless a device failed, the byte limit came, or out of memory. The rules of facets and fields are
-- those of the kit that is handed in. The same holds of the keys of `edit`, with frames for replies, unless its file is no text; of
-- the last line of a made workload; and of the lines of `collab`, with the replies of the plain world of clients and an authority.
--
-- Read on: `Ran` (line_run/specs/Run.antt: what the sink holds and what the session and the files are under each status, why each
-- status came, and when a run ends `Ok`), `replies` (cm_outside/specs/Answering.antt: the replies of a machine to a list of
-- lines), `machine` (Transcript.antt: what a line does, and the reply to it), `act` (Session.antt: what a command does) and
-- `PlainSession` (State.antt); of the crate `state` the files Plainly.antt and Drafting.antt: one step. For `edit` Editing.antt, for
-- `make` Making.antt, and for `collab` the files Transcript.antt and Playing.antt of collab_run/specs. How input is cut into lines is
-- cm_outside/specs/Lines.antt.
use Rattle.std.specs.Prelude.{◌≡◌, ◌⊎◌, ℕ, List, Option, Some, None}
use Rattle.cm_outside.specs.Files.{Files}
use Rattle.cm_outside.specs.Runs.{Run}
use Rattle.cm_outside.specs.Sink.{sink_told}
use Rattle.cm_outside.specs.Source.{source_told}
use Rattle.cm_outside.specs.Times.{Times}
use Rattle.cm_outside.specs.declared.status.Status.{Status}
use Rattle.cm_outside.specs.declared.status.Status.TheVariants.{NoMemory, Usage}
use Rattle.line_run.specs.Run.{Ran, RanAlone}
use Rattle.values.specs.Rules.{Rules}
use Rattle.words.specs.Words.{Invocation, Replay, Collab, Edit, Make}
use Rattle.session.specs.Editing.{Edited}
use Rattle.session.specs.Making.{Made}
use Rattle.session.specs.State.{PlainSession, fresh}
use Rattle.session.specs.Stores.{StoreTold, desk_told, store_told}
use Rattle.session.specs.Transcript.{machine}
use Rattle.collab_run.specs.Transcript as plays

-- the greatest number of bytes that a run of the program takes
abbrev pub byte_limit : ℕ
byte_limit = 4294967296

-- a run whose replies are those of the plain session from its start, which another session stands after, with the files
abbrev pub Replayed : Rules → Status → Run → (store store_now : StoreTold) → Type 0
Replayed rules status run store store_now = (last : PlainSession) × Ran (machine rules) (desk_told fresh store) (desk_told last store_now) status run

-- the devices of a run
pub record Devices (S K D C : Type 0) : Type 0 where
  pub source : S
  pub sink : K
  pub store : D
  pub clock : C

-- what the devices of these kinds tell: what is left, given and faulty of a source; what a sink holds, and its faults; the files and the
-- faults of a store; the times to come of a clock
pub record Tells (S K D C : Type 0) : Type 0 where
  pub left : S → Option (List ℕ)
  pub given : S → ℕ
  pub read_faults : S → ℕ
  pub held : K → Option (List ℕ)
  pub write_faults : K → ℕ
  pub files : D → Option Files
  pub store_faults : D → ℕ
  pub coming : C → Option Times

-- a run within the byte limit, as what its source and its sink tell
abbrev pub run_of : {S K D C : Type 0} → Tells S K D C → (before after : Devices S K D C) → Run
run_of tells before after = record {
  limit = byte_limit;
  source = source_told tells.left tells.given tells.read_faults before.source;
  source_now = source_told tells.left tells.given tells.read_faults after.source;
  sink = sink_told tells.held tells.write_faults before.sink;
  sink_now = sink_told tells.held tells.write_faults after.sink;
}

-- what the store of some devices tells
abbrev pub store_of : {S K D C : Type 0} → Tells S K D C → Devices S K D C → StoreTold
store_of tells d = store_told tells.files tells.store_faults d.store

-- How a run ended, by what the words of the command line ask for, if they are accepted, with its devices before and after it.
abbrev pub Headline : {S K D C : Type 0} → Rules → Option Invocation → Status → Tells S K D C → (before after : Devices S K D C) → Type 0
-- `replay`: the replies are those of the plain session from its start; `Usage` never comes then
Headline rules (Some Replay) status tells before after =
    Replayed rules status (run_of tells before after) (store_of tells before) (store_of tells after) × (after.clock ≡ before.clock)
-- `collab`: the replies are those of a play from its start, in which no world was begun; `Usage` never comes then
Headline rules (Some Collab) status tells before after =
    RanAlone plays.machine plays.fresh status (run_of tells before after) × (after.store ≡ before.store) × (after.clock ≡ before.clock)
-- `edit`: the frames are those of the plain session over the file's text, after each key; `BadFile` comes exactly where it is no text
Headline rules (Some (Edit file rows cols)) status tells before after =
    Edited rules (record { file = file; rows = rows; cols = cols }) status (run_of tells before after) (store_of tells before) (store_of tells after)
    (tells.coming before.clock) (tells.coming after.clock)
-- `make`: the reply is that of the plain session to the last of the made lines, after all others; nothing is read
Headline rules (Some (Make count)) status tells before after =
    Made rules count status (sink_told tells.held tells.write_faults before.sink) (sink_told tells.held tells.write_faults after.sink) (store_of tells before) (store_of tells after)
    × (after.source ≡ before.source) × (after.clock ≡ before.clock)
-- words that aren't accepted: nothing is read, written, loaded or saved
Headline rules None status tells before after = (status ≡ Usage) × (after ≡ before)

-- How a run of the program ended: as the headline says, or out of memory before it began, while the words were read or the kit was
-- made, with nothing read, written, loaded or saved.
abbrev pub ProgramRan : {S K D C : Type 0} → Rules → Option Invocation → Status → Tells S K D C → (before after : Devices S K D C) → Type 0
ProgramRan rules asked status tells before after = (status ≡ NoMemory) × (after ≡ before) ⊎ Headline rules asked status tells before after
