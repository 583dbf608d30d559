-- What a call of a session leaves, and which requests need the store. Private clauses alone speak of it.
use Rattle.std.specs.Prelude.{◌≡◌, ◌≢◌, ◌⊎◌, ℕ, List, Bool, true, false, Option, Some, Result, Ok, Err, String, string_bytes, IfSome, ⊤}
use Rattle.std.specs.declared.alloc.AllocError.{AllocError}
use Rattle.std.specs.declared.alloc.Global.{Global}
use Rattle.cm_outside.specs.Files.{Files}
use Rattle.cm_outside.specs.declared.store_fault.StoreFault.{StoreFault}
use Rattle.cm_outside.specs.declared.store_fault.StoreFault.TheVariants as faults
use Rattle.facet_slots.specs.Agreement.{IsGrown}
use Rattle.facet_slots.specs.Lent.{definitions}
use Rattle.facet_slots.specs.Slotted.{Slotted}
use Rattle.facet_slots.specs.Stepping.{State}
use Rattle.state.specs.declared.state_error.StateError.{StateError}
use Rattle.state.specs.declared.state_error.StateError.TheVariants as causes
use Rattle.names.specs.Declaring.{declared_in}
use Rattle.replies.specs.Replies.{reply_text}
use Rattle.replies.specs.declared.answer.Reply.TheVariants as replies
use Rattle.requests.specs.declared.declaration.Declaration.{Declaration}
use Rattle.requests.specs.declared.request.Request.{Request}
use Rattle.requests.specs.declared.request.Request.TheVariants.{Declare, Open, Save, Update, Text, Selection, Get, Map, Screen, Summary}
use Rattle.screen.specs.Head.{ShowsHead}
use Rattle.script.specs.Reading.{Fails}
use Rattle.script.specs.declared.refusal.LineError.{LineError}
use Rattle.script.specs.declared.refusal.LineError.TheVariants as errors
use Rattle.script.specs.declared.refusal.Refusal.{Refusal}
use Rattle.values.specs.Rules.{Rules}
use Rattle.viewport.specs.Window.{Window}
use Rattle.session.specs.declared.outcome.Outcome.{Outcome}
use Rattle.session.specs.declared.outcome.Outcome.TheVariants.{Answered, Changed, Viewed}
use Rattle.session.specs.Outcomes.{Done}
use Rattle.session.specs.Session.{act, files_after, left_by, reply_of}
use Rattle.session.specs.State.{Held, plain_session, plain_state}
use Rattle.session.specs.Views.{view_of}

-- a line that was made without the store; the only other answer is out of memory
abbrev pub IsTold : Result (String Global) AllocError → Result (String Global) StoreFault → Type 0
IsTold (Ok text) result = result ≡ Ok text
IsTold (Err error) result = result ≡ Err faults.NoMemory

-- what a declaration leaves: the next world, and the rest as before; after a refusal, or out of memory, all is as before
abbrev pub Declares : Rules → Declaration → (old new : Held) → Result (Unit {0}) LineError → Type 0
Declares rules declaration old new (Ok done) = (declared_in rules old.world declaration ≡ Ok new.world) × (new ≡ record old { world = new.world })
Declares rules declaration old new (Err error) = (new ≡ old) × Fails error (declared_in rules old.world declaration)

-- what a save leaves: these files and this reply; a fault of the store leaves the files before or these, out of memory those before
abbrev pub IsWritten : (next files : Files) → List ℕ → (now : Option Files) → Result (String Global) StoreFault → Type 0
IsWritten next files reply now (Ok text) = (string_bytes text ≡ reply) × (now ≡ Some next)
IsWritten next files reply now (Err faults.Failed) = (now ≡ Some files) ⊎ (now ≡ Some next)
IsWritten next files reply now (Err faults.NoMemory) = now ≡ Some files

-- the line that answers with an error: out of memory has none
abbrev pub IsRefusalText : LineError → List ℕ → Type 0
IsRefusalText errors.NoMemory text = ⊥
IsRefusalText (errors.Refused refusal) text = text ≡ reply_text (replies.No refusal)

-- the reply to a line that does this, and the session after it; out of memory changes nothing
abbrev pub DoneWith : Result Done Refusal → (old new : Held) → Result (String Global) AllocError → Type 0
DoneWith outcome old new (Ok text) = (string_bytes text ≡ reply_text (reply_of outcome)) × (plain_session new ≡ left_by (plain_session old) outcome)
DoneWith outcome old new (Err error) = new ≡ old

-- What a line does with the store at hand: the reply, and the session and the files after it. A fault of the store leaves all as
-- before, but for the files, which may be those after it; out of memory changes nothing.
abbrev pub Carried : Result Done Refusal → (next files : Files) → (old new : Held) → (now : Option Files) → Result (String Global) StoreFault → Type 0
Carried outcome next files old new now (Ok text) = DoneWith outcome old new (Ok text) × (now ≡ Some next)
Carried outcome next files old new now (Err faults.Failed) = (new ≡ old) × ((now ≡ Some files) ⊎ (now ≡ Some next))
Carried outcome next files old new now (Err faults.NoMemory) = (new ≡ old) × (now ≡ Some files)

-- a line that asks for this, where the store tells its files
abbrev pub Carries : Rules → Request → (old new : Held) → (told now : Option Files) → Result (String Global) StoreFault → Type 0
Carries rules request old new told now result =
    IfSome told (λ files. Carried (act rules request (plain_session old) files) (files_after request (plain_session old) files) files old new now result)

-- what was found is what a definition says, but for out of memory
abbrev pub Finds : Result State StateError → Result Slotted StateError → Type 0
Finds out (Ok slots) = out ≡ Ok (plain_state slots)
Finds out (Err error) = error ≢ causes.NoMemory → out ≡ Err error

-- a state that is put in place stands over what is declared, and the window shows its main range's head
pub record IsPutIn (held : Held) (slots : Slotted) (window : Window) : Type 0 where
  pub grown : IsGrown slots.setup.defs (definitions held.world.declared)
  pub shows : ShowsHead (view_of (plain_state slots) window)

-- what an outcome puts in place
abbrev pub IsPut : Held → Outcome Slotted → Type 0
IsPut held (Answered answer) = ⊤
IsPut held (Changed answer next) = IsPutIn held next.state next.window
IsPut held (Viewed window) = IfSome held.state (λ slots. ShowsHead (view_of (plain_state slots) window))

-- whether a request needs no store
abbrev pub is_inner : Request → Bool
is_inner (Open request) = false
is_inner (Save name) = false
is_inner request = true

-- whether it is only lent: it declares nothing, changes nothing by specs of its own, and needs no store
abbrev pub is_lent : Request → Bool
is_lent (Declare declaration) = false
is_lent (Open request) = false
is_lent (Save name) = false
is_lent (Update specs) = false
is_lent request = true

-- whether it asks for something and changes nothing
abbrev pub asks : Request → Bool
asks Text = true
asks Selection = true
asks (Get name) = true
asks (Map request) = true
asks Screen = true
asks Summary = true
asks request = false
