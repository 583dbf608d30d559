-- What each line of a session's script asks for, by its command's name and argument.
use Rattle.std.specs.Prelude.{ℕ, List, [], ◌∷◌, false, Option, Some, None, Result, Ok, Err, if◌then◌else◌, codes}
use Rattle.std.specs.Str.{chars, bytes_eq}
use Rattle.serde_json.specs.Data.{Data}
use Rattle.script.specs.declared.refusal.Refusal.{Refusal}
use Rattle.script.specs.declared.refusal.Refusal.TheVariants.{NotCommand}
use Rattle.script.specs.Reading.{◌>>=◌, text_member, number_member, required_as, defaulted, optional, text_at, integer_at, flag_at, members_at, only, list_of}
use Rattle.script.specs.Command.{change_of, first_selection_of, given_selection_of, notes_of, flags_of, no_fields_of, map_request_of}
use Rattle.requests.specs.declared.declaration.Declaration.{Declaration}
use Rattle.requests.specs.declared.declaration.Declaration.TheVariants as declare
use Rattle.requests.specs.declared.new_state.NewState.{NewState}
use Rattle.requests.specs.declared.spec_request.SpecRequest.{SpecRequest}
use Rattle.requests.specs.declared.open_request.OpenRequest.{OpenRequest}
use Rattle.requests.specs.declared.do_request.DoRequest.{DoRequest}
use Rattle.requests.specs.declared.view_request.ViewRequest.{ViewRequest}
use Rattle.requests.specs.declared.request.Request.{Request}
use Rattle.requests.specs.declared.request.Request.TheVariants.{Declare, Start, Open, Save, Update, Do, Text, Selection, Get, Map, View, Screen, Summary}
use Rattle.requests.specs.Declarations.{effect_of, inverse_of, facet_of, field_of, compartment_of, input_of, compute_of, from_of, init_of, group_of, prec_of, slot_of}
use Rattle.requests.specs.Effects.{named_effect_of}
use Rattle.requests.specs.Words.{command_at, move_at}
use Rattle.term_keys.specs.declared.key.Move.TheVariants.{Left}

-- an item of a list of specs: {changes (default []), selection, main, effects (default []), annotations, userEvent, sequential,
-- filter}
unfoldable pub spec_of : List ℕ → Data → Result SpecRequest Refusal
spec_of name d = do
  members ← members_at name d
  changes ← defaulted (codes "changes") (list_of change_of) [] d
  selection ← given_selection_of d
  effects ← defaulted (codes "effects") (list_of named_effect_of) [] d
  notes ← notes_of d
  flags ← flags_of d
  known ← only (codes "changes" ∷ codes "selection" ∷ codes "main" ∷ codes "effects" ∷ codes "annotations" ∷ codes "userEvent" ∷ codes "sequential" ∷ codes "filter" ∷ []) members
  Ok (record { changes = changes; selection = selection; effects = effects; annotations = notes.0; user_event = notes.1; sequential = flags.0; filter = flags.1 })

-- `start`: {doc (default ""), selection, main, extensions (default [])}
unfoldable pub new_state_of : List ℕ → Data → Result NewState Refusal
new_state_of command d = do
  members ← members_at command d
  doc ← defaulted (codes "doc") text_at [] d
  selection ← first_selection_of d
  extensions ← defaulted (codes "extensions") (list_of text_at) [] d
  known ← only (codes "doc" ∷ codes "selection" ∷ codes "main" ∷ codes "extensions" ∷ []) members
  Ok (record { doc = doc; selection = selection; extensions = extensions })

-- `open`: {file, extensions (default [])}
unfoldable pub open_of : List ℕ → Data → Result OpenRequest Refusal
open_of command d = do
  members ← members_at command d
  file ← text_member (codes "file") d
  extensions ← defaulted (codes "extensions") (list_of text_at) [] d
  known ← only (codes "file" ∷ codes "extensions" ∷ []) members
  Ok (record { file = file; extensions = extensions })

-- `do`: {command, text (default ""), move (default "left"), extend (default false), time (default none)}
unfoldable pub do_of : List ℕ → Data → Result DoRequest Refusal
do_of name d = do
  members ← members_at name d
  command ← required_as (codes "command") command_at d
  text ← defaulted (codes "text") text_at [] d
  direction ← defaulted (codes "move") move_at Left d
  extend ← defaulted (codes "extend") flag_at false d
  time ← optional (codes "time") integer_at d
  known ← only (codes "command" ∷ codes "text" ∷ codes "move" ∷ codes "extend" ∷ codes "time" ∷ []) members
  Ok (record { command = command; text = text; direction = direction; extend = extend; time = time })

-- `view`: {rows, cols}
unfoldable pub view_of : List ℕ → Data → Result ViewRequest Refusal
view_of command d = do
  members ← members_at command d
  rows ← number_member (codes "rows") d
  cols ← number_member (codes "cols") d
  known ← only (codes "rows" ∷ codes "cols" ∷ []) members
  Ok (record { rows = rows; cols = cols })

-- an argument that has one field, which is a text: {name} of `get`, {file} of `save`
unfoldable pub text_alone_of : List ℕ → List ℕ → Data → Result (List ℕ) Refusal
text_alone_of field command d = do
  members ← members_at command d
  text ← text_member field d
  known ← only (field ∷ []) members
  Ok text

-- what is read, as a declaration
abbrev pub declares : {A : Type 0} → (A → Declaration) → Result A Refusal → Result (Option Declaration) Refusal
declares make read = read >>= λ x. Ok (Some (make x))

-- a command that makes a node, other than `input`
abbrev pub node_named : List ℕ → Data → Result (Option Declaration) Refusal
node_named name d =
    if bytes_eq name (codes "compute") then declares declare.Compute (compute_of name d)
    else (if bytes_eq name (codes "from") then declares declare.From (from_of name d)
    else (if bytes_eq name (codes "init") then declares declare.Init (init_of name d)
    else (if bytes_eq name (codes "group") then declares declare.Group (group_of name d)
    else (if bytes_eq name (codes "prec") then declares declare.Prec (prec_of name d)
    else (if bytes_eq name (codes "slot") then declares declare.Slot (slot_of name d)
    else Ok None)))))

-- the declaration of the command of this name with this argument; none where no declaring command has the name
abbrev pub declaration_named : List ℕ → Data → Result (Option Declaration) Refusal
declaration_named name d =
    if bytes_eq name (codes "effect") then declares declare.Effect (effect_of name d)
    else (if bytes_eq name (codes "inverse") then declares declare.Inverse (inverse_of name d)
    else (if bytes_eq name (codes "facet") then declares declare.Facet (facet_of name d)
    else (if bytes_eq name (codes "field") then declares declare.Field (field_of name d)
    else (if bytes_eq name (codes "compartment") then declares declare.Compartment (compartment_of name d)
    else (if bytes_eq name (codes "input") then declares declare.Input (input_of name d)
    else node_named name d)))))

-- a command that asks, or that sets the window
abbrev pub asked_named : List ℕ → Data → Result Request Refusal
asked_named name d =
    if bytes_eq name (codes "text") then no_fields_of name d >>= (λ known. Ok Text)
    else (if bytes_eq name (codes "selection") then no_fields_of name d >>= (λ known. Ok Selection)
    else (if bytes_eq name (codes "get") then text_alone_of (codes "name") name d >>= (λ asked. Ok (Get asked))
    else (if bytes_eq name (codes "map") then map_request_of d >>= (λ parts. Ok (Map parts))
    else (if bytes_eq name (codes "view") then view_of name d >>= (λ size. Ok (View size))
    else (if bytes_eq name (codes "screen") then no_fields_of name d >>= (λ known. Ok Screen)
    else (if bytes_eq name (codes "summary") then no_fields_of name d >>= (λ known. Ok Summary)
    else Err (NotCommand (chars name))))))))

-- a command of this name with this argument that declares nothing
abbrev pub other_named : List ℕ → Data → Result Request Refusal
other_named name d =
    if bytes_eq name (codes "start") then new_state_of name d >>= (λ start. Ok (Start start))
    else (if bytes_eq name (codes "open") then open_of name d >>= (λ file. Ok (Open file))
    else (if bytes_eq name (codes "save") then text_alone_of (codes "file") name d >>= (λ file. Ok (Save file))
    else (if bytes_eq name (codes "update") then list_of spec_of name d >>= (λ specs. Ok (Update specs))
    else (if bytes_eq name (codes "do") then do_of name d >>= (λ command. Ok (Do command))
    else asked_named name d))))

-- a declaration, or one of the other commands
abbrev pub declared_or : Option Declaration → Result Request Refusal → Result Request Refusal
declared_or None other = other
declared_or (Some declaration) other = Ok (Declare declaration)

-- the request of the command of this name with this argument
unfoldable pub request_named : List ℕ → Data → Result Request Refusal
request_named name d = declaration_named name d >>= λ declaration. declared_or declaration (other_named name d)
