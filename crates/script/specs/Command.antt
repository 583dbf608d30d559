-- The commands of `replay`, each of a name and an argument.
use Rattle.std.specs.Prelude.{ℕ, List, [], ◌∷◌, Option, Result, Ok, Err, Bool, true, false, if◌then◌else◌, codes, pos, option_map, ⊤}
use Rattle.std.specs.Str.{chars, bytes_eq}
use Rattle.serde_json.specs.Data.{Data}
use Rattle.cm_plain.specs.declared.plain.Plain.{Plain}
use Rattle.line_tree.specs.Text.{cut}
use Rattle.change_set.specs.declared.change.Change.{Change}
use Rattle.change_set.specs.declared.change.Change.TheVariants.{Span}
use Rattle.selection.specs.declared.range.Range.{Range}
use Rattle.transaction.specs.declared.annotation.Annotation.{Annotation}
use Rattle.transaction.specs.declared.spec.SelectionSpec.{SelectionSpec}
use Rattle.transaction.specs.declared.spec.Spec.{Spec}
use Rattle.change_desc.specs.declared.map_mode.MapMode.TheVariants.{Simple}
use Rattle.script.specs.declared.refusal.Refusal.{Refusal}
use Rattle.script.specs.declared.refusal.Refusal.TheVariants.{NotCommand}
use Rattle.script.specs.declared.map_request.MapSets.{MapSets}
use Rattle.script.specs.declared.map_request.MapPlace.{MapPlace}
use Rattle.script.specs.declared.map_request.MapParts.{MapParts}
use Rattle.script.specs.declared.map_request.MapOp.{MapOp}
use Rattle.script.specs.declared.command.Command.{Command}
use Rattle.script.specs.declared.command.Command.TheVariants.{Start, Update, Text, Selection, Map}
use Rattle.script.specs.Reading.{◌>>=◌, required_as, defaulted, optional, text_at, number_at, side_at, flag_at, item_at, no_item_at, members_at, only, list_of, number_member, text_member}
use Rattle.script.specs.Values.{value_at}
use Rattle.script.specs.Words.{op_at, mode_at}

-- an item of a list of changes, {from, to (default from), insert (default "")}, whose text is cut at its line breaks
unfoldable pub change_of : List ℕ → Data → Result Change Refusal
change_of name d = do
  members ← members_at name d
  from ← number_member (codes "from") d
  to ← defaulted (codes "to") number_at from d
  insert ← defaulted (codes "insert") text_at [] d
  known ← only (codes "from" ∷ codes "to" ∷ codes "insert" ∷ []) members
  Ok (Span from to (cut insert))

-- an item of a list of ranges, [from, to]
unfoldable pub range_of : List ℕ → Data → Result (ℕ × ℕ) Refusal
range_of name d = do
  first ← item_at name 0 d
  from ← number_at name first
  second ← item_at name 1 d
  to ← number_at name second
  end ← no_item_at name 2 d
  Ok (from, to)

-- an item of a list of ranges that are selected, [anchor, head]
unfoldable pub selected_of : List ℕ → Data → Result Range Refusal
selected_of name d = range_of name d >>= λ ends. Ok (record { anchor = ends.0; head = ends.1 })

-- which range is the main one, counted from 0: {main (default 0)}
unfoldable pub main_of : Data → Result ℕ Refusal
main_of d = defaulted (codes "main") number_at 0 d

abbrev pub with_main : ℕ → List Range → SelectionSpec
with_main main ranges = record { ranges = ranges; main = main }

-- the selection of a new document: {selection (default [[0, 0]]), main}
unfoldable pub first_selection_of : Data → Result SelectionSpec Refusal
first_selection_of d = do
  ranges ← defaulted (codes "selection") (list_of selected_of) (record { anchor = 0; head = 0 } ∷ []) d
  main ← main_of d
  Ok (with_main main ranges)

-- the selection of a spec: {selection (default none), main}
unfoldable pub given_selection_of : Data → Result (Option SelectionSpec) Refusal
given_selection_of d = do
  ranges ← optional (codes "selection") (list_of selected_of) d
  main ← main_of d
  Ok (option_map (with_main main) ranges)

-- an item of a list of annotations, {type, value}
unfoldable pub annotation_of : List ℕ → Data → Result Annotation Refusal
annotation_of name d = do
  members ← members_at name d
  kind ← text_member (codes "type") d
  value ← required_as (codes "value") value_at d
  known ← only (codes "type" ∷ codes "value" ∷ []) members
  Ok (record { kind = kind; value = value })

-- what a spec says beside its changes and its selection: {annotations (default []), userEvent (default none)}
unfoldable pub notes_of : Data → Result (List Annotation × Option (List ℕ)) Refusal
notes_of d = do
  annotations ← defaulted (codes "annotations") (list_of annotation_of) [] d
  event ← optional (codes "userEvent") text_at d
  Ok (annotations, event)

-- how a spec is taken: {sequential (default false), filter (default true)}
unfoldable pub flags_of : Data → Result (Bool × Bool) Refusal
flags_of d = do
  sequential ← defaulted (codes "sequential") flag_at false d
  filter ← defaulted (codes "filter") flag_at true d
  Ok (sequential, filter)

-- an item of a list of specs, which has no effects: {changes (default []), selection, main, annotations, userEvent, sequential, filter}
unfoldable pub spec_of : List ℕ → Data → Result (Spec Plain) Refusal
spec_of name d = do
  members ← members_at name d
  changes ← defaulted (codes "changes") (list_of change_of) [] d
  selection ← given_selection_of d
  notes ← notes_of d
  flags ← flags_of d
  known ← only (codes "changes" ∷ codes "selection" ∷ codes "main" ∷ codes "annotations" ∷ codes "userEvent" ∷ codes "sequential" ∷ codes "filter" ∷ []) members
  Ok (record { changes = changes; selection = selection; effects = []; annotations = notes.0; user_event = notes.1; sequential = flags.0; filter = flags.1 })

-- `update`: a list of specs
unfoldable pub update_of : Data → Result Command Refusal
update_of d = list_of spec_of (codes "update") d >>= λ specs. Ok (Update specs)

-- `start`: {doc (default ""), selection, main}
unfoldable pub start_of : Data → Result Command Refusal
start_of d = do
  members ← members_at (codes "start") d
  doc ← defaulted (codes "doc") text_at [] d
  selection ← first_selection_of d
  known ← only (codes "doc" ∷ codes "selection" ∷ codes "main" ∷ []) members
  Ok (Start (record { doc = doc; selection = selection }))

-- the argument of a command of this name that has no field: {}
unfoldable pub no_fields_of : List ℕ → Data → Result ⊤ Refusal
no_fields_of name d = members_at name d >>= only []

-- `text`: {}
unfoldable pub text_of : Data → Result Command Refusal
text_of d = no_fields_of (codes "text") d >>= λ known. Ok Text

-- `selection`: {}
unfoldable pub selection_of : Data → Result Command Refusal
selection_of d = no_fields_of (codes "selection") d >>= λ known. Ok Selection

-- the first fields of `map`: {doc, a, b (default [])}
unfoldable pub map_sets_of : Data → Result MapSets Refusal
map_sets_of d = do
  doc ← text_member (codes "doc") d
  a ← required_as (codes "a") (list_of change_of) d
  b ← defaulted (codes "b") (list_of change_of) [] d
  Ok (record { doc = doc; a = a; b = b })

-- the last fields of `map`: {pos (default none), side (default 1), mode (default "simple")}
unfoldable pub map_place_of : Data → Result MapPlace Refusal
map_place_of d = do
  at ← optional (codes "pos") number_at d
  side ← defaulted (codes "side") side_at (pos 1) d
  mode ← defaulted (codes "mode") mode_at Simple d
  Ok (record { pos = at; side = side; mode = mode })

-- the fields of `map` between these: {op, protect (default [])}
unfoldable pub map_op_of : Data → Result (MapOp × List (ℕ × ℕ)) Refusal
map_op_of d = do
  op ← required_as (codes "op") op_at d
  protect ← defaulted (codes "protect") (list_of range_of) [] d
  Ok (op, protect)

-- what `map` asks for: {doc, a, b, op, protect, pos, side, mode}
unfoldable pub map_request_of : Data → Result MapParts Refusal
map_request_of d = do
  members ← members_at (codes "map") d
  sets ← map_sets_of d
  how ← map_op_of d
  place ← map_place_of d
  known ← only (codes "doc" ∷ codes "a" ∷ codes "b" ∷ codes "op" ∷ codes "protect" ∷ codes "pos" ∷ codes "side" ∷ codes "mode" ∷ []) members
  Ok (record { sets = sets; op = how.0; protect = how.1; place = place })

-- `map`
unfoldable pub map_of : Data → Result Command Refusal
map_of d = map_request_of d >>= λ parts. Ok (Map parts)

-- the command of this name with this argument
unfoldable pub command_named : List ℕ → Data → Result Command Refusal
command_named name d =
    if bytes_eq name (codes "start") then start_of d
    else (if bytes_eq name (codes "update") then update_of d
    else (if bytes_eq name (codes "text") then text_of d
    else (if bytes_eq name (codes "selection") then selection_of d
    else (if bytes_eq name (codes "map") then map_of d
    else Err (NotCommand (chars name))))))
