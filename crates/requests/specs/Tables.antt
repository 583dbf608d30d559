-- The fields of each object of a session's script, in the order in which they are read, and the commands.
use Rattle.std.specs.Prelude.{ℕ, List, [], ◌∷◌, ◌++◌, is_some, is_ok, Bool, if◌then◌else◌, codes}
use Rattle.std.specs.List.{list_any}
use Rattle.serde_json.specs.Data.{Data}
use Rattle.serde_json.specs.Find.{as_object}
use Rattle.script.specs.Reading.{text_at, number_at, side_at, integer_at, flag_at, list_of}
use Rattle.script.specs.Values.{value_at}
use Rattle.script.specs.Command.{change_of}
use Rattle.script.specs.Accepted.{Field, needs, may_have, CommandEntry, with_fields, is_accepted, is_list_of}
use Rattle.script.specs.Tables.{selection_fields, notes_fields, flags_fields, map_fields}
use Rattle.requests.specs.Words.{precedence_at, kind_at, command_at, move_at}
use Rattle.requests.specs.Styles.{color_at, style_of}
use Rattle.requests.specs.Written.{deco_of, written_of}
use Rattle.requests.specs.Declarations.{provided_of}
use Rattle.requests.specs.Effects.{content_of, named_effect_of}

-- ---- values

-- how cells are drawn: two colours and three flags
abbrev pub style_fields : List Field
style_fields = may_have (codes "fg") color_at ∷ may_have (codes "bg") color_at ∷ may_have (codes "bold") flag_at
    ∷ may_have (codes "underline") flag_at ∷ may_have (codes "reverse") flag_at ∷ []

-- which ends are inclusive
abbrev pub inclusive_fields : List Field
inclusive_fields = may_have (codes "inclusiveStart") flag_at ∷ may_have (codes "inclusiveEnd") flag_at ∷ []

-- a decoration
abbrev pub deco_fields : List Field
deco_fields = needs (codes "kind") kind_at ∷ needs (codes "from") number_at ∷ may_have (codes "to") number_at
    ∷ may_have (codes "style") style_of ∷ may_have (codes "text") text_at ∷ may_have (codes "side") side_at ∷ inclusive_fields

-- a set of decorations
abbrev pub ranges_fields : List Field
ranges_fields = needs (codes "ranges") (list_of deco_of) ∷ []

-- a value: an object is a set of decorations, anything else plain data
abbrev pub is_written : List ℕ → Data → Bool
is_written name d = if is_some (as_object d) then is_accepted ranges_fields d else is_ok (value_at name d)

-- ---- declarations

-- a kind of effect: its name, and the number of the rule by which its values are mapped
abbrev pub effect_fields : List Field
effect_fields = needs (codes "name") text_at ∷ may_have (codes "map") number_at ∷ []

-- which kind of effect takes back which
abbrev pub inverse_fields : List Field
inverse_fields = needs (codes "effect") text_at ∷ needs (codes "back") text_at ∷ []

-- the rules of a facet
abbrev pub facet_rules_fields : List Field
facet_rules_fields = needs (codes "combine") number_at ∷ may_have (codes "compareInput") number_at
    ∷ may_have (codes "compare") number_at ∷ may_have (codes "static") flag_at ∷ []

-- a facet: its name, its rules, and what its inputs enable
abbrev pub facet_fields : List Field
facet_fields = needs (codes "name") text_at ∷ facet_rules_fields ++ may_have (codes "enables") (list_of text_at) ∷ []

-- an item of what a field provides
abbrev pub provided_fields : List Field
provided_fields = needs (codes "facet") text_at ∷ may_have (codes "rule") number_at ∷ []

-- the rules of a field
abbrev pub field_rules_fields : List Field
field_rules_fields = needs (codes "create") number_at ∷ needs (codes "update") number_at ∷ may_have (codes "compare") number_at ∷ []

-- what a field names
abbrev pub field_names_fields : List Field
field_names_fields = may_have (codes "reads") (list_of text_at) ∷ may_have (codes "listens") (list_of text_at)
    ∷ may_have (codes "provides") (list_of provided_of) ∷ []

-- a field: its name, its rules, and what it names
abbrev pub field_fields : List Field
field_fields = needs (codes "name") text_at ∷ field_rules_fields ++ field_names_fields

-- a compartment, of which only the name is declared
abbrev pub compartment_fields : List Field
compartment_fields = needs (codes "name") text_at ∷ []

-- an input with a value that stays
abbrev pub input_fields : List Field
input_fields = needs (codes "name") text_at ∷ needs (codes "facet") text_at ∷ needs (codes "value") written_of ∷ []

-- an input that a rule computes from what it names
abbrev pub compute_fields : List Field
compute_fields = needs (codes "name") text_at ∷ needs (codes "facet") text_at ∷ needs (codes "rule") number_at
    ∷ needs (codes "deps") (list_of text_at) ∷ may_have (codes "many") flag_at ∷ []

-- an input that a rule computes from a field alone
abbrev pub from_fields : List Field
from_fields = needs (codes "name") text_at ∷ needs (codes "facet") text_at ∷ needs (codes "field") text_at
    ∷ may_have (codes "rule") number_at ∷ []

-- a field with a first value of its own
abbrev pub init_fields : List Field
init_fields = needs (codes "name") text_at ∷ needs (codes "field") text_at ∷ needs (codes "value") written_of ∷ []

-- several extensions under one name
abbrev pub group_fields : List Field
group_fields = needs (codes "name") text_at ∷ needs (codes "of") (list_of text_at) ∷ []

-- an extension at a precedence
abbrev pub prec_fields : List Field
prec_fields = needs (codes "name") text_at ∷ needs (codes "at") precedence_at ∷ needs (codes "of") text_at ∷ []

-- a compartment with its first content
abbrev pub slot_fields : List Field
slot_fields = needs (codes "name") text_at ∷ needs (codes "compartment") text_at ∷ needs (codes "of") text_at ∷ []

-- ---- effects

-- the new content of a compartment
abbrev pub content_fields : List Field
content_fields = needs (codes "compartment") text_at ∷ needs (codes "to") text_at ∷ []

-- an effect of a declared kind, with its value
abbrev pub kind_effect_fields : List Field
kind_effect_fields = needs (codes "effect") text_at ∷ needs (codes "value") value_at ∷ []

-- another content for a compartment
abbrev pub reconfigure_fields : List Field
reconfigure_fields = needs (codes "reconfigure") content_of ∷ []

-- other extensions for the whole state
abbrev pub root_fields : List Field
root_fields = needs (codes "root") (list_of text_at) ∷ []

-- an extension that is added
abbrev pub append_fields : List Field
append_fields = needs (codes "append") text_at ∷ []

-- an effect has one of these forms
abbrev pub effect_forms : List (List Field)
effect_forms = kind_effect_fields ∷ reconfigure_fields ∷ root_fields ∷ append_fields ∷ []

-- an effect of one of these forms
abbrev pub is_effect : Data → Bool
is_effect d = list_any (λ fields. is_accepted fields d) effect_forms

-- ---- other commands

-- an item of a list of specs
abbrev pub spec_fields : List Field
spec_fields = may_have (codes "changes") (list_of change_of) ∷ selection_fields
    ++ may_have (codes "effects") (list_of named_effect_of) ∷ notes_fields ++ flags_fields

-- a first state: its text, its selection, and its extensions
abbrev pub new_state_fields : List Field
new_state_fields = may_have (codes "doc") text_at ∷ selection_fields ++ may_have (codes "extensions") (list_of text_at) ∷ []

-- a state over a file's text
abbrev pub open_fields : List Field
open_fields = needs (codes "file") text_at ∷ may_have (codes "extensions") (list_of text_at) ∷ []

-- a command of the editor, with the arguments that some take
abbrev pub do_fields : List Field
do_fields = needs (codes "command") command_at ∷ may_have (codes "text") text_at ∷ may_have (codes "move") move_at
    ∷ may_have (codes "extend") flag_at ∷ may_have (codes "time") integer_at ∷ []

-- another window
abbrev pub view_fields : List Field
view_fields = needs (codes "rows") number_at ∷ needs (codes "cols") number_at ∷ []

-- the commands of a session, in the order in which they are tried
abbrev pub requests : List CommandEntry
requests = with_fields (codes "effect") effect_fields
    ∷ with_fields (codes "inverse") inverse_fields
    ∷ with_fields (codes "facet") facet_fields
    ∷ with_fields (codes "field") field_fields
    ∷ with_fields (codes "compartment") compartment_fields
    ∷ with_fields (codes "input") input_fields
    ∷ with_fields (codes "compute") compute_fields
    ∷ with_fields (codes "from") from_fields
    ∷ with_fields (codes "init") init_fields
    ∷ with_fields (codes "group") group_fields
    ∷ with_fields (codes "prec") prec_fields
    ∷ with_fields (codes "slot") slot_fields
    ∷ with_fields (codes "start") new_state_fields
    ∷ with_fields (codes "open") open_fields
    ∷ with_fields (codes "save") (needs (codes "file") text_at ∷ [])
    ∷ record { name = codes "update"; takes = is_list_of (is_accepted spec_fields) }
    ∷ with_fields (codes "do") do_fields
    ∷ with_fields (codes "text") []
    ∷ with_fields (codes "selection") []
    ∷ with_fields (codes "get") (needs (codes "name") text_at ∷ [])
    ∷ with_fields (codes "map") map_fields
    ∷ with_fields (codes "view") view_fields
    ∷ with_fields (codes "screen") []
    ∷ with_fields (codes "summary") [] ∷ []
