-- The fields of each object of a script, in the order in which they are read, and the commands of `replay` without extensions.
use Rattle.std.specs.Prelude.{List, [], ◌∷◌, ◌++◌, codes}
use Rattle.script.specs.Reading.{text_at, number_at, side_at, flag_at, list_of}
use Rattle.script.specs.Values.{value_at}
use Rattle.script.specs.Words.{op_at, mode_at}
use Rattle.script.specs.Command.{change_of, range_of, selected_of, annotation_of}
use Rattle.script.specs.Accepted.{Field, needs, may_have, CommandEntry, with_fields, is_accepted, is_list_of}

-- an item of a list of changes
abbrev pub change_fields : List Field
change_fields = needs (codes "from") number_at ∷ may_have (codes "to") number_at ∷ may_have (codes "insert") text_at ∷ []

-- which ranges are selected, and which one is the main one
abbrev pub selection_fields : List Field
selection_fields = may_have (codes "selection") (list_of selected_of) ∷ may_have (codes "main") number_at ∷ []

-- an item of a list of annotations
abbrev pub annotation_fields : List Field
annotation_fields = needs (codes "type") text_at ∷ needs (codes "value") value_at ∷ []

-- what a spec says beside its changes and its selection
abbrev pub notes_fields : List Field
notes_fields = may_have (codes "annotations") (list_of annotation_of) ∷ may_have (codes "userEvent") text_at ∷ []

-- how a spec is taken
abbrev pub flags_fields : List Field
flags_fields = may_have (codes "sequential") flag_at ∷ may_have (codes "filter") flag_at ∷ []

-- an item of a list of specs, which has no effects
abbrev pub spec_fields : List Field
spec_fields = may_have (codes "changes") (list_of change_of) ∷ selection_fields ++ notes_fields ++ flags_fields

abbrev pub start_fields : List Field
start_fields = may_have (codes "doc") text_at ∷ selection_fields

abbrev pub map_fields : List Field
map_fields = needs (codes "doc") text_at ∷ needs (codes "a") (list_of change_of) ∷ may_have (codes "b") (list_of change_of)
    ∷ needs (codes "op") op_at ∷ may_have (codes "protect") (list_of range_of)
    ∷ may_have (codes "pos") number_at ∷ may_have (codes "side") side_at ∷ may_have (codes "mode") mode_at ∷ []

abbrev pub commands : List CommandEntry
commands = with_fields (codes "start") start_fields
    ∷ record { name = codes "update"; takes = is_list_of (is_accepted spec_fields) }
    ∷ with_fields (codes "text") [] ∷ with_fields (codes "selection") []
    ∷ with_fields (codes "map") map_fields ∷ []
