-- The fields of each command of `collab`, in the order in which they are read.
use Rattle.std.specs.Prelude.{ℕ, List, [], ◌∷◌, Result, codes}
use Rattle.serde_json.specs.Data.{Data}
use Rattle.script.specs.declared.refusal.Refusal.{Refusal}
use Rattle.script.specs.Reading.{◌>>=◌, text_at, number_at, list_of}
use Rattle.script.specs.Command.{change_of}
use Rattle.script.specs.Accepted.{Field, needs, may_have, CommandEntry, with_fields}
use Rattle.collab_run.specs.Commands.{within_limit}

-- the names of the clients: a list of 1 to 64 texts
abbrev pub names_at : List ℕ → Data → Result (List (List ℕ)) Refusal
names_at name d = list_of text_at name d >>= within_limit

abbrev pub begin_fields : List Field
begin_fields = may_have (codes "doc") text_at ∷ needs (codes "clients") names_at ∷ []

abbrev pub local_fields : List Field
local_fields = needs (codes "client") text_at ∷ needs (codes "changes") (list_of change_of) ∷ []

abbrev pub send_fields : List Field
send_fields = needs (codes "client") text_at ∷ []

abbrev pub publish_fields : List Field
publish_fields = needs (codes "from") number_at ∷ needs (codes "to") number_at ∷ []

abbrev pub deliver_fields : List Field
deliver_fields = needs (codes "message") number_at ∷ may_have (codes "client") text_at ∷ []

abbrev pub commands : List CommandEntry
commands = with_fields (codes "begin") begin_fields ∷ with_fields (codes "local") local_fields
    ∷ with_fields (codes "send") send_fields ∷ with_fields (codes "publish") publish_fields
    ∷ with_fields (codes "deliver") deliver_fields ∷ with_fields (codes "state") [] ∷ []
