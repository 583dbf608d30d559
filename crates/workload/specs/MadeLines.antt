-- The lines of the workload: three declarations, the start, the transactions and the summary. Each line is JSON without LF.
use Rattle.std.specs.Prelude.{ℕ, ◌*◌, ◌==◌, List, [], ◌∷◌, ◌++◌, zero, suc, codes, if◌then◌else◌}
use Rattle.std.specs.Fmt.{decimal}
use Rattle.std.specs.List.{flat_map}
use Rattle.workload.specs.Edits.{after, made_text, next_edit}
use Rattle.workload.specs.declared.edit.Edit.{Edit}
use Rattle.workload.specs.declared.edit.Edit.TheVariants.{Insert, Delete, Mark}
use Rattle.workload.specs.declared.made_line.MadeLine.{MadeLine}
use Rattle.workload.specs.declared.made_line.MadeLine.TheVariants as made
use Rattle.workload.specs.declared.progress.Progress.{Progress}

-- the lines before the transactions
abbrev pub first_lines : List (List ℕ)
first_lines =
    codes "{\"effect\":{\"name\":\"mark\",\"map\":2}}"
    ∷ codes "{\"field\":{\"name\":\"marks\",\"create\":5,\"update\":4,\"listens\":[\"mark\"],\"provides\":[{\"facet\":\"decorations\",\"rule\":6}]}}"
    ∷ codes "{\"field\":{\"name\":\"count\",\"create\":2,\"update\":2}}"
    ∷ codes "{\"start\":{\"extensions\":[\"history\",\"marks\",\"count\"]}}"
    ∷ []

abbrev pub summary : List ℕ
summary = codes "{\"summary\":{}}"

-- a character of a made text in a JSON text
abbrev pub written : ℕ → List ℕ
written ch = if ch == 10 then codes "\\n" else ch ∷ []

-- a made text in a JSON text, without its quotes
abbrev pub written_text : ℕ → ℕ → List ℕ
written_text size letter = flat_map written (made_text size letter)

-- an update of one spec: a text inserted at a position, up to the text
abbrev pub insert_start : ℕ → List ℕ
insert_start at = codes "{\"update\":[{\"changes\":[{\"from\":" ++ decimal at ++ codes ",\"insert\":\""

-- what follows the text: the annotation of the time in milliseconds
abbrev pub insert_end : ℕ → List ℕ
insert_end time = codes "\"}],\"annotations\":[{\"type\":\"time\",\"value\":" ++ decimal time ++ codes "}]}]}"

-- an update of one spec: the characters between two positions deleted, at a time in milliseconds
abbrev pub delete_line : ℕ → ℕ → ℕ → List ℕ
delete_line time from to =
    codes "{\"update\":[{\"changes\":[{\"from\":" ++ (decimal from ++ (codes ",\"to\":" ++ (decimal to
    ++ (codes "}],\"annotations\":[{\"type\":\"time\",\"value\":" ++ (decimal time ++ codes "}]}]}")))))

-- an update of one spec: the effect `mark` of two positions
abbrev pub mark_line : ℕ → ℕ → List ℕ
mark_line from to =
    codes "{\"update\":[{\"effects\":[{\"effect\":\"mark\",\"value\":[" ++ (decimal from ++ (codes "," ++ (decimal to ++ codes "]}]}]}")))

-- the update that does an edit at a time in milliseconds
abbrev pub edit_line : ℕ → Edit → List ℕ
edit_line time (Insert at size letter) = insert_start at ++ written_text size letter ++ insert_end time
edit_line time (Delete from to) = delete_line time from to
edit_line time (Mark from to) = mark_line from to

-- the line that a line given as a value is
abbrev pub line_of : MadeLine → List ℕ
line_of (made.Text text) = text.now
line_of (made.Edit time edit) = edit_line time edit

-- the lines of the next transactions, whose times are 100 milliseconds apart
abbrev pub edit_lines : ℕ → Progress → List (List ℕ)
edit_lines zero p = []
edit_lines (suc count) p = edit_line (100 * p.number) (next_edit p) ∷ edit_lines count (after p)

-- before the first transaction: the document is empty, and the generator's number is 1
abbrev pub beginning : Progress
beginning = record { number = 1; seed = 1; length = 0 }

-- the greatest number of transactions
abbrev pub max_transactions : ℕ
max_transactions = 1000000

-- the lines of a workload of `count` transactions
abbrev pub made_lines : ℕ → List (List ℕ)
made_lines count = first_lines ++ edit_lines count beginning ++ summary ∷ []
