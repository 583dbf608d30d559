-- The command of a line: one JSON text, which is an object with one member, whose name is that of the command and whose value is
-- its argument. What is read from a name and an argument is a parameter, since each kind of script has its own commands.
use Rattle.std.specs.Prelude.{ℕ, List, [], length, Option, Some, None, Result, Err, nat_lt, if◌then◌else◌}
use Rattle.std.specs.Str.{is_utf8}
use Rattle.cm_outside.specs.Lines.{max_line}
use Rattle.serde_json.specs.Data.{Data, null, boolean, number, string, array, object, Members, no_members, member}
use Rattle.serde_json.specs.Read.{read}
use Rattle.script.specs.declared.refusal.Refusal.{Refusal}
use Rattle.script.specs.declared.refusal.Refusal.TheVariants.{LineTooLong, NotUtf8, NotJson, NotCommand}

abbrev pub command_of_members : {C : Type 0} → (List ℕ → Data → Result C Refusal) → Members → Result C Refusal
command_of_members named no_members = Err (NotCommand [])
command_of_members named (member name d no_members) = named name d
command_of_members named (member name d (member k e ms)) = Err (NotCommand [])

-- the command of a value, or the first refusal
unfoldable pub command_of : {C : Type 0} → (List ℕ → Data → Result C Refusal) → Data → Result C Refusal
command_of named null = Err (NotCommand [])
command_of named (boolean b) = Err (NotCommand [])
command_of named (number n) = Err (NotCommand [])
command_of named (string s) = Err (NotCommand [])
command_of named (array ds) = Err (NotCommand [])
command_of named (object ms) = command_of_members named ms

-- the command of what was read from a line, if it is a JSON text
abbrev pub command_of_data : {C : Type 0} → (List ℕ → Data → Result C Refusal) → Option Data → Result C Refusal
command_of_data named None = Err NotJson
command_of_data named (Some d) = command_of named d

-- the command of a line, given without its line feed, or the first refusal
unfoldable pub line_command : {C : Type 0} → (List ℕ → Data → Result C Refusal) → List ℕ → Result C Refusal
line_command named line = if nat_lt max_line (length line) then Err LineTooLong
    else (if is_utf8 line then command_of_data named (read line) else Err NotUtf8)
