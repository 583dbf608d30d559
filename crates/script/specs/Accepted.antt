-- What is accepted: an object whose fields all fit and that has no other member, a list whose items all fit, a line whose
-- command takes its argument. `ReadsExactly` says that what is read is an answer exactly there.
use Rattle.std.specs.Prelude.{◌≡◌, ℕ, List, [], ◌∷◌, length, ◌&&◌, Bool, true, false, not, nat_lt, Option, Some, None, Result, Ok, Err, is_ok, if◌then◌else◌}
use Rattle.std.specs.List.{list_all, list_any}
use Rattle.std.specs.Str.{bytes_eq, is_utf8}
use Rattle.cm_outside.specs.Lines.{max_line}
use Rattle.serde_json.specs.Data.{Data, Items, no_items, item, Members, no_members, member}
use Rattle.serde_json.specs.Find.{get, as_array, as_object}
use Rattle.serde_json.specs.Read.{read}
use Rattle.script.specs.declared.refusal.Refusal.{Refusal}
use Rattle.script.specs.declared.refusal.LineError.{LineError}
use Rattle.script.specs.declared.refusal.LineError.TheVariants as errors

-- what is read from a value is an answer, and no refusal, exactly where the value passes the test
abbrev pub ReadsExactly : {A : Type 0} → (Data → Result A Refusal) → (Data → Bool) → Type 0
ReadsExactly read test = (d : Data) → is_ok (read d) ≡ test d

-- a function that reads answers only where the test holds, and refuses only where it doesn't; it may be out of memory anywhere
abbrev pub AnswersWhere : {X : Type 0} → Result X LineError → Bool → Type 0
AnswersWhere (Ok x) test = test ≡ true
AnswersWhere (Err errors.NoMemory) test = Unit {0}
AnswersWhere (Err (errors.Refused r)) test = test ≡ false

-- there is something, and it passes the test
abbrev pub is_some_and : {A : Type 0} → (A → Bool) → Option A → Bool
is_some_and test None = false
is_some_and test (Some x) = test x

-- a field of an object: its name, whether it has to be there, and which values fit it
pub record Field : Type 0 where
  pub name : List ℕ
  pub is_required : Bool
  pub takes : Data → Bool

-- a field that has to be there; what `read` reads fits it
abbrev pub needs : {A : Type 0} → List ℕ → (List ℕ → Data → Result A Refusal) → Field
needs name read = record { name = name; is_required = true; takes = λ d. is_ok (read name d) }

-- a field that may be absent; what `read` reads fits it
abbrev pub may_have : {A : Type 0} → List ℕ → (List ℕ → Data → Result A Refusal) → Field
may_have name read = record { name = name; is_required = false; takes = λ d. is_ok (read name d) }

-- the member of a field's name is there and fits, or it is absent and may be
abbrev pub member_fits : Field → Option Data → Bool
member_fits field None = not field.is_required
member_fits field (Some d) = field.takes d

-- what an object has under a field's name fits the field
abbrev pub meets : Data → Field → Bool
meets d field = member_fits field (get field.name d)

-- each of these fields fits
abbrev pub all_fit : List Field → Data → Bool
all_fit fields d = list_all (meets d) fields

-- each member has the name of one of these fields
abbrev pub has_no_other : List Field → Members → Bool
has_no_other fields no_members = true
has_no_other fields (member k d ms) = list_any (λ field. bytes_eq k field.name) fields && has_no_other fields ms

-- an object whose fields all fit and that has no other member
abbrev pub is_accepted : List Field → Data → Bool
is_accepted fields d = all_fit fields d && is_some_and (has_no_other fields) (as_object d)

-- each item passes the test
abbrev pub all_items : (Data → Bool) → Items → Bool
all_items test no_items = true
all_items test (item d ds) = test d && all_items test ds

-- a list whose items all pass the test
abbrev pub is_list_of : (Data → Bool) → Data → Bool
is_list_of test d = is_some_and (all_items test) (as_array d)

abbrev pub are_two : (Data → Bool) → Items → Bool
are_two test no_items = false
are_two test (item a no_items) = false
are_two test (item a (item b no_items)) = test a && test b
are_two test (item a (item b (item c ds))) = false

-- a list of two items, which both pass the test
abbrev pub is_pair_of : (Data → Bool) → Data → Bool
is_pair_of test d = is_some_and (are_two test) (as_array d)

-- a command: its name, and which arguments it takes
pub record CommandEntry : Type 0 where
  pub name : List ℕ
  pub takes : Data → Bool

-- a command whose argument is an object of these fields
abbrev pub with_fields : List ℕ → List Field → CommandEntry
with_fields name fields = record { name = name; takes = is_accepted fields }

-- a command of this name with this argument is one of these; of those of one name the first counts
abbrev pub is_command : List CommandEntry → List ℕ → Data → Bool
is_command [] name d = false
is_command (entry ∷ entries) name d = if bytes_eq name entry.name then entry.takes d else is_command entries name d

-- there is one member, and its name and value pass the test
abbrev pub is_alone : (List ℕ → Data → Bool) → Members → Bool
is_alone test no_members = false
is_alone test (member name d no_members) = test name d
is_alone test (member name d (member k e ms)) = false

-- an object of one member, whose name and value pass the test
abbrev pub is_command_value : (List ℕ → Data → Bool) → Data → Bool
is_command_value test d = is_some_and (is_alone test) (as_object d)

-- a line that is not too long and is the JSON text, in UTF-8, of an object of one member, the command, whose name and value,
-- its argument, pass the test
abbrev pub is_line : (List ℕ → Data → Bool) → List ℕ → Bool
is_line test line = not (nat_lt max_line (length line)) && is_utf8 line && is_some_and (is_command_value test) (read line)
