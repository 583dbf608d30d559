-- Reading the members of a JSON value: the answer, or the refusal that names the member nearest to the fault. Fields are
-- read in the table's order, the inner ones of a field before the next outer one, and after them come the members that
-- the table doesn't have.
use Rattle.std.specs.Prelude.{◌≡◌, ℕ, ◌^◌, ℤ, pos, negsuc, int_le, ◌&&◌, List, [], ◌∷◌, Bool, false, nat_lt, Option, Some, None, Result, Ok, Err, if◌then◌else◌, option_map, option_and_then, ⊤}
use Rattle.std.specs.List.{list_any}
use Rattle.std.specs.Str.{chars, bytes_eq}
use Rattle.serde_json.specs.Data.{Data, Items, no_items, item, Members, no_members, member}
use Rattle.serde_json.specs.Find.{get, at, as_bool, as_str, as_number, as_u64, as_i64, as_array, as_object}
use Rattle.script.specs.declared.refusal.Refusal.{Refusal}
use Rattle.script.specs.declared.refusal.Refusal.TheVariants.{BadValue}
use Rattle.script.specs.declared.refusal.LineError.{LineError}
use Rattle.script.specs.declared.refusal.LineError.TheVariants as errors

-- read on with what was read, or hand the refusal on
infixl 10 ◌>>=◌
abbrev pub ◌>>=◌ : {A B : Type 0} → Result A Refusal → (A → Result B Refusal) → Result B Refusal
(Ok x) >>= f = f x
(Err e) >>= f = Err e

-- the error is the refusal that reading gives, or out of memory
abbrev pub Fails : {Y : Type 0} → LineError → Result Y Refusal → Type 0
Fails errors.NoMemory read = Unit {0}
Fails (errors.Refused r) read = read ≡ Err r

-- what a function returned, seen by `see`, is what reading gives, unless out of memory
abbrev pub Gives : {X Y : Type 0} → (X → Y) → Result X LineError → Result Y Refusal → Type 0
Gives see (Ok x) read = read ≡ Ok (see x)
Gives see (Err e) read = Fails e read

-- the member of this name is missing, of a wrong kind, out of its range, or in no table
abbrev pub bad : {A : Type 0} → List ℕ → Result A Refusal
bad name = Err (BadValue (chars name))

-- the value, or the refusal of the member
abbrev pub or_bad : {A : Type 0} → List ℕ → Option A → Result A Refusal
or_bad name None = bad name
or_bad name (Some x) = Ok x

-- a member that has to be there
unfoldable pub required : List ℕ → Data → Result Data Refusal
required name d = or_bad name (get name d)

-- a member that has to be there, as `read` reads it
abbrev pub required_as : {A : Type 0} → List ℕ → (List ℕ → Data → Result A Refusal) → Data → Result A Refusal
required_as name read d = required name d >>= read name

-- what is there, as `read` reads it, or the default
abbrev pub read_or : {A : Type 0} → (Data → Result A Refusal) → A → Option Data → Result A Refusal
read_or read otherwise None = Ok otherwise
read_or read otherwise (Some d) = read d

-- a member as `read` reads it, or the default where it is absent
abbrev pub defaulted : {A : Type 0} → List ℕ → (List ℕ → Data → Result A Refusal) → A → Data → Result A Refusal
defaulted name read otherwise d = read_or (read name) otherwise (get name d)

-- a member as `read` reads it, or none where it is absent
abbrev pub optional : {A : Type 0} → List ℕ → (List ℕ → Data → Result A Refusal) → Data → Result (Option A) Refusal
optional name read d = read_or (λ m. read name m >>= λ x. Ok (Some x)) None (get name d)

-- a text, as its characters
unfoldable pub text_at : List ℕ → Data → Result (List ℕ) Refusal
text_at name d = or_bad name (option_map chars (as_str d))

abbrev pub fits_u32 : ℕ → Option ℕ
fits_u32 n = if nat_lt n (2 ^ 32) then Some n else None

-- a whole number from 0 that fits 32 bits
unfoldable pub number_at : List ℕ → Data → Result ℕ Refusal
number_at name d = or_bad name (option_and_then fits_u32 (option_and_then as_u64 (as_number d)))

abbrev pub fits_i32 : ℤ → Option ℤ
fits_i32 n = if int_le (negsuc 2147483647) n && int_le n (pos 2147483647) then Some n else None

-- a member that has to be there and a text
unfoldable pub text_member : List ℕ → Data → Result (List ℕ) Refusal
text_member name d = required_as name text_at d

-- a member that has to be there and a whole number that fits 32 bits
unfoldable pub number_member : List ℕ → Data → Result ℕ Refusal
number_member name d = required_as name number_at d

-- a whole number with a sign that fits 32 bits
unfoldable pub side_at : List ℕ → Data → Result ℤ Refusal
side_at name d = or_bad name (option_and_then fits_i32 (option_and_then as_i64 (as_number d)))

-- a whole number of 64 bits with a sign
unfoldable pub integer_at : List ℕ → Data → Result ℤ Refusal
integer_at name d = or_bad name (option_and_then as_i64 (as_number d))

-- true or false
unfoldable pub flag_at : List ℕ → Data → Result Bool Refusal
flag_at name d = or_bad name (as_bool d)

-- a list
unfoldable pub items_at : List ℕ → Data → Result Items Refusal
items_at name d = or_bad name (as_array d)

-- the item of a list at a place, which has to be there
unfoldable pub item_at : List ℕ → ℕ → Data → Result Data Refusal
item_at name index d = or_bad name (at index d)

abbrev pub or_end : List ℕ → Option Data → Result ⊤ Refusal
or_end name None = Ok tt
or_end name (Some d) = bad name

-- no item at a place
unfoldable pub no_item_at : List ℕ → ℕ → Data → Result ⊤ Refusal
no_item_at name index d = or_end name (at index d)

-- an object
unfoldable pub members_at : List ℕ → Data → Result Members Refusal
members_at name d = or_bad name (as_object d)

-- each member has one of these names; else the first one that has not, in byte order, is refused
unfoldable pub only : List (List ℕ) → Members → Result ⊤ Refusal
only names no_members = Ok tt
only names (member k d ms) = if list_any (bytes_eq k) names then only names ms else bad k

-- the items one after the other, up to the first that is refused
unfoldable pub each : {A : Type 0} → (Data → Result A Refusal) → Items → Result (List A) Refusal
each read no_items = Ok []
each read (item d ds) = do
  first ← read d
  others ← each read ds
  Ok (first ∷ others)

-- a list of such items, whose reading is told the name of the member that has the list
unfoldable pub list_of : {A : Type 0} → (List ℕ → Data → Result A Refusal) → List ℕ → Data → Result (List A) Refusal
list_of read name d = items_at name d >>= each (read name)
