-- An object is accepted exactly where its fields all fit and it has no other member.
use Rattle.std.proofs.Common.{◌≡◌, ℕ, ◌&&◌, ◌||◌, List, [], ◌∷◌, ◌++◌, length, map, nat_lt, Bool, true, false, not, is_some, Option, Some, None, Result, Ok, Err, if◌then◌else◌, is_ok, refl, sym, ap, ◌∙◌, true≢false, Ordering, Less, Equal, Greater, nat_cmp}
use Rattle.std.specs.Ordering.{match_ordering}
use Rattle.std.specs.Cmp.Lexicographic.{slice_cmp}
use Rattle.std.proofs.lemmas.Map.Lookups.{exact_bytes}
use Rattle.std.specs.List.{list_any}
use Rattle.std.specs.Str.{bytes_eq, is_utf8}
use Rattle.cm_outside.specs.Lines.{max_line}
use Rattle.serde_json.specs.Data.{Data, null, boolean, number, string, array, object, Items, no_items, item, Members, no_members, member}
use Rattle.serde_json.specs.Find.{get, get_member, as_array, as_object}
use Rattle.serde_json.specs.Read.{read}
use Rattle.script.specs.declared.refusal.Refusal.{Refusal}
use Rattle.script.specs.declared.refusal.Refusal.TheVariants.{LineTooLong, NotUtf8}
use Rattle.script.specs.declared.refusal.LineError.{LineError}
use Rattle.script.specs.declared.refusal.LineError.TheVariants as errors
use Rattle.script.specs.Reading.{◌>>=◌, Gives, bad, or_bad, read_or, required, required_as, defaulted, optional, number_member, text_member, items_at, members_at, only, text_at, number_at, each, list_of}
use Rattle.script.specs.Lines.{command_of_members, command_of, command_of_data, line_command}
use Rattle.script.specs.Accepted.{is_alone, is_command_value, is_line, Field, needs, may_have, meets, member_fits, all_fit, has_no_other, is_some_and, is_accepted, all_items, is_list_of, ReadsExactly, AnswersWhere}

-- what is read is a value exactly where these fields of an object fit and the rest holds
pub record Reads {A : Type 0} (d : Data) (fields : List Field) (rest : Bool) (read : Result A Refusal) : Type 0 where
  pub same : is_ok read ≡ (all_fit fields d && rest)

and_true : (b : Bool) → b && true ≡ b
and_true true = refl
and_true false = refl

pub link : {A B : Type 0} (read : Result A Refusal) (next : A → Result B Refusal) (a b : Bool) → is_ok read ≡ a → ((x : A) → is_ok (next x) ≡ b) → is_ok (read >>= next) ≡ (a && b)
link (Ok x) next a b e h = h x ∙ ap (λ c. c && b) e
link (Err r) next a b e h = ap (λ c. c && b) e

all_before : (d : Data) (before after : List Field) (rest : Bool) → (all_fit before d && true) && (all_fit after d && rest) ≡ (all_fit (before ++ after) d && rest)
all_before d [] after rest = refl
all_before d (f ∷ before) after rest = at (meets d f) (all_before d before after rest) where
  at : (b : Bool) → (all_fit before d && true) && (all_fit after d && rest) ≡ (all_fit (before ++ after) d && rest)
      → ((b && all_fit before d) && true) && (all_fit after d && rest) ≡ ((b && all_fit (before ++ after) d) && rest)
  at true e = e
  at false e = refl

-- some fields, and then others
pub on : {A B : Type 0} {d : Data} {before after : List Field} {rest : Bool} {read : Result A Refusal} {next : A → Result B Refusal} → Reads d before true read
    → ((x : A) → Reads d after rest (next x)) → Reads d (before ++ after) rest (read >>= next)
on {d = d} {before = before} {after = after} {rest = rest} {read = read} {next = next} first others =
    record { same = link read next (all_fit before d && true) (all_fit after d && rest) first.same (λ x. (others x).same) ∙ all_before d before after rest }

-- nothing more is read
pub end : {A : Type 0} (d : Data) (x : A) → Reads d [] true (Ok x)
end d x = record { same = refl }

alone : {A : Type 0} (d : Data) (field : Field) (read : Result A Refusal) → is_ok read ≡ meets d field → Reads d (field ∷ []) true read
alone d field read e = record { same = e ∙ sym (and_true (meets d field)) ∙ sym (and_true (meets d field && true)) }

-- a field that has to be there
pub need : {A : Type 0} (name : List ℕ) (read : List ℕ → Data → Result A Refusal) (d : Data) → Reads d (needs name read ∷ []) true (required_as name read d)
unfolding required
need name read d = alone d (needs name read) (required_as name read d) (at (get name d)) where
  at : (o : Option Data) → is_ok (or_bad name o >>= read name) ≡ member_fits (needs name read) o
  at None = refl
  at (Some m) = refl

pub need_number : (name : List ℕ) (d : Data) → Reads d (needs name number_at ∷ []) true (number_member name d)
unfolding number_member
need_number name d = need name number_at d

pub need_text : (name : List ℕ) (d : Data) → Reads d (needs name text_at ∷ []) true (text_member name d)
unfolding text_member
need_text name d = need name text_at d

-- a field that may be absent
pub have : {A : Type 0} (name : List ℕ) (read : List ℕ → Data → Result A Refusal) (otherwise : A) (d : Data) → Reads d (may_have name read ∷ []) true (defaulted name read otherwise d)
have name read otherwise d = alone d (may_have name read) (defaulted name read otherwise d) (at (get name d)) where
  at : (o : Option Data) → is_ok (read_or (read name) otherwise o) ≡ member_fits (may_have name read) o
  at None = refl
  at (Some m) = refl

pub have_or_none : {A : Type 0} (name : List ℕ) (read : List ℕ → Data → Result A Refusal) (d : Data) → Reads d (may_have name read ∷ []) true (optional name read d)
have_or_none {A = A} name read d = alone d (may_have name read) (optional name read d) (at (get name d)) where
  some : (r : Result A Refusal) → is_ok (r >>= λ x. Ok (Some x)) ≡ is_ok r
  some (Ok x) = refl
  some (Err r) = refl

  at : (o : Option Data) → is_ok (read_or (λ m. read name m >>= λ x. Ok (Some x)) None o) ≡ member_fits (may_have name read) o
  at None = refl
  at (Some m) = some (read name m)

-- each member is a field, and then nothing more is read
knows : (fields : List Field) (k : List ℕ) → list_any (bytes_eq k) (map (λ field. field.name) fields) ≡ list_any (λ field. bytes_eq k field.name) fields
knows [] k = refl
knows (f ∷ fields) k = ap (λ b. bytes_eq k f.name || b) (knows fields k)

only_fields : (fields : List Field) (ms : Members) → is_ok (only (map (λ field. field.name) fields) ms) ≡ has_no_other fields ms
unfolding only
only_fields fields no_members = refl
only_fields fields (member k d ms) = at (list_any (bytes_eq k) (map (λ field. field.name) fields)) (only_fields fields ms) ∙ ap (λ b. b && has_no_other fields ms) (knows fields k) where
  at : (b : Bool) → is_ok (only (map (λ field. field.name) fields) ms) ≡ has_no_other fields ms
      → is_ok {E = Refusal} (if b then only (map (λ field. field.name) fields) ms else bad k) ≡ (b && has_no_other fields ms)
  at true e = e
  at false e = refl

pub last : {A : Type 0} (fields : List Field) (ms : Members) (x : A) (d : Data) → Reads d [] (has_no_other fields ms) (only (map (λ field. field.name) fields) ms >>= λ known. Ok x)
last fields ms x d = record { same = link (only (map (λ field. field.name) fields) ms) (λ known. Ok x) (has_no_other fields ms) true (only_fields fields ms) (λ known. refl) ∙ and_true (has_no_other fields ms) }

-- an object is read whose members' names are looked at last
pub accepts : {A : Type 0} (fields : List Field) (name : List ℕ) (d : Data) (next : Members → Result A Refusal) → ((ms : Members) → Reads d fields (has_no_other fields ms) (next ms))
    → is_ok (members_at name d >>= next) ≡ is_accepted fields d
unfolding members_at
accepts fields name d next h = at (as_object d) where
  none : (b : Bool) → false ≡ (b && false)
  none true = refl
  none false = refl

  at : (o : Option Members) → is_ok (or_bad name o >>= next) ≡ (all_fit fields d && is_some_and (has_no_other fields) o)
  at None = none (all_fit fields d)
  at (Some ms) = (h ms).same

-- an object in which this field is missing is refused
pub refused_without : {A : Type 0} (name : List ℕ) (read : List ℕ → Data → Result A Refusal) (fields : List Field) (d : Data) → get name d ≡ None → is_accepted (needs name read ∷ fields) d ≡ false
refused_without name read fields d h = ap (λ o. (member_fits (needs name read) o && all_fit fields d) && is_some_and (has_no_other (needs name read ∷ fields)) (as_object d)) h

and_false : (b : Bool) → b && false ≡ false
and_false true = refl
and_false false = refl

other_found : (fields : List Field) (k : List ℕ) (found : Data) (ms : Members) → list_any (λ field. bytes_eq k field.name) fields ≡ false → get_member k ms ≡ Some found → has_no_other fields ms ≡ false
other_found fields k found no_members unknown h = absurd (true≢false (sym (ap is_some h)))
other_found fields k found (member l d ms) unknown h = at (slice_cmp nat_cmp k l) refl h (other_found fields k found ms unknown) where
  at : (o : Ordering) → slice_cmp nat_cmp k l ≡ o → match_ordering o (get_member k ms) (Some d) (get_member k ms) ≡ Some found → (get_member k ms ≡ Some found → has_no_other fields ms ≡ false)
      → list_any (λ field. bytes_eq l field.name) fields && has_no_other fields ms ≡ false
  at Less e h later = ap (λ b. list_any (λ field. bytes_eq l field.name) fields && b) (later h) ∙ and_false (list_any (λ field. bytes_eq l field.name) fields)
  at Equal e h later = ap (λ b. b && has_no_other fields ms) (ap (λ name. list_any (λ field. bytes_eq name field.name) fields) (sym (exact_bytes k l e)) ∙ unknown)
  at Greater e h later = ap (λ b. list_any (λ field. bytes_eq l field.name) fields && b) (later h) ∙ and_false (list_any (λ field. bytes_eq l field.name) fields)

-- an object that has a member of another name is refused
pub refused_with : (fields : List Field) (k : List ℕ) (found : Data) (d : Data) → list_any (λ field. bytes_eq k field.name) fields ≡ false → get k d ≡ Some found → is_accepted fields d ≡ false
refused_with fields k found null unknown h = absurd (true≢false (sym (ap is_some h)))
refused_with fields k found (boolean b) unknown h = absurd (true≢false (sym (ap is_some h)))
refused_with fields k found (number n) unknown h = absurd (true≢false (sym (ap is_some h)))
refused_with fields k found (string s) unknown h = absurd (true≢false (sym (ap is_some h)))
refused_with fields k found (array ds) unknown h = absurd (true≢false (sym (ap is_some h)))
refused_with fields k found (object ms) unknown h = ap (λ b. all_fit fields (object ms) && b) (other_found fields k found ms unknown h) ∙ and_false (all_fit fields (object ms))

-- an answer that is made of what is read
pub made : {A B : Type 0} (read : Result A Refusal) (make : A → B) (test : Bool) → is_ok read ≡ test → is_ok (read >>= λ x. Ok (make x)) ≡ test
made (Ok x) make test e = e
made (Err r) make test e = e

-- an object that has no field
pub bare : (name : List ℕ) → ReadsExactly (λ d. members_at name d >>= only []) (is_accepted [])
bare name d = accepts [] name d (only []) (λ ms. record { same = only_fields [] ms })

-- a list
each_exactly : {A : Type 0} (read : Data → Result A Refusal) (test : Data → Bool) → ReadsExactly read test → (ds : Items) → is_ok (each read ds) ≡ all_items test ds
unfolding each
each_exactly read test h no_items = refl
each_exactly read test h (item d ds) =
    link (read d) (λ x. each read ds >>= λ xs. Ok (x ∷ xs)) (test d) (all_items test ds) (h d)
    (λ x. made (each read ds) (λ xs. x ∷ xs) (all_items test ds) (each_exactly read test h ds))

pub list : {A : Type 0} (read : List ℕ → Data → Result A Refusal) (test : Data → Bool) (name : List ℕ) → ReadsExactly (read name) test → ReadsExactly (list_of read name) (is_list_of test)
unfolding list_of items_at
list read test name h d = at_items (as_array d) where
  at_items : (o : Option Items) → is_ok (or_bad name o >>= each (read name)) ≡ is_some_and (all_items test) o
  at_items None = refl
  at_items (Some ds) = each_exactly (read name) test h ds

-- one of two, by a test
pub either : {A : Type 0} (b : Bool) (first other : Result A Refusal) (x y : Bool) → is_ok first ≡ x → is_ok other ≡ y → is_ok (if b then first else other) ≡ (if b then x else y)
either true first other x y e h = e
either false first other x y e h = h

-- a line
of_members : {C : Type 0} (named : List ℕ → Data → Result C Refusal) (test : List ℕ → Data → Bool) → ((name : List ℕ) → ReadsExactly (named name) (test name)) → (ms : Members) → is_ok (command_of_members named ms) ≡ is_alone test ms
of_members named test h no_members = refl
of_members named test h (member name d no_members) = h name d
of_members named test h (member name d (member k e ms)) = refl

of_value : {C : Type 0} (named : List ℕ → Data → Result C Refusal) (test : List ℕ → Data → Bool) → ((name : List ℕ) → ReadsExactly (named name) (test name)) → (d : Data) → is_ok (command_of named d) ≡ is_some_and (is_alone test) (as_object d)
unfolding command_of
of_value named test h null = refl
of_value named test h (boolean b) = refl
of_value named test h (number n) = refl
of_value named test h (string s) = refl
of_value named test h (array ds) = refl
of_value named test h (object ms) = of_members named test h ms

pub line-exactly : {C : Type 0} (named : List ℕ → Data → Result C Refusal) (test : List ℕ → Data → Bool) → ((name : List ℕ) → ReadsExactly (named name) (test name)) → (line : List ℕ) → is_ok (line_command named line) ≡ is_line test line
unfolding line_command
line-exactly named test h line = at (nat_lt max_line (length line)) (is_utf8 line) (read line) where
  at : (long utf8 : Bool) (o : Option Data)
      → is_ok (if long then Err LineTooLong else (if utf8 then command_of_data named o else Err NotUtf8)) ≡ (not long && utf8 && is_some_and (is_command_value test) o)
  at true utf8 o = refl
  at false false o = refl
  at false true None = refl
  at false true (Some d) = of_value named test h d

-- what the contract of a reader says of its answers
pub answers : {X Y : Type 0} (see : X → Y) (result : Result X LineError) (read : Result Y Refusal) (test : Bool) → Gives see result read → is_ok read ≡ test → AnswersWhere result test
answers see (Ok x) read test h e = sym e ∙ ap is_ok h
answers see (Err errors.NoMemory) read test h e = tt
answers see (Err (errors.Refused r)) read test h e = sym e ∙ ap is_ok h
