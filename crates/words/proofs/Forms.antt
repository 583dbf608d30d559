-- What `clap` makes of words of which none begins with `-`.
use Rattle.std.proofs.Common.{◌≡◌, ◌∙◌, ◌||◌, ℕ, Bool, true, false, List, [], ◌∷◌, refl, sym, ap, codes, ◌<◌, ◌^◌, ◌&&◌, ◌⊎◌, inl, inr, rules, arith, ap₂, subst}
use Rattle.std.specs.Prelude.{Option, Some, None, if◌then◌else◌, option_map, find, fold, is_some, length, nat_le, nat_lt}
use Rattle.std.specs.Char.{is_digit}
use Rattle.std.specs.List.{list_all, list_any}
use Rattle.std.specs.Option.{option_and_then}
use Rattle.std.specs.Str.{bytes_eq, chars}
use Rattle.std.specs.Str.Parse.{AllDigits, digits_value, without_leading_plus}
use Rattle.std.proofs.lemmas.Str.Parse.{digit_from_value, without_leading_plus_none}
use Rattle.std.proofs.lemmas.Bool.{eqb-true, leb-true, lt-ltb, ltb-true}
use Rattle.std.proofs.lemmas.Slice.Eq.{bytes_eq-Decides}
use Rattle.clap.specs.Faults.{check_fault, defaults_fault, entered_fault, fault_of, level_fault, settle_fault, step_fault, turn_fault, walk_fault}
use Rattle.clap.specs.ValueTests.{is_unsigned_in}
use Rattle.clap.specs.Lexer.{strip_byte}
use Rattle.clap.specs.Simple.{Shape, built, built_leaf, entered, inherited, label_of, names_of, rows_at, subcommand_of}
use Rattle.clap.specs.Walk.{Row, Rule, Text, Walk, answers_to, arg_by_index, finished, idle, nothing_held, settled, to_positional, value, walk_from, walked}
use Rattle.clap.specs.Kinds.{Kinds, or_else, value_kinds}
use Rattle.clap.specs.declared.builder.value_parser.ValueParser.{ValueParser}
use Rattle.clap.specs.declared.builder.value_parser.ValueParser.TheVariants as parser
use Rattle.clap.specs.declared.error.kind.ErrorKind.{ErrorKind}
use Rattle.clap.specs.declared.error.kind.ErrorKind.TheVariants as kind
use Rattle.clap.specs.declared.builder.value_parser.Reading.TheVariants.{AsWritten}
use Rattle.clap.specs.declared.parser.matches.ValueSource.TheVariants.{CommandLine}
use Rattle.clap.proofs.OnLiterals.{clap_on_literals}
use Rattle.clap.proofs.FaultLemmas.{stopped_fault}
use Rattle.clap.proofs.WalkLemmas.{both, walk_stopped}
use Rattle.viewport.specs.declared.viewport.TheConstants.{MAX_SIZE}
use Rattle.workload.specs.MadeLines.{max_transactions}
use Rattle.words.specs.PrivateCommand.{argument, begins_with, command, form, found, written}
use Rattle.words.specs.Words.{Edit, Invocation, Make, Replay, Collab, four_words, is_number, number, two_words, words_of}

-- what the words ask for, where the parse fails by these kinds, if any
abbrev pub unless_failed : Kinds → Option Invocation → Option Invocation
unless_failed [] asked = asked
unless_failed (k ∷ ks) asked = None

or_else_none : (a : Kinds) → or_else a [] ≡ a
or_else_none [] = refl
or_else_none (k ∷ ks) = refl

-- a step that fails later is enough
failed : (a : Kinds) (k : ErrorKind) (ks : Kinds) (asked : Option Invocation) → unless_failed (or_else a (k ∷ ks)) asked ≡ None
failed [] k ks asked = refl
failed (x ∷ xs) k ks asked = refl

failed_twice : (a b : Kinds) (k : ErrorKind) (ks : Kinds) (asked : Option Invocation) → unless_failed (or_else a (or_else b (k ∷ ks))) asked ≡ None
failed_twice [] b k ks asked = failed b k ks asked
failed_twice (x ∷ xs) b k ks asked = refl

failed_before : (a b : Kinds) (k : ErrorKind) (ks more : Kinds) (asked : Option Invocation) → unless_failed (or_else (or_else a (or_else b (k ∷ ks))) more) asked ≡ None
failed_before [] [] k ks more asked = refl
failed_before [] (x ∷ xs) k ks more asked = refl
failed_before (x ∷ xs) b k ks more asked = refl

-- a subcommand of the command that was built
abbrev in_command : Shape → Shape
in_command s = built_leaf (inherited (built command).top s)

-- what a subcommand with these words asks for, where they fail by no kind
abbrev asked_of : Shape → List Text → Option Invocation
asked_of s words = unless_failed (level_fault (in_command s) [] nothing_held words false []) (found (Some (rows_at (in_command s) words)))

-- what words ask for, by where the walk over them stands at their end, and by the kinds of the words so far
abbrev asked_at : Walk → Kinds → Option Invocation
asked_at w faults = unless_failed
    (or_else faults (or_else (entered_fault (built command) w.stopped)
    (or_else (settle_fault (built command).top.rules (built command).top.args_override_self w.held)
    (or_else (defaults_fault (settled (built command).top.rules w.held).rows (built command).top.rules)
    (check_fault (built command).top (finished (built command).top.rules w.held) (is_some (entered (built command) w.stopped)))))))
    (found (entered (built command) w.stopped))

abbrev step : Walk → Text → Walk
step = walked (built command).top.rules (names_of (built command))

abbrev start : Walk
start = walk_from nothing_held

abbrev met : Text → List Text → Walk
met name words = record start { stopped = Some (name, words) }

-- what words ask for whose first one names a subcommand
enters : (name : Text) (s : Shape) (words : List Text) → ◌≡◌ {A = Walk} (step start name) (met name [])
    → turn_fault (built command).top (names_of (built command)) start name ≡ []
    → find (λ (x : Shape). answers_to name (label_of x)) (built command).subs ≡ Some (in_command s)
    → unless_failed (fault_of command (name ∷ words)) (found (subcommand_of command (name ∷ words))) ≡ asked_of s words
unfolding walk_fault defaults_fault
enters name s words first turn is_s =
    let ends : ◌≡◌ {A = Walk} (fold step (step start name) words) (met name words) =
    ap (λ (w : Walk). fold step w words) first ∙ sym (walk_stopped (built command).top.rules (names_of (built command)) start name [] words) in
    let none : or_else (turn_fault (built command).top (names_of (built command)) start name) (walk_fault (built command).top (names_of (built command)) (step start name) words) ≡ [] =
    ap₂ or_else turn (ap (λ (w : Walk). walk_fault (built command).top (names_of (built command)) w words) first ∙ stopped_fault (built command).top (names_of (built command)) start (name, []) words) in
    ap₂ asked_at ends none ∙ simp (is_s, or_else_none)

-- what `clap` asks of a word that doesn't begin with `-`
abbrev IsPlain : Text → Type 0
IsPlain word = (strip_byte 45 word ≡ None) × (bytes_eq word (45 ∷ 45 ∷ []) ≡ false)

plain : (word : Text) → begins_with 45 word ≡ false → IsPlain word
plain [] e = (refl, refl)
plain (b ∷ bs) e = (simp e, simp e)

abbrev replay_form : Shape
replay_form = form (codes "replay") []

abbrev collab_form : Shape
collab_form = form (codes "collab") []

abbrev size_parser : ValueParser
size_parser = parser.Unsigned 1 MAX_SIZE

abbrev edit_form : Shape
edit_form = form (codes "edit") (argument (codes "FILE") parser.NonEmptyString ∷ argument (codes "ROWS") size_parser ∷ argument (codes "COLS") size_parser ∷ [])

abbrev count_parser : ValueParser
count_parser = parser.Unsigned 1 max_transactions

abbrev make_form : Shape
make_form = form (codes "make") (argument (codes "N") count_parser ∷ [])

-- what all words ask for
abbrev asked : List Text → Option Invocation
asked words = unless_failed (fault_of command words) (found (subcommand_of command words))

replay_enters : (words : List Text) → asked (codes "replay" ∷ words) ≡ asked_of replay_form words
unfolding clap_on_literals
replay_enters words = enters (codes "replay") replay_form words refl refl refl

collab_enters : (words : List Text) → asked (codes "collab" ∷ words) ≡ asked_of collab_form words
unfolding clap_on_literals
collab_enters words = enters (codes "collab") collab_form words refl refl refl

edit_enters : (words : List Text) → asked (codes "edit" ∷ words) ≡ asked_of edit_form words
unfolding clap_on_literals
edit_enters words = enters (codes "edit") edit_form words refl refl refl

make_enters : (words : List Text) → asked (codes "make" ∷ words) ≡ asked_of make_form words
unfolding clap_on_literals
make_enters words = enters (codes "make") make_form words refl refl refl

replay_more : (word : Text) (words : List Text) → IsPlain word → asked_of replay_form (word ∷ words) ≡ None
unfolding clap_on_literals
replay_more word words p = simp (p.0, p.1)

collab_more : (word : Text) (words : List Text) → IsPlain word → asked_of collab_form (word ∷ words) ≡ None
unfolding clap_on_literals
collab_more word words p = simp (p.0, p.1)

make_one : (n : Text) → IsPlain n → asked_of make_form (n ∷ []) ≡ unless_failed (value_kinds false count_parser n) (option_map Make (written 7 n))
unfolding clap_on_literals
make_one n p = simp (p.0, p.1, or_else_none)

make_more : (n word : Text) (words : List Text) → IsPlain n → IsPlain word → asked_of make_form (n ∷ word ∷ words) ≡ None
unfolding clap_on_literals
make_more n word words p q = simp (p.0, p.1, q.0, q.1)

edit_one : (f : Text) → IsPlain f → asked_of edit_form (f ∷ []) ≡ None
unfolding clap_on_literals
edit_one f p = simp (p.0, p.1, failed)

-- the walk over the words of a subcommand, where nothing waits for a value and the next word is one of this position
abbrev at : List Row → Option (Text × List Text) → ℕ → Walk
at rows pending position =
    record { held = record { rows = rows; pending = pending; skip = 0 }; waiting = idle; position = position; is_trailing = false; stopped = None }

goes_on : (rules : List Rule) (rows : List Row) (pending : Option (Text × List Text)) (position : ℕ) (word : Text) → IsPlain word
    → walked rules [] (at rows pending position) word ≡ to_positional rules (arg_by_index rules position) word (at rows pending position) (at rows pending position).held
unfolding walked
goes_on rules rows pending position word p = simp (p.0, p.1)

fails : (s : Shape) (rows : List Row) (pending : Option (Text × List Text)) (position : ℕ) (word : Text) → IsPlain word
    → turn_fault s [] (at rows pending position) word ≡ step_fault s position (at rows pending position).held value
fails s rows pending position word p = simp (p.0, p.1)

abbrev edit_built : Shape
edit_built = in_command edit_form

-- the row of a value that was given
abbrev given : Text → Text → Row
given id word = record { id = id; values = word ∷ []; count = None; source = Some CommandLine; reading = AsWritten }

abbrev after_file : Text → Walk
after_file f = at [] (Some (codes "FILE", f ∷ [])) 2

abbrev after_rows : (f r : Text) → Walk
after_rows f r = at (given (codes "FILE") f ∷ []) (Some (codes "ROWS", r ∷ [])) 3

abbrev after_cols : (f r c : Text) → Walk
after_cols f r c = at (given (codes "FILE") f ∷ given (codes "ROWS") r ∷ []) (Some (codes "COLS", c ∷ [])) 4

-- what `edit` asks for, by where the walk over its words stands at their end, and by the kinds of the words so far
abbrev edits_at : Walk → Kinds → Option Invocation
edits_at w faults = unless_failed
    (or_else faults (or_else (settle_fault edit_built.rules edit_built.args_override_self w.held)
    (or_else (defaults_fault (settled edit_built.rules w.held).rows edit_built.rules)
    (check_fault edit_built (finished edit_built.rules w.held) false))))
    (found (Some (edit_built.name, finished edit_built.rules w.held)))

abbrev edit_step : Walk → Text → Walk
edit_step = walked edit_built.rules []

abbrev edit_faults : Walk → List Text → Kinds
edit_faults = walk_fault edit_built []

takes_file : (f : Text) (words : List Text) → IsPlain f → edits_at (fold edit_step start (f ∷ words)) (edit_faults start (f ∷ words)) ≡ edits_at (fold edit_step (after_file f) words) (edit_faults (after_file f) words)
unfolding walk_fault
takes_file f words p =
    let now : edit_step start f ≡ after_file f = goes_on edit_built.rules [] None 1 f p in
    let none : turn_fault edit_built [] start f ≡ [] = fails edit_built [] None 1 f p in
    ap₂ edits_at (ap (λ (w : Walk). fold edit_step w words) now) (ap₂ or_else none (ap (λ (w : Walk). edit_faults w words) now))

takes_rows : (f r : Text) (words : List Text) → IsPlain r
    → edits_at (fold edit_step (after_file f) (r ∷ words)) (edit_faults (after_file f) (r ∷ words))
    ≡ edits_at (fold edit_step (after_rows f r) words) (or_else (value_kinds false parser.NonEmptyString f) (edit_faults (after_rows f r) words))
unfolding walk_fault
takes_rows f r words p =
    let now : edit_step (after_file f) r ≡ after_rows f r = goes_on edit_built.rules [] (Some (codes "FILE", f ∷ [])) 2 r p in
    let these : turn_fault edit_built [] (after_file f) r ≡ value_kinds false parser.NonEmptyString f = fails edit_built [] (Some (codes "FILE", f ∷ [])) 2 r p ∙ or_else_none _ in
    ap₂ edits_at (ap (λ (w : Walk). fold edit_step w words) now) (ap₂ or_else these (ap (λ (w : Walk). edit_faults w words) now))

takes_cols : (f r c : Text) (words : List Text) (faults : Kinds) → IsPlain c
    → edits_at (fold edit_step (after_rows f r) (c ∷ words)) (or_else faults (edit_faults (after_rows f r) (c ∷ words)))
    ≡ edits_at (fold edit_step (after_cols f r c) words) (or_else faults (or_else (value_kinds false size_parser r) (edit_faults (after_cols f r c) words)))
unfolding walk_fault
takes_cols f r c words faults p =
    let now : edit_step (after_rows f r) c ≡ after_cols f r c = goes_on edit_built.rules (given (codes "FILE") f ∷ []) (Some (codes "ROWS", r ∷ [])) 3 c p in
    let these : turn_fault edit_built [] (after_rows f r) c ≡ value_kinds false size_parser r = fails edit_built (given (codes "FILE") f ∷ []) (Some (codes "ROWS", r ∷ [])) 3 c p ∙ or_else_none _ in
    ap₂ edits_at (ap (λ (w : Walk). fold edit_step w words) now) (ap (or_else faults) (ap₂ or_else these (ap (λ (w : Walk). edit_faults w words) now)))

refuses_more : (f r c word : Text) (words : List Text) → IsPlain word → edit_faults (after_cols f r c) (word ∷ words) ≡ kind.UnknownArgument ∷ []
unfolding walk_fault
refuses_more f r c word words p =
    ap (λ (k : Kinds). or_else k (edit_faults (edit_step (after_cols f r c) word) words)) (fails edit_built (given (codes "FILE") f ∷ given (codes "ROWS") r ∷ []) (Some (codes "COLS", c ∷ [])) 4 word p)

edit_two : (f r : Text) → IsPlain f → IsPlain r → asked_of edit_form (f ∷ r ∷ []) ≡ None
unfolding walk_fault defaults_fault
edit_two f r p q = takes_file f (r ∷ []) p ∙ (takes_rows f r [] q ∙ simp or_else_none (failed_twice _ _ _ _ _))

edit_three : (f r c : Text) → IsPlain f → IsPlain r → IsPlain c
    → asked_of edit_form (f ∷ r ∷ c ∷ [])
    ≡ unless_failed (or_else (or_else (value_kinds false parser.NonEmptyString f) (value_kinds false size_parser r)) (value_kinds false size_parser c))
    (option_and_then (λ r. option_map (λ c. Edit (chars f) r c) (written 3 c)) (written 3 r))
unfolding walk_fault defaults_fault
edit_three f r c p q o = takes_file f (r ∷ c ∷ []) p ∙ (takes_rows f r (c ∷ []) q ∙ (takes_cols f r c [] (value_kinds false parser.NonEmptyString f) o ∙ simp or_else_none))

edit_more : (f r c word : Text) (words : List Text) → IsPlain f → IsPlain r → IsPlain c → IsPlain word → asked_of edit_form (f ∷ r ∷ c ∷ word ∷ words) ≡ None
unfolding walk_fault defaults_fault
edit_more f r c word words p q o t =
    takes_file f (r ∷ c ∷ word ∷ words) p ∙ (takes_rows f r (c ∷ word ∷ words) q ∙ (takes_cols f r c (word ∷ words) (value_kinds false parser.NonEmptyString f) o
    ∙ (ap (λ (k : Kinds). edits_at (fold edit_step (after_cols f r c) (word ∷ words)) (or_else (value_kinds false parser.NonEmptyString f) (or_else (value_kinds false size_parser r) k))) (refuses_more f r c word words t)
    ∙ failed_before _ _ _ _ _ _)))

-- ---- numbers

pub all_digits : (text : Text) → list_all (λ c. is_digit c 10) text ≡ true → AllDigits 10 text
all_digits [] e = tt
all_digits (c ∷ cs) e = (ltb-true _ _ (both _ _ e).0, all_digits cs (both _ _ e).1)

-- a number has no sign
pub no_sign : (text : Text) → list_all (λ c. is_digit c 10) text ≡ true → without_leading_plus text ≡ text
no_sign [] e = refl
no_sign (c ∷ cs) e =
    let digit = digit_from_value c (ltb-true _ _ (both _ _ e).0) in
    without_leading_plus_none (c ∷ cs) (λ plus. omega (arith, digit, plus))

either_none : (b : Bool) → ◌≡◌ {A = Option ℕ} (if b then None else None) None
either_none true = refl
either_none false = refl

agree : (x y z : Bool) (a : Option ℕ) → (y ≡ true → z ≡ true) → (if x && y then a else None) ≡ (if z && (x && y) then a else None)
agree x y true a h = refl
agree true true false a h = let bad : false ≡ true = h refl in cc
agree true false false a h = refl
agree false y false a h = refl

-- a number is what is written where `clap` takes it
pub number_taken : (places greatest : ℕ) (text : Text) → greatest < 2 ^ 64 → number places greatest text ≡ (if is_unsigned_in 1 greatest text then written places text else None)
number_taken places greatest text small = go (is_number places text) refl
  where
    go : (b : Bool) → is_number places text ≡ b → number places greatest text ≡ (if is_unsigned_in 1 greatest text then written places text else None)
    go false e = simp e (sym (either_none _))
    go true e =
        let parts = both _ _ e in
        let n = digits_value 10 text in
        let within = both (nat_le 1 (length text)) (nat_le (length text) places) parts.0 in
        simp (no_sign text parts.1, within.0, within.1, parts.1) (agree (nat_le 1 n) (nat_le n greatest) (nat_lt n (2 ^ 64)) (Some n) (λ most.
        let few = leb-true _ _ most in lt-ltb _ _ (omega (arith, few, small))))

-- ---- the forms

no_edit : (o : Option ℕ) → option_and_then {T = ℕ} {U = Invocation} (λ _. None) o ≡ None
no_edit None = refl
no_edit (Some x) = refl

neither : (a b : Bool) → (a || b) ≡ false → (a ≡ false) × (b ≡ false)
neither true b e = cc
neither false b e = (refl, e)

none_met : (word : Text) (words : List Text) → IsPlain word → bytes_eq (codes "replay") word ≡ false → bytes_eq (codes "collab") word ≡ false
    → bytes_eq (codes "edit") word ≡ false → bytes_eq (codes "make") word ≡ false → asked (word ∷ words) ≡ None
unfolding clap_on_literals
none_met word words p a b c d = simp (p.0, p.1, a, b, c, d)

make_asks : (n : Text) → IsPlain n → asked_of make_form (n ∷ []) ≡ option_map Make (number 7 max_transactions n)
make_asks n p = make_one n p ∙ (go (is_unsigned_in 1 max_transactions n) refl ∙ ap (option_map Make) (sym (number_taken 7 max_transactions n (omega arith))))
  where
    go : (b : Bool) → is_unsigned_in 1 max_transactions n ≡ b
        → unless_failed (value_kinds false count_parser n) (option_map Make (written 7 n)) ≡ option_map Make (if is_unsigned_in 1 max_transactions n then written 7 n else None)
    go true e = simp e
    go false e = simp e

-- what `edit` asks for with these rows and columns, if they are any
abbrev edit_by : (file : Text) → (rows cols : Option ℕ) → Option Invocation
edit_by file rows cols = option_and_then (λ r. option_map (λ c. Edit (chars file) r c) cols) rows

edit_asks : (f r c : Text) → begins_with 45 f ≡ false → IsPlain r → IsPlain c → asked_of edit_form (f ∷ r ∷ c ∷ []) ≡ four_words (codes "edit") f r c
edit_asks [] r c e q o = edit_three [] r c (plain [] e) q o
edit_asks (x ∷ f) r c e q o =
    edit_three (x ∷ f) r c (plain (x ∷ f) e) q o ∙ (go (is_unsigned_in 1 MAX_SIZE r) (is_unsigned_in 1 MAX_SIZE c) refl refl
    ∙ (sym (ap₂ (edit_by (x ∷ f)) (number_taken 3 MAX_SIZE r (omega arith)) (number_taken 3 MAX_SIZE c (omega arith))) ∙ simp e))
  where
    named : value_kinds false parser.NonEmptyString (x ∷ f) ≡ []
    named = simp (lt-ltb 0 (length (x ∷ f)) (omega arith))

    go : (a b : Bool) → is_unsigned_in 1 MAX_SIZE r ≡ a → is_unsigned_in 1 MAX_SIZE c ≡ b
        → unless_failed (or_else (or_else (value_kinds false parser.NonEmptyString (x ∷ f)) (value_kinds false size_parser r)) (value_kinds false size_parser c)) (edit_by (x ∷ f) (written 3 r) (written 3 c))
        ≡ edit_by (x ∷ f) (if is_unsigned_in 1 MAX_SIZE r then written 3 r else None) (if is_unsigned_in 1 MAX_SIZE c then written 3 c else None)
    go true true s t = simp (named, s, t)
    go true false s t = simp (named, s, t) (sym (no_edit (written 3 r)))
    go false b s t = simp (named, s)

-- ---- all words

replay_alone : asked_of replay_form [] ≡ Some Replay
unfolding clap_on_literals
replay_alone = refl

collab_alone : asked_of collab_form [] ≡ Some Collab
unfolding clap_on_literals
collab_alone = refl

edit_alone : asked_of edit_form [] ≡ None
unfolding clap_on_literals
edit_alone = refl

make_alone : asked_of make_form [] ≡ None
unfolding clap_on_literals
make_alone = refl

nothing_asked : asked [] ≡ None
unfolding clap_on_literals
nothing_asked = refl

-- a word that doesn't begin with `-`, and the words after it
first_of_plain : (word : Text) (words : List Text) → list_any (begins_with 45) (word ∷ words) ≡ false → (begins_with 45 word ≡ false) × (list_any (begins_with 45) words ≡ false)
first_of_plain word words e = neither (begins_with 45 word) (list_any (begins_with 45) words) e

replay_is : (words : List Text) → list_any (begins_with 45) words ≡ false → asked (codes "replay" ∷ words) ≡ words_of (codes "replay" ∷ words)
replay_is [] e = replay_enters [] ∙ replay_alone
replay_is (x ∷ words) e = replay_enters (x ∷ words) ∙ (replay_more x words (plain x (first_of_plain x words e).0) ∙ none words)
  where
    none : (rest : List Text) → None ≡ words_of (codes "replay" ∷ x ∷ rest)
    none [] = refl
    none (y ∷ []) = refl
    none (y ∷ z ∷ []) = refl
    none (y ∷ z ∷ v ∷ rest) = refl

collab_is : (words : List Text) → list_any (begins_with 45) words ≡ false → asked (codes "collab" ∷ words) ≡ words_of (codes "collab" ∷ words)
collab_is [] e = collab_enters [] ∙ collab_alone
collab_is (x ∷ words) e = collab_enters (x ∷ words) ∙ (collab_more x words (plain x (first_of_plain x words e).0) ∙ none words)
  where
    none : (rest : List Text) → None ≡ words_of (codes "collab" ∷ x ∷ rest)
    none [] = refl
    none (y ∷ []) = refl
    none (y ∷ z ∷ []) = refl
    none (y ∷ z ∷ v ∷ rest) = refl

make_is : (words : List Text) → list_any (begins_with 45) words ≡ false → asked (codes "make" ∷ words) ≡ words_of (codes "make" ∷ words)
make_is [] e = make_enters [] ∙ make_alone
make_is (n ∷ []) e = make_enters (n ∷ []) ∙ make_asks n (plain n (first_of_plain n [] e).0)
make_is (n ∷ x ∷ words) e =
    let one = first_of_plain n (x ∷ words) e in
    make_enters (n ∷ x ∷ words) ∙ (make_more n x words (plain n one.0) (plain x (first_of_plain x words one.1).0) ∙ none words)
  where
    none : (rest : List Text) → None ≡ words_of (codes "make" ∷ n ∷ x ∷ rest)
    none [] = refl
    none (y ∷ []) = refl
    none (y ∷ z ∷ rest) = refl

edit_is : (words : List Text) → list_any (begins_with 45) words ≡ false → asked (codes "edit" ∷ words) ≡ words_of (codes "edit" ∷ words)
edit_is [] e = edit_enters [] ∙ edit_alone
edit_is (f ∷ []) e = edit_enters (f ∷ []) ∙ edit_one f (plain f (first_of_plain f [] e).0)
edit_is (f ∷ r ∷ []) e =
    let one = first_of_plain f (r ∷ []) e in
    edit_enters (f ∷ r ∷ []) ∙ edit_two f r (plain f one.0) (plain r (first_of_plain r [] one.1).0)
edit_is (f ∷ r ∷ c ∷ []) e =
    let one = first_of_plain f (r ∷ c ∷ []) e in
    let two = first_of_plain r (c ∷ []) one.1 in
    edit_enters (f ∷ r ∷ c ∷ []) ∙ edit_asks f r c one.0 (plain r two.0) (plain c (first_of_plain c [] two.1).0)
edit_is (f ∷ r ∷ c ∷ x ∷ words) e =
    let one = first_of_plain f (r ∷ c ∷ x ∷ words) e in
    let two = first_of_plain r (c ∷ x ∷ words) one.1 in
    let three = first_of_plain c (x ∷ words) two.1 in
    edit_enters (f ∷ r ∷ c ∷ x ∷ words) ∙ edit_more f r c x words (plain f one.0) (plain r two.0) (plain c three.0) (plain x (first_of_plain x words three.1).0)

-- words whose first one is none of the four have no form
no_form : (word : Text) (words : List Text) → bytes_eq word (codes "replay") ≡ false → bytes_eq word (codes "collab") ≡ false
    → bytes_eq word (codes "edit") ≡ false → bytes_eq word (codes "make") ≡ false → words_of (word ∷ words) ≡ None
no_form word [] a b c d = simp (a, b)
no_form word (x ∷ []) a b c d = simp d
no_form word (x ∷ y ∷ []) a b c d = refl
no_form word (x ∷ y ∷ z ∷ []) a b c d = simp c
no_form word (x ∷ y ∷ z ∷ v ∷ words) a b c d = refl

turned : (xs ys : Text) → bytes_eq xs ys ≡ false → bytes_eq ys xs ≡ false
turned xs ys e = go (bytes_eq ys xs) refl
  where
    go : (b : Bool) → bytes_eq ys xs ≡ b → b ≡ false
    go false t = refl
    go true t =
        let bad : bytes_eq xs ys ≡ true = (bytes_eq-Decides xs ys).1 (sym ((bytes_eq-Decides ys xs).0 t)) in
        cc

-- no word begins with `-`: what `clap` makes of the words is what they ask for
pub asked_is : (words : List Text) → list_any (begins_with 45) words ≡ false → asked words ≡ words_of words
asked_is [] e = nothing_asked
asked_is (word ∷ words) e =
    let one = first_of_plain word words e in
    by_name (bytes_eq word (codes "replay")) (bytes_eq word (codes "collab")) (bytes_eq word (codes "edit")) (bytes_eq word (codes "make")) refl refl refl refl one
  where
    by_name : (a b c d : Bool) → bytes_eq word (codes "replay") ≡ a → bytes_eq word (codes "collab") ≡ b → bytes_eq word (codes "edit") ≡ c → bytes_eq word (codes "make") ≡ d
        → (begins_with 45 word ≡ false) × (list_any (begins_with 45) words ≡ false) → asked (word ∷ words) ≡ words_of (word ∷ words)
    by_name true b c d p q r s one = subst (λ (w : Text). asked (w ∷ words) ≡ words_of (w ∷ words)) (sym ((bytes_eq-Decides word (codes "replay")).0 p)) (replay_is words one.1)
    by_name false true c d p q r s one = subst (λ (w : Text). asked (w ∷ words) ≡ words_of (w ∷ words)) (sym ((bytes_eq-Decides word (codes "collab")).0 q)) (collab_is words one.1)
    by_name false false true d p q r s one = subst (λ (w : Text). asked (w ∷ words) ≡ words_of (w ∷ words)) (sym ((bytes_eq-Decides word (codes "edit")).0 r)) (edit_is words one.1)
    by_name false false false true p q r s one = subst (λ (w : Text). asked (w ∷ words) ≡ words_of (w ∷ words)) (sym ((bytes_eq-Decides word (codes "make")).0 s)) (make_is words one.1)
    by_name false false false false p q r s one =
        none_met word words (plain word one.0) (turned word (codes "replay") p) (turned word (codes "collab") q) (turned word (codes "edit") r) (turned word (codes "make") s) ∙ sym (no_form word words p q r s)

-- ---- words of which one begins with `-`

is_option : (text : Text) → begins_with 45 text ≡ true → (rest : Text) × (text ≡ 45 ∷ rest)
is_option [] e = cc
is_option (b ∷ bs) e = (bs, ap (λ (n : ℕ). n ∷ bs) (eqb-true b 45 e))

and_false : (a : Bool) → (a && false) ≡ false
and_false true = refl
and_false false = refl

or_none : (a : Bool) → ◌≡◌ {A = Option Invocation} (if a then None else None) None
or_none true = refl
or_none false = refl

no_number : (places greatest : ℕ) (text : Text) → begins_with 45 text ≡ true → number places greatest text ≡ None
no_number places greatest text e =
    let is = is_option text e in
    rw is.1 (simp and_false)

no_option_first : (word : Text) (words : List Text) → begins_with 45 word ≡ true → words_of (word ∷ words) ≡ None
no_option_first word [] e = rw (is_option word e).1 refl
no_option_first word (x ∷ []) e = rw (is_option word e).1 refl
no_option_first word (x ∷ y ∷ []) e = refl
no_option_first word (x ∷ y ∷ z ∷ []) e = rw (is_option word e).1 refl
no_option_first word (x ∷ y ∷ z ∷ v ∷ words) e = refl

no_file : (word f r c : Text) → begins_with 45 f ≡ true → four_words word f r c ≡ None
no_file word f r c e = rw (is_option f e).1 (simp and_false)

no_rows : (word f r c : Text) → begins_with 45 r ≡ true → four_words word f r c ≡ None
no_rows word f r c e = simp (no_number 3 MAX_SIZE r e, or_none)

no_cols : (word f r c : Text) → begins_with 45 c ≡ true → four_words word f r c ≡ None
no_cols word f r c e = simp (no_number 3 MAX_SIZE c e, no_edit, or_none)

no_count : (word n : Text) → begins_with 45 n ≡ true → two_words word n ≡ None
no_count word n e = simp (no_number 7 max_transactions n e, or_none)

either : (a b : Bool) → (a || b) ≡ true → (a ≡ true) ⊎ (b ≡ true)
either true b e = inl refl
either false b e = inr e

-- a word begins with `-`: the words ask for nothing
pub no_option : (words : List Text) → list_any (begins_with 45) words ≡ true → words_of words ≡ None
no_option [] e = refl
no_option (word ∷ words) e = elim (either (begins_with 45 word) (list_any (begins_with 45) words) e) [
  | inl first ↦ no_option_first word words first
  | inr later ↦ after words later
]
  where
    at_four : (f r c : Text) → list_any (begins_with 45) (f ∷ r ∷ c ∷ []) ≡ true → four_words word f r c ≡ None
    at_four f r c e = elim (either (begins_with 45 f) (list_any (begins_with 45) (r ∷ c ∷ [])) e) [
      | inl file ↦ no_file word f r c file
      | inr more ↦ elim (either (begins_with 45 r) (list_any (begins_with 45) (c ∷ [])) more) [
        | inl rows ↦ no_rows word f r c rows
        | inr last ↦ elim (either (begins_with 45 c) false last) [
          | inl cols ↦ no_cols word f r c cols
          | inr none ↦ cc
        ]
      ]
    ]

    after : (rest : List Text) → list_any (begins_with 45) rest ≡ true → words_of (word ∷ rest) ≡ None
    after [] e = cc
    after (n ∷ []) e = elim (either (begins_with 45 n) false e) [ inl count ↦ no_count word n count | inr none ↦ cc ]
    after (x ∷ y ∷ []) e = refl
    after (f ∷ r ∷ c ∷ []) e = at_four f r c e
    after (x ∷ y ∷ z ∷ v ∷ rest) e = refl
