-- From what `clap` says of a parse to what the words ask for.
use Rattle.std.proofs.Common.{◌≡◌, ◌∙◌, ℕ, ◌≤◌, Bool, true, false, List, [], ◌∷◌, refl, sym, ap, inl, inr, subst, codes, ◌&&◌, if◌then◌else◌}
use Rattle.std.specs.Prelude.{Option, Some, None, IfSome, option_map, ⊤, nat_le}
use Rattle.std.specs.List.{list_any}
use Rattle.std.specs.Option.{option_and_then}
use Rattle.std.specs.Str.{bytes_eq, chars}
use Rattle.std.specs.Str.Parse.{digits_value}
use Rattle.std.proofs.lemmas.Bool.{leb-true}
use Rattle.clap.specs.Words.{App, Row, Text, fault_of, is_simple, is_simple_and_free, kind_of, subcommand_of, HasKind, IsAmong, Kinds}
use Rattle.clap.specs.declared.error.Error.{Error}
use Rattle.clap.specs.declared.error.kind.ErrorKind.TheVariants.{OutOfMemory}
use Rattle.clap.proofs.OnLiterals.{clap_on_literals}
use Rattle.clap.proofs.WalkLemmas.{both}
use Rattle.viewport.specs.declared.viewport.TheConstants.{MAX_SIZE}
use Rattle.workload.specs.MadeLines.{max_transactions}
use Rattle.words.specs.PrivateCommand.{begins_with, command, found}
use Rattle.words.specs.Words.{Invocation, Replay, Collab, Edit, Make, IsInRange, invocation, is_file, is_number, number, size, words_of}
use Rattle.words.specs.declared.words.Words.{Words}
use Rattle.words.specs.declared.words.Words.TheVariants as read
use Rattle.words.proofs.Forms.{asked_is, unless_failed}

simple : is_simple command ≡ true
unfolding clap_on_literals
simple = refl

free : is_simple_and_free command ≡ true
unfolding clap_on_literals
free = refl

-- what was found where a parse succeeded is what the words ask for
pub taken : (a : App) (words : List Text) (rows : Option (Text × List Row)) (X : Type 0) → a ≡ command → list_any (begins_with 45) words ≡ false
    → (is_simple_and_free a ≡ true → fault_of a words ≡ []) → (is_simple a ≡ true → X × (rows ≡ subcommand_of a words)) → found rows ≡ words_of words
taken a words rows X is plain faults matches =
    let none : fault_of command words ≡ [] = rw is at (faults (ap is_simple_and_free is ∙ free)) in
    let same : rows ≡ subcommand_of command words = rw is at (matches (ap is_simple is ∙ simple)).1 in
    ap found same ∙ (sym (ap (λ (k : Kinds). unless_failed k (found (subcommand_of command words))) none) ∙ asked_is words plain)

-- where a parse failed for another reason than that it was out of memory, the words ask for nothing
pub refused : (a : App) (words : List Text) (e : Error) → a ≡ command → list_any (begins_with 45) words ≡ false
    → (is_simple_and_free a ≡ true → HasKind (fault_of a words) e) → (kind_of e ≡ OutOfMemory → ⊥) → None ≡ words_of words
refused a words e is plain faults other = go (fault_of command words) refl (rw is at (faults (ap is_simple_and_free is ∙ free)))
  where
    go : (k : Kinds) → fault_of command words ≡ k → HasKind (fault_of command words) e → None ≡ words_of words
    go [] t h = elim h [ inl memory ↦ absurd (other memory) | inr among ↦ absurd (subst (IsAmong (kind_of e)) t among) ]
    go (k ∷ ks) t h = sym (ap (λ (x : Kinds). unless_failed x (found (subcommand_of command words))) t) ∙ asked_is words plain

-- ---- ranges

abbrev IsRanged : Invocation → Type 0
IsRanged (Edit file rows cols) = (1 ≤ rows) × (rows ≤ MAX_SIZE) × (1 ≤ cols) × (cols ≤ MAX_SIZE)
IsRanged (Make transactions) = (1 ≤ transactions) × (transactions ≤ max_transactions)
IsRanged _ = ⊤

abbrev IsUpTo : ℕ → ℕ → Type 0
IsUpTo greatest n = (1 ≤ n) × (n ≤ greatest)

number_ranged : (places greatest : ℕ) (text : Text) → IfSome (number places greatest text) (IsUpTo greatest)
number_ranged places greatest text = go (is_number places text && nat_le 1 (digits_value 10 text) && nat_le (digits_value 10 text) greatest) refl
  where
    go : (b : Bool) → (is_number places text && nat_le 1 (digits_value 10 text) && nat_le (digits_value 10 text) greatest) ≡ b → IfSome (if b then Some (digits_value 10 text) else None) (IsUpTo greatest)
    go false e = tt
    go true e =
        let parts = both _ _ e in
        (leb-true _ _ (both _ _ parts.0).1, leb-true _ _ parts.1)

where_asked : (b : Bool) (o : Option Invocation) → IfSome o IsRanged → IfSome (if b then o else None) IsRanged
where_asked true o h = h
where_asked false o h = tt

make_ranged : (o : Option ℕ) → IfSome o (IsUpTo max_transactions) → IfSome (option_map Make o) IsRanged
make_ranged None h = tt
make_ranged (Some n) h = h

edit_ranged : (file : List ℕ) (rows cols : Option ℕ) → IfSome rows (IsUpTo MAX_SIZE) → IfSome cols (IsUpTo MAX_SIZE)
    → IfSome (option_and_then (λ r. option_map (λ c. Edit file r c) cols) rows) IsRanged
edit_ranged file None cols h g = tt
edit_ranged file (Some r) None h g = tt
edit_ranged file (Some r) (Some c) h g = (h.0, h.1, g.0, g.1)

one_ranged : (a b : Bool) → IfSome (if a then Some Replay else (if b then Some Collab else None)) IsRanged
one_ranged true b = tt
one_ranged false true = tt
one_ranged false false = tt

ranged : (words : List Text) → IfSome (words_of words) IsRanged
ranged [] = tt
ranged (word ∷ []) = one_ranged (bytes_eq word (codes "replay")) (bytes_eq word (codes "collab"))
ranged (word ∷ count ∷ []) = where_asked (bytes_eq word (codes "make")) (option_map Make (number 7 max_transactions count)) (make_ranged (number 7 max_transactions count) (number_ranged 7 max_transactions count))
ranged (word ∷ one ∷ two ∷ []) = tt
ranged (word ∷ file ∷ rows ∷ cols ∷ []) =
    where_asked (bytes_eq word (codes "edit") && is_file file) (option_and_then (λ r. option_map (λ c. Edit (chars file) r c) (size cols)) (size rows))
    (edit_ranged (chars file) (size rows) (size cols) (number_ranged 3 MAX_SIZE rows) (number_ranged 3 MAX_SIZE cols))
ranged (word ∷ one ∷ two ∷ three ∷ four ∷ others) = tt

in_range : (w : Words) → IsRanged (invocation w) → IsInRange w
in_range read.Replay h = tt
in_range read.Collab h = tt
in_range (read.Edit file rows cols) h = h
in_range (read.Make transactions) h = h

-- the numbers of what words ask for lie in their ranges
pub read_in_range : (words : List Text) (o : Option Words) → option_map invocation o ≡ words_of words → IfSome o IsInRange
read_in_range words None is = tt
read_in_range words (Some w) is = in_range w (subst (λ (x : Option Invocation). IfSome x IsRanged) (sym is) (ranged words))
