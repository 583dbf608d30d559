-- The words of the command line, without the program's name, and what they ask for.
use Rattle.std.specs.Prelude.{ℕ, ◌≤◌, ◌==◌, nat_le, ◌&&◌, not, ⊤, Bool, false, List, [], ◌∷◌, length, Option, Some, None, option_map, codes, if◌then◌else◌}
use Rattle.std.specs.Char.{is_digit}
use Rattle.std.specs.List.{list_all}
use Rattle.std.specs.Option.{option_and_then}
use Rattle.std.specs.Str.{bytes_eq, chars}
use Rattle.std.specs.Str.Parse.{digits_value}
use Rattle.viewport.specs.declared.viewport.TheConstants.{MAX_SIZE}
use Rattle.workload.specs.MadeLines.{max_transactions}
use Rattle.words.specs.declared.words.Words.{Words}
use Rattle.words.specs.declared.words.Words.TheVariants as read

-- Invocation: what accepted words ask for. `replay` and `collab` answer the lines of the input, `edit` shows a file in a
-- window of some rows and columns, and `make` answers the lines of a workload of some transactions.
pub data Invocation : Type 0 where
  Replay : Invocation
  Collab : Invocation
  Edit : (file : List ℕ) → (rows cols : ℕ) → Invocation
  Make : (transactions : ℕ) → Invocation

-- what was read
abbrev pub invocation : Words → Invocation
invocation read.Replay = Replay
invocation read.Collab = Collab
invocation (read.Edit file rows cols) = Edit file rows cols
invocation (read.Make transactions) = Make transactions

-- whether a text is a number of 1 to `places` decimal digits, which may begin with zeros
abbrev pub is_number : (places : ℕ) → List ℕ → Bool
is_number places text = nat_le 1 (length text) && nat_le (length text) places && list_all (λ c. is_digit c 10) text

-- the number from 1 to `greatest` that a text of 1 to `places` decimal digits writes
abbrev pub number : (places greatest : ℕ) → List ℕ → Option ℕ
number places greatest text =
    if is_number places text && nat_le 1 (digits_value 10 text) && nat_le (digits_value 10 text) greatest then Some (digits_value 10 text) else None

-- a number of rows or of columns: one to three digits
abbrev pub size : List ℕ → Option ℕ
size text = number 3 MAX_SIZE text

-- whether a word may name a file: it has a character, and doesn't begin with `-`
abbrev pub is_file : List ℕ → Bool
is_file [] = false
is_file (c ∷ cs) = not (c == 45)

-- `replay`, or `collab`
abbrev pub one_word : List ℕ → Option Invocation
one_word word = if bytes_eq word (codes "replay") then Some Replay else (if bytes_eq word (codes "collab") then Some Collab else None)

-- `make N`: one to seven digits
abbrev pub two_words : List ℕ → List ℕ → Option Invocation
two_words word count = if bytes_eq word (codes "make") then option_map Make (number 7 max_transactions count) else None

-- `edit FILE ROWS COLS`, which asks for a file of these characters
abbrev pub four_words : List ℕ → List ℕ → List ℕ → List ℕ → Option Invocation
four_words word file rows cols =
    if bytes_eq word (codes "edit") && is_file file then option_and_then (λ r. option_map (λ c. Edit (chars file) r c) (size cols)) (size rows) else None

-- what the words ask for, where they have an accepted form; each word is its text in UTF-8
abbrev pub words_of : List (List ℕ) → Option Invocation
words_of [] = None
words_of (word ∷ []) = one_word word
words_of (word ∷ count ∷ []) = two_words word count
words_of (word ∷ one ∷ two ∷ []) = None
words_of (word ∷ file ∷ rows ∷ cols ∷ []) = four_words word file rows cols
words_of (word ∷ one ∷ two ∷ three ∷ four ∷ others) = None

-- the numbers of what was read lie in their ranges
abbrev pub IsInRange : Words → Type 0
IsInRange (read.Edit file rows cols) = (1 ≤ rows) × (rows ≤ MAX_SIZE) × (1 ≤ cols) × (cols ≤ MAX_SIZE)
IsInRange (read.Make transactions) = (1 ≤ transactions) × (transactions ≤ max_transactions)
IsInRange _ = ⊤
