-- A place is the start of a line exactly where the line that it stands in starts there.
use Rattle.std.proofs.Common.{◌≡◌, ℕ, zero, suc, ◌+◌, ◌-◌, ◌<◌, ◌≤◌, Bool, true, false, ◌||◌, cond, List, [], ◌∷◌, length, Some, refl, ap, ◌∙◌, arith}
use Rattle.std.specs.Prelude.{slice_get, ◌==◌}
use Rattle.std.specs.List.{list_any, onto_first}
use Rattle.std.proofs.lemmas.Bool.Decides.{nat_tests}
use Rattle.line_tree.specs.declared.line.Line.{Line}
use Rattle.line_tree.specs.Text.{line_feed}
use Rattle.line_tree.specs.Lines.{numbered, line_texts, IsLineOf}
use Rattle.decoration.specs.Places.{is_line_start}

abbrev starts_at : ℕ → Line → Bool
starts_at place line = line.from == place

before : (a b : ℕ) → a < b → (a == b) ≡ false
before a b h = grind (arith, nat_tests)

behind : (a b : ℕ) → b < a → (a == b) ≡ false
behind a b h = grind (arith, nat_tests)

-- lines that start after a place don't start there
none_start : (parts : List (List ℕ)) (number from place : ℕ) → place < from → list_any (starts_at place) (numbered number from parts) ≡ false
none_start [] number from place h = refl
none_start (part ∷ parts) number from place h =
    rw (behind from place h, none_start parts (number + 1) (from + length part + 1) place (omega arith)) refl

-- each line starts at the first one's start or after
starts_after : (parts : List (List ℕ)) (number from i : ℕ) (line : Line) → slice_get (numbered number from parts) i ≡ Some line → from ≤ line.from
starts_after [] number from i line h = cc
starts_after (part ∷ parts) number from zero line h = let e : record { number = number; from = from; to = from + length part } ≡ line = cc in omega (arith, ap (λ (l : Line). l.from) e)
starts_after (part ∷ parts) number from (suc i) line h = omega (arith, starts_after parts (number + 1) (from + length part + 1) i line h)

or_false : (b : Bool) → (b || false) ≡ b
or_false true = refl
or_false false = refl

found : (parts : List (List ℕ)) (number from i place : ℕ) (line : Line) → slice_get (numbered number from parts) i ≡ Some line → line.from ≤ place → place ≤ line.to
    → list_any (starts_at place) (numbered number from parts) ≡ (line.from == place)
found [] number from i place line h s e = cc
found (part ∷ parts) number from zero place line h s e =
    let same : record { number = number; from = from; to = from + length part } ≡ line = cc in
    let to_is = ap (λ (l : Line). l.to) same in
    let from_is = ap (λ (l : Line). l.from) same in
    ap (λ b. (from == place) || b) (none_start parts (number + 1) (from + length part + 1) place (omega (arith, to_is))) ∙ or_false (from == place) ∙ ap (λ n. n == place) from_is
found (part ∷ parts) number from (suc i) place line h s e =
    let later = starts_after parts (number + 1) (from + length part + 1) i line h in
    ap (λ b. b || list_any (starts_at place) (numbered (number + 1) (from + length part + 1) parts)) (before from place (omega (arith, later)))
    ∙ found parts (number + 1) (from + length part + 1) i place line h s e

pub line_start : (text : List ℕ) (place : ℕ) (line : Line) → IsLineOf text line → line.from ≤ place → place ≤ line.to → is_line_start text place ≡ (line.from == place)
line_start text place line h s e = found (line_texts text) 1 0 (line.number - 1) place line h s e

-- how many characters some lines take, each with a break
abbrev extent : List (List ℕ) → ℕ
extent [] = 0
extent (part ∷ parts) = length part + 1 + extent parts

some_onto : (c : ℕ) (parts : List (List ℕ)) → 0 < length (onto_first c parts)
some_onto c [] = omega arith
some_onto c (part ∷ parts) = omega arith

some_part : (text : List ℕ) → 0 < length (line_texts text)
some_part [] = omega arith
some_part (c ∷ cs) = at (c == line_feed)
  where
    at : (b : Bool) → 0 < length (cond b ([] ∷ line_texts cs) (onto_first c (line_texts cs)))
    at true = omega arith
    at false = some_onto c (line_texts cs)

extent_onto : (c : ℕ) (parts : List (List ℕ)) → 0 < length parts → extent (onto_first c parts) ≡ extent parts + 1
extent_onto c [] h = absurd (omega arith)
extent_onto c (part ∷ parts) h = omega arith

extent-parts : (text : List ℕ) → extent (line_texts text) ≡ length text + 1
extent-parts [] = refl
extent-parts (c ∷ cs) = at (extent-parts cs) (c == line_feed)
  where
    at : extent (line_texts cs) ≡ length cs + 1 → (b : Bool) → extent (cond b ([] ∷ line_texts cs) (onto_first c (line_texts cs))) ≡ length (c ∷ cs) + 1
    at e true = omega (arith, e)
    at e false = omega (arith, e, extent_onto c (line_texts cs) (some_part cs))

none_beyond : (parts : List (List ℕ)) (number from place : ℕ) → from + extent parts ≤ place → list_any (starts_at place) (numbered number from parts) ≡ false
none_beyond [] number from place h = refl
none_beyond (part ∷ parts) number from place h =
    rw (before from place (omega arith), none_beyond parts (number + 1) (from + length part + 1) place (omega arith)) refl

-- no line starts past the text
pub no_line_start : (text : List ℕ) (place : ℕ) → length text < place → is_line_start text place ≡ false
no_line_start text place h = none_beyond (line_texts text) 1 0 place (omega (arith, extent-parts text))
