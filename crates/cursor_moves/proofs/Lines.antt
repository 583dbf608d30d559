-- A place stands in one line alone.
use Rattle.std.proofs.Common.{◌≡◌, ℕ, zero, suc, ◌+◌, ◌-◌, ◌<◌, ◌≤◌, Bool, true, false, List, [], ◌∷◌, length, Some, refl, sym, ap, ◌∙◌, arith}
use Rattle.std.specs.Prelude.{slice_get, find}
use Rattle.std.specs.Option.{unwrap_or}
use Rattle.std.proofs.lemmas.Bool.Decides.{nat_tests}
use Rattle.line_tree.specs.declared.line.Line.{Line}
use Rattle.line_tree.specs.Lines.{numbered, line_texts, lines_of, IsLineOf}
use Rattle.cursor_moves.specs.Moves.{line_of, no_line, stands_in}

starts_from : (n f : ℕ) (ls : List (List ℕ)) (k : ℕ) (l : Line) → slice_get (numbered n f ls) k ≡ Some l → f ≤ l.from
starts_from n f [] k l is = cc
starts_from n f (x ∷ xs) zero l is =
    let from : f ≡ l.from = cc in
    omega arith
starts_from n f (x ∷ xs) (suc k) l is =
    let more = starts_from (n + 1) (f + length x + 1) xs k l is in
    omega (arith, more)

inside : (place from to number : ℕ) → from ≤ place → place ≤ to → stands_in place (record { number = number; from = from; to = to }) ≡ true
inside place from to number starts ends = grind (arith, nat_tests)

outside : (place from to number : ℕ) → to < place → stands_in place (record { number = number; from = from; to = to }) ≡ false
outside place from to number ends = grind (arith, nat_tests)

found : (n f : ℕ) (ls : List (List ℕ)) (k : ℕ) (l : Line) (place : ℕ) → slice_get (numbered n f ls) k ≡ Some l → l.from ≤ place → place ≤ l.to → find (stands_in place) (numbered n f ls) ≡ Some l
found n f [] k l place is starts ends = cc
found n f (x ∷ xs) zero l place is starts ends =
    let from : f ≡ l.from = cc in
    let to : f + length x ≡ l.to = cc in
    let here = inside place f (f + length x) n (omega arith) (omega arith) in
    rw here is
found n f (x ∷ xs) (suc k) l place is starts ends =
    let later = starts_from (n + 1) (f + length x + 1) xs k l is in
    let past = outside place f (f + length x) n (omega (arith, later)) in
    rw past (found (n + 1) (f + length x + 1) xs k l place is starts ends)

-- a line of a text that a place stands in is the line of that place
pub line_of-is : (text : List ℕ) (place : ℕ) (l : Line) → IsLineOf text l → l.from ≤ place → place ≤ l.to → l ≡ line_of text place
line_of-is text place l is starts ends =
    sym (ap (λ o. unwrap_or o no_line) (found 1 0 (line_texts text) (l.number - 1) l place is starts ends))
