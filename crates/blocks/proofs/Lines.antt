-- The lines of a text by their numbers.
use Rattle.std.proofs.Common.{◌≡◌, ℕ, zero, suc, ◌+◌, ◌-◌, ◌<◌, ◌≤◌, List, [], ◌∷◌, length, get_or, Option, Some, refl, sym, ap, ◌∙◌, arith}
use Rattle.std.specs.Prelude.{slice_get}
use Rattle.std.proofs.lemmas.Option.{slice_get-get_or, slice_get_within}
use Rattle.line_tree.specs.declared.line.Line as lines
use Rattle.line_tree.specs.Lines.{numbered, line_texts, lines_of, IsLineOf}

number_from : (n f : ℕ) (ls : List (List ℕ)) (k : ℕ) (l : lines.Line) → slice_get (numbered n f ls) k ≡ Some l → l.number ≡ n + k
number_from n f [] k l is = cc
number_from n f (x ∷ xs) zero l is =
    let same : n ≡ l.number = cc in
    omega arith
number_from n f (x ∷ xs) (suc k) l is =
    let more = number_from (n + 1) (f + length x + 1) xs k l is in
    omega (arith, more)

starts_from : (n f : ℕ) (ls : List (List ℕ)) (k : ℕ) (l : lines.Line) → slice_get (numbered n f ls) k ≡ Some l → f ≤ l.from
starts_from n f [] k l is = cc
starts_from n f (x ∷ xs) zero l is =
    let from : f ≡ l.from = cc in
    omega arith
starts_from n f (x ∷ xs) (suc k) l is =
    let more = starts_from (n + 1) (f + length x + 1) xs k l is in
    omega (arith, more)

ends_from : (n f : ℕ) (ls : List (List ℕ)) (k : ℕ) (l : lines.Line) → slice_get (numbered n f ls) k ≡ Some l → l.from ≤ l.to
ends_from n f [] k l is = cc
ends_from n f (x ∷ xs) zero l is =
    let from : f ≡ l.from = cc in
    let to : f + length x ≡ l.to = cc in
    omega arith
ends_from n f (x ∷ xs) (suc k) l is = ends_from (n + 1) (f + length x + 1) xs k l is

apart_from : (n f : ℕ) (ls : List (List ℕ)) (i j : ℕ) (a b : lines.Line) → slice_get (numbered n f ls) i ≡ Some a → slice_get (numbered n f ls) j ≡ Some b → i < j → a.to < b.from
apart_from n f [] i j a b is are order = cc
apart_from n f (x ∷ xs) i zero a b is are order = absurd (omega arith)
apart_from n f (x ∷ xs) zero (suc j) a b is are order =
    let ends : f + length x ≡ a.to = cc in
    let starts = starts_from (n + 1) (f + length x + 1) xs j b are in
    omega (arith, ends, starts)
apart_from n f (x ∷ xs) (suc i) (suc j) a b is are order = apart_from (n + 1) (f + length x + 1) xs i j a b is are (omega arith)

-- the lines of a list have the numbers of their places in it
abbrev pub IsNumbered : List lines.Line → Type 0
IsNumbered ls = (k : ℕ) (l : lines.Line) → slice_get ls k ≡ Some l → l.number ≡ k + 1

pub lines_numbered : (text : List ℕ) → IsNumbered (lines_of text)
lines_numbered text k l is = let n = number_from 1 0 (line_texts text) k l is in omega (arith, n)

pub line_positive : (text : List ℕ) (l : lines.Line) → IsLineOf text l → 0 < l.number
line_positive text l is = let n = lines_numbered text (l.number - 1) l is in omega (arith, n)

pub line_within : (text : List ℕ) (l : lines.Line) → IsLineOf text l → l.number ≤ length (lines_of text)
line_within text l is =
    let inside = slice_get_within (lines_of text) (l.number - 1) l is in
    omega (arith, inside)

pub line_order : (text : List ℕ) (l : lines.Line) → IsLineOf text l → l.from ≤ l.to
line_order text l is = ends_from 1 0 (line_texts text) (l.number - 1) l is

pub lines_apart : (text : List ℕ) (a b : lines.Line) → IsLineOf text a → IsLineOf text b → a.number < b.number → a.to < b.from
lines_apart text a b is are order =
    let some = line_positive text a is in
    apart_from 1 0 (line_texts text) (a.number - 1) (b.number - 1) a b is are (omega (arith, some))

-- the line of a number
pub record LineOf (ls : List lines.Line) (n : ℕ) : Type 0 where
  pub line : lines.Line
  pub is : slice_get ls (line.number - 1) ≡ Some line
  pub number : line.number ≡ n

pub line_of : (ls : List lines.Line) → IsNumbered ls → (n : ℕ) → 0 < n → n ≤ length ls → LineOf ls n
line_of [] numbered n some within = absurd (omega arith)
line_of (l ∷ ls) numbered n some within =
    let got = slice_get-get_or (l ∷ ls) (n - 1) l (omega arith) in
    let number = numbered (n - 1) _ got in
    let same : (get_or (l ∷ ls) (n - 1) l).number - 1 ≡ n - 1 = omega (arith, number) in
    record { line = get_or (l ∷ ls) (n - 1) l; is = ap (slice_get (l ∷ ls)) same ∙ got; number = omega (arith, number) }

pub one_of : {X : Type 0} (x y : X) (o : Option X) → o ≡ Some x → o ≡ Some y → x ≡ y
one_of x y o is are = cc

-- a line that isn't after another begins and ends no later
pub begins_by : (text : List ℕ) (a b : lines.Line) → IsLineOf text a → IsLineOf text b → a.number ≤ b.number → (a.from ≤ b.from) × (a.to ≤ b.to)
begins_by text a b is are order = at (b.number - a.number) refl
  where
    at : (k : ℕ) → b.number - a.number ≡ k → (a.from ≤ b.from) × (a.to ≤ b.to)
    at zero e =
        let number : a.number - 1 ≡ b.number - 1 = omega (arith, e, order) in
        let same : a ≡ b = one_of a b (slice_get (lines_of text) (b.number - 1)) (ap (slice_get (lines_of text)) (sym number) ∙ is) are in
        let from : a.from ≡ b.from = ap (λ (l : lines.Line). l.from) same in
        let to : a.to ≡ b.to = ap (λ (l : lines.Line). l.to) same in
        (omega (arith, from), omega (arith, to))
    at (suc k) e =
        let apart = lines_apart text a b is are (omega (arith, e)) in
        let left = line_order text a is in
        let right = line_order text b are in
        (omega (arith, apart, left), omega (arith, apart, right))
