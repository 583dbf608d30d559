-- Blocks are numbered in their order, and no place stands in two of them.
use Rattle.std.proofs.Common.{◌≡◌, ℕ, zero, suc, ◌+◌, ◌-◌, ◌<◌, ◌≤◌, Bool, true, false, List, [], ◌∷◌, length, Some, if◌then◌else◌, refl, sym, ap, ◌∙◌, arith}
use Rattle.std.specs.Prelude.{slice_get}
use Rattle.range_set.specs.declared.ranged.Ranged.{Ranged}
use Rattle.decoration.specs.declared.deco.Deco.{Deco}
use Rattle.line_tree.specs.declared.line.Line as lines
use Rattle.line_tree.specs.Lines.{numbered, line_texts}
use Rattle.blocks.specs.Hiding.{blocks_after, blocks_of, hides_break, joined_lines, longer, next_block}
use Rattle.blocks.proofs.Lines.{one_of}

-- lines after a place, each after the one before
abbrev Rising : ℕ → List lines.Line → Type 0
Rising to [] = Unit {0}
Rising to (l ∷ ls) = (to < l.from) × (l.from ≤ l.to) × Rising l.to ls

lines_rise : (n f to : ℕ) (ls : List (List ℕ)) → to < f → Rising to (numbered n f ls)
lines_rise n f to [] before = tt
lines_rise n f to (x ∷ xs) before = (before, omega arith, lines_rise (n + 1) (f + length x + 1) (f + length x) xs (omega arith))

number_after : (P : lines.Line → Bool) (block last : lines.Line) (rest : List lines.Line) (k : ℕ) (b : lines.Line) → slice_get (blocks_after P block last rest) k ≡ Some b → b.number ≡ block.number + k
unfolding blocks_after
number_after P block last [] zero b is = let same : block.number ≡ b.number = cc in omega arith
number_after P block last [] (suc k) b is = cc
number_after P block last (line ∷ rest) k b is =
    at (λ i found. number_after P (longer block line) line rest i b found) (λ i found. number_after P (next_block block line) line rest i b found) (P last) k is
  where
    at : ((i : ℕ) → slice_get (blocks_after P (longer block line) line rest) i ≡ Some b → b.number ≡ block.number + i) → ((i : ℕ) → slice_get (blocks_after P (next_block block line) line rest) i ≡ Some b → b.number ≡ block.number + 1 + i) → (t : Bool) (k : ℕ) → slice_get (if t then blocks_after P (longer block line) line rest else block ∷ blocks_after P (next_block block line) line rest) k ≡ Some b → b.number ≡ block.number + k
    at longer_one next_one true k found = longer_one k found
    at longer_one next_one false zero found = let same : block.number ≡ b.number = cc in omega arith
    at longer_one next_one false (suc k) found = let more = next_one k found in omega (arith, more)

starts_after : (P : lines.Line → Bool) (block last : lines.Line) (rest : List lines.Line) (k : ℕ) (b : lines.Line) → block.from ≤ last.to → Rising last.to rest → slice_get (blocks_after P block last rest) k ≡ Some b → block.from ≤ b.from
unfolding blocks_after
starts_after P block last [] zero b order rises is = let same : block.from ≡ b.from = cc in omega arith
starts_after P block last [] (suc k) b order rises is = cc
starts_after P block last (line ∷ rest) k b order rises is =
    let later = rises.0 in
    let own = rises.1 in
    at (λ i found. starts_after P (longer block line) line rest i b (omega (arith, later, own, order)) rises.2 found)
    (λ i found. starts_after P (next_block block line) line rest i b own rises.2 found) (P last) k is
  where
    at : ((i : ℕ) → slice_get (blocks_after P (longer block line) line rest) i ≡ Some b → block.from ≤ b.from) → ((i : ℕ) → slice_get (blocks_after P (next_block block line) line rest) i ≡ Some b → line.from ≤ b.from) → (t : Bool) (k : ℕ) → slice_get (if t then blocks_after P (longer block line) line rest else block ∷ blocks_after P (next_block block line) line rest) k ≡ Some b → block.from ≤ b.from
    at longer_one next_one true k found = longer_one k found
    at longer_one next_one false zero found = let same : block.from ≡ b.from = cc in omega arith
    at longer_one next_one false (suc k) found =
        let later = rises.0 in
        let more = next_one k found in
        omega (arith, later, order, more)

apart_after : (P : lines.Line → Bool) (block last : lines.Line) (rest : List lines.Line) (i j : ℕ) (a b : lines.Line) → block.from ≤ last.to → block.to ≡ last.to → Rising last.to rest → slice_get (blocks_after P block last rest) i ≡ Some a → slice_get (blocks_after P block last rest) j ≡ Some b → i < j → a.to < b.from
unfolding blocks_after
apart_after P block last [] i zero a b order ends rises is are before = absurd (omega arith)
apart_after P block last [] i (suc j) a b order ends rises is are before = cc
apart_after P block last (line ∷ rest) i j a b order ends rises is are before =
    let later = rises.0 in
    let own = rises.1 in
    at (λ k l found other less. apart_after P (longer block line) line rest k l a b (omega (arith, later, own, order)) refl rises.2 found other less)
    (λ k l found other less. apart_after P (next_block block line) line rest k l a b own refl rises.2 found other less)
    (λ k other. starts_after P (next_block block line) line rest k b own rises.2 other) (P last) i j is are before
  where
    at : ((k l : ℕ) → slice_get (blocks_after P (longer block line) line rest) k ≡ Some a → slice_get (blocks_after P (longer block line) line rest) l ≡ Some b → k < l → a.to < b.from) → ((k l : ℕ) → slice_get (blocks_after P (next_block block line) line rest) k ≡ Some a → slice_get (blocks_after P (next_block block line) line rest) l ≡ Some b → k < l → a.to < b.from) → ((k : ℕ) → slice_get (blocks_after P (next_block block line) line rest) k ≡ Some b → line.from ≤ b.from) → (t : Bool) (i j : ℕ) → slice_get (if t then blocks_after P (longer block line) line rest else block ∷ blocks_after P (next_block block line) line rest) i ≡ Some a → slice_get (if t then blocks_after P (longer block line) line rest else block ∷ blocks_after P (next_block block line) line rest) j ≡ Some b → i < j → a.to < b.from
    at longer_one next_one starts true i j found other before = longer_one i j found other before
    at longer_one next_one starts false i zero found other before = absurd (omega arith)
    at longer_one next_one starts false zero (suc j) found other before =
        let later = rises.0 in
        let same : block.to ≡ a.to = cc in
        let more = starts j other in
        omega (arith, later, more, same, ends)
    at longer_one next_one starts false (suc i) (suc j) found other before = next_one i j found other (omega arith)

-- the k-th block, from 0, has the number k + 1
pub number_is : (text : List ℕ) (layers : List (List (Ranged Deco))) (k : ℕ) (b : lines.Line) → slice_get (blocks_of text layers) k ≡ Some b → b.number ≡ 1 + k
number_is text layers k b is = at (line_texts text) is
  where
    at : (ls : List (List ℕ)) → slice_get (joined_lines (hides_break layers) (numbered 1 0 ls)) k ≡ Some b → b.number ≡ 1 + k
    at [] found = cc
    at (x ∷ xs) found = number_after (hides_break layers) (record { number = 1; from = 0; to = 0 + length x }) (record { number = 1; from = 0; to = 0 + length x }) (numbered 2 (0 + length x + 1) xs) k b found

in_order : (P : lines.Line → Bool) (line : lines.Line) (rest : List lines.Line) (i j : ℕ) (a b : lines.Line) (p : ℕ) → line.from ≤ line.to → Rising line.to rest → slice_get (blocks_after P line line rest) i ≡ Some a → slice_get (blocks_after P line line rest) j ≡ Some b → a.from ≤ p → p ≤ a.to → b.from ≤ p → p ≤ b.to → a ≡ b
in_order P line rest i j a b p own rises found other s e t u = order (i - j) (j - i) refl refl
  where
    order : (m n : ℕ) → i - j ≡ m → j - i ≡ n → a ≡ b
    order (suc m) n more less =
        let apart = apart_after P line line rest j i b a own refl rises other found (omega (arith, more)) in
        absurd (omega (arith, apart, s, u))
    order zero (suc n) more less =
        let apart = apart_after P line line rest i j a b own refl rises found other (omega (arith, less)) in
        absurd (omega (arith, apart, e, t))
    order zero zero more less =
        let same : i ≡ j = omega (arith, more, less) in
        one_of a b (slice_get (blocks_after P line line rest) j) (ap (slice_get (blocks_after P line line rest)) (sym same) ∙ found) other

-- a place stands in one block alone
pub one_block : (text : List ℕ) (layers : List (List (Ranged Deco))) (i j : ℕ) (a b : lines.Line) (p : ℕ) → slice_get (blocks_of text layers) i ≡ Some a → slice_get (blocks_of text layers) j ≡ Some b → a.from ≤ p → p ≤ a.to → b.from ≤ p → p ≤ b.to → a ≡ b
one_block text layers i j a b p is are s e t u = by (line_texts text) is are
  where
    by : (ls : List (List ℕ)) → slice_get (joined_lines (hides_break layers) (numbered 1 0 ls)) i ≡ Some a → slice_get (joined_lines (hides_break layers) (numbered 1 0 ls)) j ≡ Some b → a ≡ b
    by [] found other = cc
    by (x ∷ xs) found other =
        in_order (hides_break layers) (record { number = 1; from = 0; to = 0 + length x }) (numbered 2 (0 + length x + 1) xs) i j a b p (omega arith)
        (lines_rise 2 (0 + length x + 1) (0 + length x) xs (omega arith)) found other s e t u
