-- One line further in the blocks of lines.
use Rattle.std.proofs.Common.{◌≡◌, ℕ, zero, suc, ◌+◌, ◌-◌, ◌<◌, ◌≤◌, Bool, true, false, List, [], ◌∷◌, length, drop, Some, refl, sym, ap, ◌∙◌, arith}
use Rattle.std.specs.Prelude.{slice_get}
use Rattle.std.proofs.lemmas.List.{drop_more, drop_all}
use Rattle.std.proofs.lemmas.Option.{slice_get_within, get_or_from_slice_get}
use Rattle.line_tree.specs.declared.line.Line as lines
use Rattle.blocks.specs.Hiding.{blocks_after, joined_lines, longer, next_block}
use Rattle.blocks.proofs.Lines.{IsNumbered, line_of}

-- whether the break after a line is hidden, by the line's number
abbrev pub by_number : (ℕ → Bool) → lines.Line → Bool
by_number J line = J line.number

pub drop_get : {X : Type 0} (xs : List X) (k : ℕ) (x : X) → slice_get xs k ≡ Some x → drop k xs ≡ x ∷ drop (k + 1) xs
drop_get {X} xs k x is = drop_more xs k x (slice_get_within xs k x is) ∙ ap (λ (y : X). y ∷ drop (k + 1) xs) (get_or_from_slice_get xs k x x is)

joined_one : (P : lines.Line → Bool) (block last line : lines.Line) (rest : List lines.Line) → P last ≡ true → blocks_after P block last (line ∷ rest) ≡ blocks_after P (longer block line) line rest
unfolding blocks_after
joined_one P block last line rest holds = rw holds refl

apart_one : (P : lines.Line → Bool) (block last line : lines.Line) (rest : List lines.Line) → P last ≡ false → blocks_after P block last (line ∷ rest) ≡ block ∷ blocks_after P (next_block block line) line rest
unfolding blocks_after
apart_one P block last line rest apart = rw apart refl

head_one : (P : lines.Line → Bool) (block last : lines.Line) (rest : List lines.Line) → P last ≡ false → slice_get (blocks_after P block last rest) 0 ≡ Some block
unfolding blocks_after
head_one P block last [] apart = refl
head_one P block last (line ∷ rest) apart = rw apart refl

-- the blocks from one on are those that begin with this one, whose last line so far is `last`
pub record IsAt (J : ℕ → Bool) (ls : List lines.Line) (block last : lines.Line) : Type 0 where
  pub some : 0 < block.number
  pub positive : 0 < last.number
  pub goes : (i : ℕ) → slice_get (joined_lines (by_number J) ls) (block.number - 1 + i) ≡ slice_get (blocks_after (by_number J) block last (drop last.number ls)) i
  pub count : length (joined_lines (by_number J) ls) ≡ block.number - 1 + length (blocks_after (by_number J) block last (drop last.number ls))

pub at_first : (J : ℕ → Bool) (x : lines.Line) (xs : List lines.Line) → x.number ≡ 1 → IsAt J (x ∷ xs) x x
at_first J x xs one =
    let rest : xs ≡ drop x.number (x ∷ xs) = ap (λ n. drop n (x ∷ xs)) (sym one) in
    record {
      some = omega (arith, one);
      positive = omega (arith, one);
      goes = λ i. let same : x.number - 1 + i ≡ i = omega (arith, one) in
          ap (slice_get (joined_lines (by_number J) (x ∷ xs))) same ∙ ap (λ ys. slice_get (blocks_after (by_number J) x x ys) i) rest;
      count =
          let same : x.number - 1 ≡ 0 = omega (arith, one) in
          let long : length (joined_lines (by_number J) (x ∷ xs)) ≡ length (blocks_after (by_number J) x x (drop x.number (x ∷ xs))) = ap (λ ys. length (blocks_after (by_number J) x x ys)) rest in
          omega (arith, same, long);
    }

-- what is left after the last line so far begins with the next one
next_line : (ls : List lines.Line) (last line : lines.Line) → slice_get ls (line.number - 1) ≡ Some line → line.number ≡ last.number + 1 → drop last.number ls ≡ line ∷ drop line.number ls
next_line ls last line is number =
    let at : line.number - 1 ≡ last.number = omega (arith, number) in
    drop_get ls last.number line (ap (slice_get ls) (sym at) ∙ is) ∙ ap (λ n. line ∷ drop n ls) (sym number)

pub step_joined : (J : ℕ → Bool) (ls : List lines.Line) (block last line : lines.Line) → IsAt J ls block last → slice_get ls (line.number - 1) ≡ Some line → line.number ≡ last.number + 1 → J last.number ≡ true → IsAt J ls (longer block line) line
step_joined J ls block last line at is number holds =
    let goes_on : blocks_after (by_number J) block last (drop last.number ls) ≡ blocks_after (by_number J) (longer block line) line (drop line.number ls) =
    ap (blocks_after (by_number J) block last) (next_line ls last line is number) ∙ joined_one (by_number J) block last line _ holds in
    record {
      some = at.some;
      positive = omega (arith, number);
      goes = λ i. at.goes i ∙ ap (λ bs. slice_get bs i) goes_on;
      count = at.count ∙ ap (λ (bs : List lines.Line). block.number - 1 + length bs) goes_on;
    }

pub step_apart : (J : ℕ → Bool) (ls : List lines.Line) (block last line : lines.Line) → IsAt J ls block last → slice_get ls (line.number - 1) ≡ Some line → line.number ≡ last.number + 1 → J last.number ≡ false → IsAt J ls (next_block block line) line
step_apart J ls block last line at is number apart =
    let goes_on : blocks_after (by_number J) block last (drop last.number ls) ≡ block ∷ blocks_after (by_number J) (next_block block line) line (drop line.number ls) =
    ap (blocks_after (by_number J) block last) (next_line ls last line is number) ∙ apart_one (by_number J) block last line _ apart in
    record {
      some = omega arith;
      positive = omega (arith, number);
      goes = λ i.
          let same : block.number + 1 - 1 + i ≡ block.number - 1 + suc i = omega (arith, at.some) in
          ap (slice_get (joined_lines (by_number J) ls)) same ∙ (at.goes (suc i) ∙ ap (λ bs. slice_get bs (suc i)) goes_on);
      count =
          let long = ap (λ (bs : List lines.Line). length bs) goes_on in
          omega (arith, at.some, at.count, long);
    }

-- a block that ends with its last line so far
pub stop : (J : ℕ → Bool) (ls : List lines.Line) (block last : lines.Line) → IsAt J ls block last → J last.number ≡ false → slice_get (joined_lines (by_number J) ls) (block.number - 1) ≡ Some block
stop J ls block last at apart =
    let same : block.number - 1 ≡ block.number - 1 + 0 = omega arith in
    ap (slice_get (joined_lines (by_number J) ls)) same ∙ (at.goes 0 ∙ head_one (by_number J) block last _ apart)

count_end : (P : lines.Line → Bool) (block last : lines.Line) → length (blocks_after P block last []) ≡ 1
unfolding blocks_after
count_end P block last = refl

pub end : (J : ℕ → Bool) (ls : List lines.Line) (block last : lines.Line) → IsAt J ls block last → length ls ≤ last.number → length (joined_lines (by_number J) ls) ≡ block.number
end J ls block last at past =
    let long = ap (λ ys. length (blocks_after (by_number J) block last ys)) (drop_all last.number ls past) ∙ count_end (by_number J) block last in
    omega (arith, at.some, at.count, long)

-- the line of a number alone, as the block of a number
abbrev pub alone : ℕ → lines.Line → lines.Line
alone number line = record { number = number; from = line.from; to = line.to }

-- d lines and one more further, none of which is joined to the one before
pub hops : (d : ℕ) (J : ℕ → Bool) (ls : List lines.Line) (block last m : lines.Line) (k : ℕ) → IsNumbered ls → IsAt J ls block last → slice_get ls (m.number - 1) ≡ Some m → m.number ≡ last.number + suc d → k ≡ block.number + suc d → ((n : ℕ) → last.number ≤ n → n < m.number → J n ≡ false) → IsAt J ls (alone k m) m
hops zero J ls block last m k numbered at is far number none =
    let here = step_apart J ls block last m at is (omega (arith, far)) (none last.number (omega arith) (omega (arith, far))) in
    let same : block.number + 1 ≡ k = omega (arith, number) in
    rw same at here
hops (suc d) J ls block last m k numbered at is far number none =
    let inside = slice_get_within ls (m.number - 1) m is in
    let next = line_of ls numbered (last.number + 1) (omega arith) (omega (arith, far, inside)) in
    hops d J ls (next_block block next.line) next.line m k numbered
    (step_apart J ls block last next.line at next.is next.number (none last.number (omega arith) (omega (arith, far)))) is
    (omega (arith, far, next.number)) (omega (arith, number)) (λ n from before. none n (omega (arith, next.number)) before)

-- the lines from one to another
abbrev pub together : ℕ → lines.Line → lines.Line → lines.Line
together number first last = record { number = number; from = first.from; to = last.to }

-- d lines and one more further, each of which is joined to the one before
pub grows : (d : ℕ) (J : ℕ → Bool) (ls : List lines.Line) (block last m : lines.Line) → IsNumbered ls → IsAt J ls block last → slice_get ls (m.number - 1) ≡ Some m → m.number ≡ last.number + suc d → ((n : ℕ) → last.number ≤ n → n < m.number → J n ≡ true) → IsAt J ls (longer block m) m
grows zero J ls block last m numbered at is far all =
    step_joined J ls block last m at is (omega (arith, far)) (all last.number (omega arith) (omega (arith, far)))
grows (suc d) J ls block last m numbered at is far all =
    let inside = slice_get_within ls (m.number - 1) m is in
    let next = line_of ls numbered (last.number + 1) (omega arith) (omega (arith, far, inside)) in
    grows d J ls (longer block next.line) next.line m numbered
    (step_joined J ls block last next.line at next.is next.number (all last.number (omega arith) (omega (arith, far)))) is
    (omega (arith, far, next.number)) (λ n from before. all n (omega (arith, next.number)) before)
