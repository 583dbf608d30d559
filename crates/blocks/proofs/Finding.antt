-- The block of a line, and the block of a number.
use Rattle.std.proofs.Common.{◌≡◌, ℕ, zero, suc, ◌+◌, ◌-◌, ◌<◌, ◌≤◌, Bool, List, [], ◌∷◌, length, get_or, Some, refl, sym, ap, ◌∙◌, arith}
use Rattle.std.specs.Prelude.{slice_get}
use Rattle.std.specs.List.{list_any}
use Rattle.std.specs.List.Sorted.{IsNonDecreasingBy}
use Rattle.line_tree.specs.declared.line.Line as lines
use Rattle.line_tree.specs.Lines.{lines_of, IsLineOf}
use Rattle.blocks.specs.Hiding.{IsLineAt}
use Rattle.blocks.specs.Joins.{AreEnds, AreJoins, Follows, holds, joined_blocks, none}
use Rattle.blocks.specs.declared.joins.Join.{Join}
use Rattle.blocks.proofs.Lines.{begins_by, lines_numbered, line_order, one_of}
use Rattle.blocks.proofs.Stepping.{stop}
use Rattle.blocks.proofs.Walking.{Agree, counted, free, inside, reach_start}

-- a join, or none, among so many lines
pub record Sound (lines : ℕ) (g : Join) : Type 0 where
  pub low : g.number ≤ g.last
  pub order : g.first ≤ g.last
  pub within : g.last ≤ lines
  pub first : 0 < g.last → 0 < g.first
  pub numbered : 0 < g.last → 0 < g.number

sound_next : (long : ℕ) (b j : Join) → Sound long b → Follows long b.number b.last j → Sound long j
sound_next long b j s f = record {
  low = omega (arith, s.low, f.later, f.numbered, f.some);
  order = omega (arith, f.some);
  within = f.within;
  first = λ some. omega (arith, f.later);
  numbered = λ some. omega (arith, f.later, f.numbered);
}

pub sound : (i long : ℕ) (b d : Join) (js : List Join) → Sound long b → AreJoins long b.number b.last js → i ≤ length js → Sound long (get_or (b ∷ js) i d)
sound zero long b d js s joins within = s
sound (suc i) long b d [] s joins within = absurd (omega arith)
sound (suc i) long b d (j ∷ js) s joins within = sound i long j d js (sound_next long b j s joins.0) joins.1 (omega arith)

pub sound_none : (long : ℕ) → Sound long none
sound_none long = record { low = omega arith; order = omega arith; within = omega arith; first = λ some. absurd (omega (arith, some)); numbered = λ some. absurd (omega (arith, some)) }

pub sound_at : (i long : ℕ) (js : List Join) (g : Join) → AreJoins long 0 0 js → i ≤ length js → g ≡ get_or (none ∷ js) i none → Sound long g
sound_at i long js g joins within is = rw is (sound i long none none js (sound_none long) joins within)

pub chain : (i long : ℕ) (b d : Join) (js : List Join) → AreJoins long b.number b.last js → i < length js → Follows long (get_or (b ∷ js) i d).number (get_or (b ∷ js) i d).last (get_or js i d)
chain i long b d [] joins within = absurd (omega arith)
chain zero long b d (j ∷ js) joins within = joins.0
chain (suc i) long b d (j ∷ js) joins within = chain i long j d js joins.1 (omega arith)

agree : (js : List Join) → Agree (λ n. list_any (holds n) js) 0 js
agree js n from = refl

-- the block of a join
pub join_block : (i : ℕ) (text : List ℕ) (js : List Join) (g : Join) (from to : ℕ) → AreJoins (length (lines_of text)) 0 0 js → i ≤ length js → g ≡ get_or (none ∷ js) i none → 0 < g.last → AreEnds text g.first g.last from to → slice_get (joined_blocks text js) (g.number - 1) ≡ Some (record { number = g.number; from = from; to = to })
join_block zero text js g from to joins within is some ends = absurd (let last : g.last ≡ 0 = ap (λ (j : Join). j.last) is in omega (arith, last, some))
join_block (suc i) text js g from to joins within is some ends =
    let J : ℕ → Bool = λ n. list_any (holds n) js in
    let first : ends.start.number ≡ (get_or js i none).first = ends.first_is ∙ ap (λ (j : Join). j.first) is in
    let last : ends.end.number ≡ (get_or js i none).last = ends.last_is ∙ ap (λ (j : Join). j.last) is in
    let at = inside i (λ n. list_any (holds n) js) (lines_of text) none none js ends.start ends.end (lines_numbered text) (reach_start (λ n. list_any (holds n) js) (lines_of text) (lines_numbered text)) (agree js) joins (omega arith) ends.is_start first ends.is_end last in
    let found = stop (λ n. list_any (holds n) js) (lines_of text) _ ends.end at.0 at.1 in
    rw (ends.from_is, ends.to_is, ← is) at found

-- the block of a line that is alone
pub line_block : (i : ℕ) (text : List ℕ) (js : List Join) (g : Join) (line k from to : ℕ) → AreJoins (length (lines_of text)) 0 0 js → i ≤ length js → g ≡ get_or (none ∷ js) i none → g.last < line → (i < length js → line < (get_or js i none).first) → k ≡ g.number + (line - g.last) → AreEnds text line line from to → slice_get (joined_blocks text js) (k - 1) ≡ Some (record { number = k; from = from; to = to })
line_block i text js g line k from to joins within is later before number ends =
    let last : g.last ≡ (get_or (none ∷ js) i none).last = ap (λ (j : Join). j.last) is in
    let count : g.number ≡ (get_or (none ∷ js) i none).number = ap (λ (j : Join). j.number) is in
    let at = free i (λ n. list_any (holds n) js) (lines_of text) none none js ends.start (lines_numbered text) (reach_start (λ n. list_any (holds n) js) (lines_of text) (lines_numbered text)) (agree js) joins within ends.is_start
    (omega (arith, last, later, ends.first_is)) (λ more. let here = before more in omega (arith, here, ends.first_is)) in
    let found = stop (λ n. list_any (holds n) js) (lines_of text) _ ends.start at.0 at.1 in
    let same : (get_or (none ∷ js) i none).number + (ends.start.number - (get_or (none ∷ js) i none).last) ≡ k = omega (arith, last, count, number, ends.first_is) in
    let place : ends.start.number - 1 ≡ ends.end.number - 1 = omega (arith, ends.first_is, ends.last_is) in
    let one : ends.start ≡ ends.end = one_of ends.start ends.end (slice_get (lines_of text) (ends.end.number - 1)) (ap (slice_get (lines_of text)) (sym place) ∙ ends.is_start) ends.is_end in
    let to_is : ends.start.to ≡ to = ap (λ (l : lines.Line). l.to) one ∙ ends.to_is in
    rw (same, ends.from_is, to_is) at found

-- a line starts and ends itself
pub own_ends : (text : List ℕ) (line : lines.Line) → IsLineOf text line → AreEnds text line.number line.number line.from line.to
own_ends text line is = record { start = line; end = line; is_start = is; is_end = is; first_is = refl; last_is = refl; from_is = refl; to_is = refl }

-- how many blocks there are
pub count_is : (text : List ℕ) (js : List Join) (g : Join) → 0 < length (lines_of text) → AreJoins (length (lines_of text)) 0 0 js → g ≡ get_or (none ∷ js) (length js) none → length (joined_blocks text js) ≡ g.number + (length (lines_of text) - g.last)
count_is text js g some joins is =
    rw is (counted (λ n. list_any (holds n) js) (lines_of text) none none js (lines_numbered text) (reach_start (λ n. list_any (holds n) js) (lines_of text) (lines_numbered text)) (agree js) joins (omega arith) (λ e. absurd (omega (arith, e, some))))

-- the line of the block of a number that no join has
pub line_in : (i n : ℕ) (text : List ℕ) (js : List Join) (g : Join) → 0 < length (lines_of text) → AreJoins (length (lines_of text)) 0 0 js → i ≤ length js → g ≡ get_or (none ∷ js) i none → (i < length js → n < (get_or js i none).number) → g.number ≤ n → n ≤ length (joined_blocks text js) → (g.last + (n - g.number) ≤ length (lines_of text)) × (i < length js → g.last + (n - g.number) < (get_or js i none).first)
line_in i n text js g some joins within is before from counted =
    (at (length js - i) refl, next)
  where
    next : i < length js → g.last + (n - g.number) < (get_or js i none).first
    next more =
        let follows = chain i (length (lines_of text)) none none js joins more in
        let last : g.last ≡ (get_or (none ∷ js) i none).last = ap (λ (j : Join). j.last) is in
        let count : g.number ≡ (get_or (none ∷ js) i none).number = ap (λ (j : Join). j.number) is in
        let here = before more in
        let later = follows.later in
        let number = follows.numbered in
        omega (arith, last, count, here, later, number, from)

    at : (k : ℕ) → length js - i ≡ k → g.last + (n - g.number) ≤ length (lines_of text)
    at zero e =
        let all : i ≡ length js = omega (arith, e, within) in
        let number = count_is text js g some joins (is ∙ ap (λ k. get_or (none ∷ js) k none) all) in
        let s = sound_at i (length (lines_of text)) js g joins within is in
        let inside = s.within in
        omega (arith, number, from, counted, inside)
    at (suc k) e =
        let more : i < length js = omega (arith, e) in
        let follows = chain i (length (lines_of text)) none none js joins more in
        let first = next more in
        let long = follows.some in
        let fits = follows.within in
        omega (arith, first, long, fits)

pub starts_by : (text : List ℕ) (first last from to pos : ℕ) (line : lines.Line) → AreEnds text first last from to → IsLineOf text line → first ≤ line.number → line.from ≤ pos → from ≤ pos
starts_by text first last from to pos line ends is order at =
    let by = begins_by text ends.start line ends.is_start is (omega (arith, ends.first_is, order)) in
    let early = by.0 in
    omega (arith, early, ends.from_is, at)

pub ends_by : (text : List ℕ) (first last from to pos : ℕ) (line : lines.Line) → AreEnds text first last from to → IsLineOf text line → line.number ≤ last → pos ≤ line.to → pos ≤ to
ends_by text first last from to pos line ends is order at =
    let by = begins_by text line ends.end is ends.is_end (omega (arith, ends.last_is, order)) in
    let late = by.1 in
    omega (arith, late, ends.to_is, at)

pub first_line : (text : List ℕ) (first last from to : ℕ) → AreEnds text first last from to → IsLineAt text first from
first_line text first last from to ends =
    let order = line_order text ends.start ends.is_start in
    record { line = ends.start; is = ends.is_start; numbered = ends.first_is; starts = omega (arith, ends.from_is); ends = omega (arith, ends.from_is, order) }

pub last_line : (text : List ℕ) (first last from to : ℕ) → AreEnds text first last from to → IsLineAt text last to
last_line text first last from to ends =
    let order = line_order text ends.end ends.is_end in
    record { line = ends.end; is = ends.is_end; numbered = ends.last_is; starts = omega (arith, ends.to_is, order); ends = omega (arith, ends.to_is) }

pub ends_order : (text : List ℕ) (first last from to : ℕ) → AreEnds text first last from to → first ≤ last → from ≤ to
ends_order text first last from to ends order =
    let by = begins_by text ends.start ends.end ends.is_start ends.is_end (omega (arith, ends.first_is, ends.last_is, order)) in
    let early = by.1 in
    let own = line_order text ends.start ends.is_start in
    omega (arith, early, own, ends.from_is, ends.to_is)

-- joins are in the order of their first lines, and of their numbers
after : (i long number last : ℕ) (d : Join) (js : List Join) → AreJoins long number last js → i < length js → (last < (get_or js i d).first) × (number < (get_or js i d).number)
after i long number last d [] joins within = absurd (omega arith)
after zero long number last d (j ∷ js) joins within =
    let later = joins.0.later in
    let numbered = joins.0.numbered in
    (later, omega (arith, later, numbered))
after (suc i) long number last d (j ∷ js) joins within =
    let later = joins.0.later in
    let numbered = joins.0.numbered in
    let some = joins.0.some in
    let more = after i long j.number j.last d js joins.1 (omega arith) in
    let first = more.0 in
    let count = more.1 in
    (omega (arith, later, some, first), omega (arith, later, numbered, count))

pub firsts_rise : (long number last : ℕ) (js : List Join) → AreJoins long number last js → IsNonDecreasingBy (λ (j : Join). j.first) js
firsts_rise long number last [] joins i j d le lt = absurd (omega arith)
firsts_rise long number last (x ∷ xs) joins zero zero d le lt = omega arith
firsts_rise long number last (x ∷ xs) joins zero (suc j) d le lt =
    let some = joins.0.some in
    let more = (after j long x.number x.last d xs joins.1 (omega arith)).0 in
    omega (arith, some, more)
firsts_rise long number last (x ∷ xs) joins (suc i) zero d le lt = absurd (omega arith)
firsts_rise long number last (x ∷ xs) joins (suc i) (suc j) d le lt = firsts_rise long x.number x.last xs joins.1 i j d (omega arith) (omega arith)

pub numbers_rise : (long number last : ℕ) (js : List Join) → AreJoins long number last js → IsNonDecreasingBy (λ (j : Join). j.number) js
numbers_rise long number last [] joins i j d le lt = absurd (omega arith)
numbers_rise long number last (x ∷ xs) joins zero zero d le lt = omega arith
numbers_rise long number last (x ∷ xs) joins zero (suc j) d le lt =
    let more = (after j long x.number x.last d xs joins.1 (omega arith)).1 in
    omega (arith, more)
numbers_rise long number last (x ∷ xs) joins (suc i) zero d le lt = absurd (omega arith)
numbers_rise long number last (x ∷ xs) joins (suc i) (suc j) d le lt = numbers_rise long x.number x.last xs joins.1 i j d (omega arith) (omega arith)

pub begun : (key : Join → ℕ) (i n : ℕ) (js : List Join) → key none ≡ 0 → ((k : ℕ) (d : Join) → k < i → key (get_or js k d) ≤ n) → key (get_or (none ∷ js) i none) ≤ n
begun key zero n js zero_is low = omega (arith, zero_is)
begun key (suc i) n js zero_is low = low i none (omega arith)
