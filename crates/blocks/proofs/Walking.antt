-- The blocks of lines between joined ones.
use Rattle.std.proofs.Common.{◌≡◌, ℕ, zero, suc, ◌+◌, ◌-◌, ◌<◌, ◌≤◌, Bool, true, false, List, [], ◌∷◌, length, get_or, Some, refl, sym, ap, ◌∙◌, arith}
use Rattle.std.specs.Prelude.{slice_get}
use Rattle.std.specs.List.{list_any}
use Rattle.std.proofs.lemmas.Bool.Decides.{nat_tests}
use Rattle.line_tree.specs.declared.line.Line as lines
use Rattle.blocks.specs.Hiding.{is_between, joined_lines}
use Rattle.blocks.specs.Joins.{AreJoins, holds, none}
use Rattle.blocks.specs.declared.joins.Join.{Join}
use Rattle.blocks.proofs.Lines.{IsNumbered, line_of, one_of}
use Rattle.blocks.proofs.Stepping.{IsAt, alone, at_first, by_number, end, grows, hops}

pub is_in : (from to p : ℕ) → from ≤ p → p < to → is_between from to p ≡ true
is_in from to p starts before = grind (arith, nat_tests)

pub is_earlier : (from to p : ℕ) → p < from → is_between from to p ≡ false
is_earlier from to p before = grind (arith, nat_tests)

pub is_later : (from to p : ℕ) → to ≤ p → is_between from to p ≡ false
is_later from to p after = grind (arith, nat_tests)

-- no join after a line holds the break after that line or an earlier one
pub none_before : (lines number last n : ℕ) (js : List Join) → AreJoins lines number last js → n ≤ last → list_any (holds n) js ≡ false
none_before lines number last n [] joins early = refl
none_before lines number last n (j ∷ js) joins early =
    let some = joins.0.some in
    let later = joins.0.later in
    rw (is_earlier j.first j.last n (omega (arith, later)), none_before lines j.number j.last n js joins.1 (omega (arith, some, later))) refl

pub none_until : (lines number last n : ℕ) (d : Join) (js : List Join) → AreJoins lines number last js → (0 < length js → n < (get_or js 0 d).first) → list_any (holds n) js ≡ false
none_until lines number last n d [] joins early = refl
none_until lines number last n d (j ∷ js) joins early =
    let some = joins.0.some in
    let before = early (omega arith) in
    rw (is_earlier j.first j.last n before, none_before lines j.number j.last n js joins.1 (omega (arith, some, before))) refl

-- the next block begins with the line after the last one of a block of this number
abbrev pub Reach : (ℕ → Bool) → List lines.Line → (number last : ℕ) → Type 0
Reach J ls number last =
    (m : lines.Line) → slice_get ls (m.number - 1) ≡ Some m → last < m.number → ((n : ℕ) → last ≤ n → n < m.number → J n ≡ false)
    → IsAt J ls (alone (number + (m.number - last)) m) m

-- from a line on, the breaks that these joins hold are the hidden ones
abbrev pub Agree : (ℕ → Bool) → ℕ → List Join → Type 0
Agree J last js = (n : ℕ) → last ≤ n → J n ≡ list_any (holds n) js

first_is : (J : ℕ → Bool) (ls : List lines.Line) (x m : lines.Line) (k : ℕ) → x ≡ m → k ≡ x.number → IsAt J ls x x → IsAt J ls (alone k m) m
first_is J ls x m k same number at =
    let block : x ≡ alone k m = λ i. record { number = sym number i; from = (same i).from; to = (same i).to } in
    moved x (alone k m) x m block same at
  where
    moved : (a b c d : lines.Line) → a ≡ b → c ≡ d → IsAt J ls a c → IsAt J ls b d
    moved a b c d p q here = rw (p, q) at here

pub reach_start : (J : ℕ → Bool) (ls : List lines.Line) → IsNumbered ls → Reach J ls 0 0
reach_start J [] numbered m is some none = cc
reach_start J (x ∷ xs) numbered m is some none =
    let one : x.number ≡ 1 = numbered 0 x refl in
    let at = at_first J x xs one in
    start (m.number - 1) refl
  where
    start : (d : ℕ) → m.number - 1 ≡ d → IsAt J (x ∷ xs) (alone (0 + (m.number - 0)) m) m
    start zero far =
        let one : x.number ≡ 1 = numbered 0 x refl in
        let same : x ≡ m = one_of x m (Some x) refl (ap (slice_get (x ∷ xs)) (sym far) ∙ is) in
        first_is J (x ∷ xs) x m (0 + (m.number - 0)) same (omega (arith, one, far, some)) (at_first J x xs one)
    start (suc d) far =
        let one : x.number ≡ 1 = numbered 0 x refl in
        hops d J (x ∷ xs) x x m (0 + (m.number - 0)) numbered (at_first J x xs one) is (omega (arith, one, far, some)) (omega (arith, one, far, some))
        (λ n from before. none n (omega arith) before)

pub reach_after : (J : ℕ → Bool) (ls : List lines.Line) (block z : lines.Line) → IsNumbered ls → IsAt J ls block z → Reach J ls block.number z.number
reach_after J ls block z numbered at m is later none =
    hops (m.number - z.number - 1) J ls block z m (block.number + (m.number - z.number)) numbered at is (omega (arith, later)) (omega (arith, later)) none

-- the first join after a line
pub join_at : (J : ℕ → Bool) (ls : List lines.Line) (long number last : ℕ) (j : Join) (js : List Join) (a z : lines.Line) → IsNumbered ls → Reach J ls number last → Agree J last (j ∷ js) → AreJoins long number last (j ∷ js) → slice_get ls (a.number - 1) ≡ Some a → a.number ≡ j.first → slice_get ls (z.number - 1) ≡ Some z → z.number ≡ j.last → IsAt J ls (record { number = j.number; from = a.from; to = z.to }) z
join_at J ls long number last j js a z numbered reach agree joins is_a first is_z ends =
    let later = joins.0.later in
    let some = joins.0.some in
    let counted = joins.0.numbered in
    let start = reach a is_a (omega (arith, first, later)) (λ n from before.
    agree n from ∙ none_until long number last n j (j ∷ js) joins (λ more. omega (arith, first, before))) in
    let same : number + (a.number - last) ≡ j.number = omega (arith, first, later, counted) in
    let begun = rw same at start in
    grows (z.number - a.number - 1) J ls (alone j.number a) a z numbered begun is_z (omega (arith, first, ends, some))
    (λ n from before. agree n (omega (arith, first, later)) ∙ (let in_it = is_in j.first j.last n (omega (arith, first)) (omega (arith, ends)) in rw in_it refl))

pub agree_after : (J : ℕ → Bool) (last : ℕ) (j : Join) (js : List Join) → last ≤ j.last → Agree J last (j ∷ js) → Agree J j.last js
agree_after J last j js order agree n from =
    agree n (omega arith) ∙ (let past = is_later j.first j.last n from in rw past refl)

-- the join after this one, where the lines that it joins exist
after_join : (J : ℕ → Bool) (ls : List lines.Line) (number last : ℕ) (j : Join) (js : List Join) → IsNumbered ls → Reach J ls number last → Agree J last (j ∷ js) → AreJoins (length ls) number last (j ∷ js) → Reach J ls j.number j.last
after_join J ls number last j js numbered reach agree joins =
    let later = joins.0.later in
    let some = joins.0.some in
    let within = joins.0.within in
    let a = line_of ls numbered j.first (omega (arith, later)) (omega (arith, some, within)) in
    let z = line_of ls numbered j.last (omega (arith, some)) within in
    let at = join_at J ls (length ls) number last j js a.line z.line numbered reach agree joins a.is a.number z.is z.number in
    let reached = reach_after J ls _ z.line numbered at in
    rw z.number at reached

abbrev base_at : (number last : ℕ) → Join
base_at number last = record { number = number; first = 0; last = last }

-- a line alone after the first i joins
pub free : (i : ℕ) (J : ℕ → Bool) (ls : List lines.Line) (b d : Join) (js : List Join) (m : lines.Line) → IsNumbered ls → Reach J ls b.number b.last → Agree J b.last js → AreJoins (length ls) b.number b.last js → i ≤ length js → slice_get ls (m.number - 1) ≡ Some m → (get_or (b ∷ js) i d).last < m.number → (i < length js → m.number < (get_or js i d).first) → IsAt J ls (alone ((get_or (b ∷ js) i d).number + (m.number - (get_or (b ∷ js) i d).last)) m) m × (J m.number ≡ false)
free zero J ls b d js m numbered reach agree joins within is later before = (
  reach m is later (λ n from early. agree n from ∙ none_until (length ls) b.number b.last n d js joins (λ some. let here = before some in omega (arith, early, here))),
  agree m.number (omega (arith, later)) ∙ none_until (length ls) b.number b.last m.number d js joins before,
)
free (suc i) J ls b d [] m numbered reach agree joins within is later before = absurd (omega arith)
free (suc i) J ls b d (j ∷ js) m numbered reach agree joins within is later before =
    let early = joins.0.later in
    let some = joins.0.some in
    free i J ls j d js m numbered (after_join J ls b.number b.last j js numbered reach agree joins) (agree_after J b.last j js (omega (arith, early, some)) agree) joins.1
    (omega arith) is later (λ more. before (omega arith))

-- the i-th join
pub inside : (i : ℕ) (J : ℕ → Bool) (ls : List lines.Line) (b d : Join) (js : List Join) (a z : lines.Line) → IsNumbered ls → Reach J ls b.number b.last → Agree J b.last js → AreJoins (length ls) b.number b.last js → i < length js → slice_get ls (a.number - 1) ≡ Some a → a.number ≡ (get_or js i d).first → slice_get ls (z.number - 1) ≡ Some z → z.number ≡ (get_or js i d).last → IsAt J ls (record { number = (get_or js i d).number; from = a.from; to = z.to }) z × (J z.number ≡ false)
inside i J ls b d [] a z numbered reach agree joins within is_a first is_z ends = absurd (omega arith)
inside zero J ls b d (j ∷ js) a z numbered reach agree joins within is_a first is_z ends =
    let early = joins.0.later in
    let some = joins.0.some in (
      join_at J ls (length ls) b.number b.last j js a z numbered reach agree joins is_a first is_z ends,
      agree_after J b.last j js (omega (arith, early, some)) agree z.number (omega (arith, ends)) ∙ none_before (length ls) j.number j.last z.number js joins.1 (omega (arith, ends)),
    )
inside (suc i) J ls b d (j ∷ js) a z numbered reach agree joins within is_a first is_z ends =
    let early = joins.0.later in
    let some = joins.0.some in
    inside i J ls j d js a z numbered (after_join J ls b.number b.last j js numbered reach agree joins) (agree_after J b.last j js (omega (arith, early, some)) agree) joins.1
    (omega arith) is_a first is_z ends

-- how many blocks there are
pub counted : (J : ℕ → Bool) (ls : List lines.Line) (b d : Join) (js : List Join) → IsNumbered ls → Reach J ls b.number b.last → Agree J b.last js → AreJoins (length ls) b.number b.last js → b.last ≤ length ls → (b.last ≡ length ls → length (joined_lines (by_number J) ls) ≡ b.number) → length (joined_lines (by_number J) ls) ≡ (get_or (b ∷ js) (length js) d).number + (length ls - (get_or (b ∷ js) (length js) d).last)
counted J ls b d [] numbered reach agree joins within whole = at_end (length ls - b.last) refl
  where
    at_end : (k : ℕ) → length ls - b.last ≡ k → length (joined_lines (by_number J) ls) ≡ b.number + (length ls - b.last)
    at_end zero none = let here = whole (omega (arith, none, within)) in omega (arith, none, here)
    at_end (suc k) some =
        let z = line_of ls numbered (length ls) (omega (arith, some)) (omega arith) in
        let at = reach z.line z.is (omega (arith, some, z.number)) (λ n from before. agree n from) in
        let e = end J ls _ z.line at (omega (arith, z.number)) in
        omega (arith, e, z.number)
counted J ls b d (j ∷ js) numbered reach agree joins within whole =
    let early = joins.0.later in
    let some = joins.0.some in
    let fits = joins.0.within in
    let a = line_of ls numbered j.first (omega (arith, early)) (omega (arith, some, fits)) in
    let z = line_of ls numbered j.last (omega (arith, some)) fits in
    let at = join_at J ls (length ls) b.number b.last j js a.line z.line numbered reach agree joins a.is a.number z.is z.number in
    counted J ls j d js numbered (after_join J ls b.number b.last j js numbered reach agree joins) (agree_after J b.last j js (omega (arith, early, some)) agree) joins.1 fits
    (λ last. end J ls _ z.line at (omega (arith, z.number, last)))
