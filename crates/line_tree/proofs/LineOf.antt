-- The line that starts and ends at two places.
use Rattle.std.proofs.Common.{◌≡◌, ℕ, zero, suc, ◌+◌, ◌-◌, ◌<◌, ◌≤◌, Bool, true, false, cond, ltb, List, [], ◌∷◌, ◌++◌, length, get_or, take, Some, refl, sym, ◌∙◌, ap, arith}
use Rattle.std.specs.Prelude.{slice_get}
use Rattle.std.specs.List.{slice_split, onto_first}
use Rattle.std.proofs.lemmas.Bool.{ltb-true, ltb-false}
use Rattle.std.proofs.lemmas.List.{take_more, take-take}
use Rattle.line_tree.specs.declared.line.Line.{Line}
use Rattle.line_tree.specs.Lines.{is_break, line_texts, numbered, lines_of}
use Rattle.line_tree.specs.Breaks.{count_breaks}
use Rattle.line_tree.specs.LineEnds.{StartsLine, EndsLine}
use Rattle.line_tree.proofs.Counts.{count-cons, count-append, count-break, count_take}

abbrev line_with : ℕ → ℕ → ℕ → Line
line_with number from to = record { number = number; from = from; to = to }

line_same : (a b c x y z : ℕ) → a ≡ x → b ≡ y → c ≡ z → Some (line_with a b c) ≡ Some (line_with x y z)
line_same a b c x y z p q r = rw (p, q, r) refl

-- lines with their numbers and places, the first of which has so many characters more before its own
abbrev numbered_after : ℕ → ℕ → ℕ → List (List ℕ) → List Line
numbered_after number from more [] = []
numbered_after number from more (line ∷ lines) = line_with number from (from + (more + length line)) ∷ numbered (number + 1) (from + (more + length line) + 1) lines

onto : (number from more c : ℕ) (lines : List (List ℕ)) → 0 < length lines → numbered_after number from more (onto_first c lines) ≡ numbered_after number from (more + 1) lines
onto number from more c [] h = absurd (omega arith)
onto number from more c (line ∷ lines) h =
    let e : more + length (c ∷ line) ≡ more + 1 + length line = omega arith in
    ap (λ n. line_with number from (from + n) ∷ numbered (number + 1) (from + n + 1) lines) e

all_numbered : (number from : ℕ) (lines : List (List ℕ)) → numbered_after number from 0 lines ≡ numbered number from lines
all_numbered number from [] = refl
all_numbered number from (line ∷ lines) =
    let e : 0 + length line ≡ length line = omega arith in
    ap (λ n. line_with number from (from + n) ∷ numbered (number + 1) (from + n + 1) lines) e

some_line : (cs : List ℕ) → 0 < length (slice_split is_break cs)
some_line [] = omega arith
some_line (c ∷ cs) = at (is_break c) where
  onto_some : (lines : List (List ℕ)) → 0 < length (onto_first c lines)
  onto_some [] = omega arith
  onto_some (line ∷ lines) = omega arith

  at : (b : Bool) → 0 < length (cond b ([] ∷ slice_split is_break cs) (onto_first c (slice_split is_break cs)))
  at true = omega arith
  at false = onto_some (slice_split is_break cs)

-- where the line after so many breaks starts, if the first starts at `from`
abbrev starts_at : ℕ → ℕ → ℕ → ℕ
starts_at zero from place = from
starts_at (suc breaks) from place = place

weight : Bool → ℕ
weight b = cond b 1 0

count-first : (c : ℕ) (cs : List ℕ) (n : ℕ) → count_breaks (take (suc n) (c ∷ cs)) ≡ weight (is_break c) + count_breaks (take n cs)
unfolding weight
count-first c cs n = count-cons c (take n cs)

weight-yes : (c : ℕ) → is_break c ≡ true → weight (is_break c) ≡ 1
unfolding weight
weight-yes c e = ap weight e

weight-no : (c : ℕ) → is_break c ≡ false → weight (is_break c) ≡ 0
unfolding weight
weight-no c e = ap weight e

-- a break that was begins with one
begins_before : (c : ℕ) (cs : List ℕ) (n : ℕ) → get_or (c ∷ cs) (suc n - 1) 0 ≡ 10 → 0 < n → get_or cs (n - 1) 0 ≡ 10
begins_before c cs zero is h = absurd (omega arith)
begins_before c cs (suc n) is h =
    let one : suc (suc n) - 1 ≡ suc n = omega arith in
    let two : suc n - 1 ≡ n = omega arith in
    ap (λ k. get_or cs k 0) two ∙ sym (ap (λ k. get_or (c ∷ cs) k 0) one) ∙ is

starts_next : (c : ℕ) (cs : List ℕ) (k l from : ℕ) → k ≡ weight (is_break c) + l → StartsLine (c ∷ cs) k (suc from) → StartsLine cs l from
starts_next c cs k l from e s = record {
  within = omega (arith, s.within);
  others = omega (arith, s.others, count-first c cs from);
  begins = begins_before c cs from (s.begins (omega arith));
}

ends_next : (c : ℕ) (cs : List ℕ) (k l to : ℕ) → k ≡ weight (is_break c) + l → EndsLine (c ∷ cs) k (suc to) → EndsLine cs l to
ends_next c cs k l to e s = record {
  within = omega (arith, s.within);
  others = omega (arith, s.others, count-first c cs to);
  ends = λ h. s.ends (omega arith);
}

-- the first line starts at the first place
first_start : (cs : List ℕ) (from : ℕ) → StartsLine cs 0 from → from ≡ 0
first_start cs zero s = refl
first_start cs (suc n) s =
    let there : get_or cs n 0 ≡ 10 = ap (λ k. get_or cs k 0) (let e : n ≡ suc n - 1 = omega arith in e) ∙ s.begins (omega arith) in
    let within : n < length cs = omega (arith, s.within) in
    let more : take (n + 1) cs ≡ take n cs ++ 10 ∷ [] = take_more cs n 0 within ∙ ap (λ c. take n cs ++ c ∷ []) there in
    let same : suc n ≡ n + 1 = omega arith in
    absurd (omega (arith, s.others, ap (λ k. count_breaks (take k cs)) same, ap count_breaks more, count-append (take n cs) (10 ∷ []), count-break []))

at_start : (cs : List ℕ) → StartsLine cs 0 0
at_start cs = record { within = omega arith; others = refl; begins = λ h. absurd (omega arith) }

Found : List ℕ → Type 0
Found cs = (n s e k from to : ℕ) → StartsLine cs k from → EndsLine cs k to
    → slice_get (numbered_after n s e (slice_split is_break cs)) k ≡ Some (line_with (n + k) (starts_at k s (s + e + from)) (s + e + to))

after_found : (c : ℕ) (cs : List ℕ) → is_break c ≡ true → Found cs → (n s e k from to : ℕ) → StartsLine (c ∷ cs) k from → EndsLine (c ∷ cs) k to
    → slice_get (numbered_after n s e ([] ∷ slice_split is_break cs)) k ≡ Some (line_with (n + k) (starts_at k s (s + e + from)) (s + e + to))
unfolding Found
after_found c cs broken found n s e zero from zero a b = line_same _ _ _ _ _ _ (omega arith) refl (omega arith)
after_found c cs broken found n s e zero from (suc to) a b = absurd (omega (arith, b.others, count-first c cs to, weight-yes c broken))
after_found c cs broken found n s e (suc k) zero to a b = let none : 0 ≡ suc k = a.others in absurd (omega (arith, none))
after_found c cs broken found n s e (suc k) (suc from) zero a b = let none : 0 ≡ suc k = b.others in absurd (omega (arith, none))
after_found c cs broken found n s e (suc k) (suc from) (suc to) a b =
    let sum : suc k ≡ weight (is_break c) + k = omega (arith, weight-yes c broken) in
    let next = starts_next c cs (suc k) k from sum a in
    ap (λ ls. slice_get ls k) (sym (all_numbered (n + 1) (s + (e + 0) + 1) (slice_split is_break cs)))
    ∙ found (n + 1) (s + (e + 0) + 1) 0 k from to next (ends_next c cs (suc k) k to sum b)
    ∙ line_same _ _ _ _ _ _ (omega arith) (start k next) (omega arith)
  where
    start : (k : ℕ) → StartsLine cs k from → starts_at k (s + (e + 0) + 1) (s + (e + 0) + 1 + 0 + from) ≡ s + e + suc from
    start zero next = omega (arith, first_start cs from next)
    start (suc k) next = omega arith

in_line_found : (c : ℕ) (cs : List ℕ) → is_break c ≡ false → Found cs → (n s e k from to : ℕ) → StartsLine (c ∷ cs) k from → EndsLine (c ∷ cs) k to
    → slice_get (numbered_after n s e (onto_first c (slice_split is_break cs))) k ≡ Some (line_with (n + k) (starts_at k s (s + e + from)) (s + e + to))
unfolding Found
in_line_found c cs inner found n s e k from zero a b =
    let there : c ≡ 10 = b.ends (omega arith) in
    let clash : true ≡ false = ap is_break (sym there) ∙ inner in
    cc
in_line_found c cs inner found n s e zero from (suc to) a b =
    let sum : 0 ≡ weight (is_break c) + 0 = omega (arith, weight-no c inner) in
    ap (λ ls. slice_get ls 0) (onto n s e c (slice_split is_break cs) (some_line cs))
    ∙ found n s (e + 1) 0 0 to (at_start cs) (ends_next c cs 0 0 to sum b)
    ∙ line_same _ _ _ _ _ _ refl refl (omega arith)
in_line_found c cs inner found n s e (suc k) zero (suc to) a b = let none : 0 ≡ suc k = a.others in absurd (omega (arith, none))
in_line_found c cs inner found n s e (suc k) (suc from) (suc to) a b =
    let sum : suc k ≡ weight (is_break c) + suc k = omega (arith, weight-no c inner) in
    ap (λ ls. slice_get ls (suc k)) (onto n s e c (slice_split is_break cs) (some_line cs))
    ∙ found n s (e + 1) (suc k) from to (starts_next c cs (suc k) (suc k) from sum a) (ends_next c cs (suc k) (suc k) to sum b)
    ∙ line_same _ _ _ _ _ _ refl (omega arith) (omega arith)

line_found : (cs : List ℕ) → Found cs
unfolding Found
line_found [] n s e zero from zero a b = line_same _ _ _ _ _ _ (omega arith) refl (omega arith)
line_found [] n s e (suc k) from zero a b = let none : 0 ≡ suc k = b.others in absurd (omega (arith, none))
line_found [] n s e k from (suc to) a b = absurd (omega (arith, b.within))
line_found (c ∷ cs) n s e k from to a b = at (line_found cs) (is_break c) refl where
  at : Found cs → (t : Bool) → is_break c ≡ t → slice_get (numbered_after n s e (cond t ([] ∷ slice_split is_break cs) (onto_first c (slice_split is_break cs)))) k ≡ Some (line_with (n + k) (starts_at k s (s + e + from)) (s + e + to))
  at found true broken = after_found c cs broken found n s e k from to a b
  at found false inner = in_line_found c cs inner found n s e k from to a b

-- the line that starts and ends there is the one after so many breaks
pub line_is : (cs : List ℕ) (k from to : ℕ) → StartsLine cs k from → EndsLine cs k to → slice_get (lines_of cs) k ≡ Some (line_with (k + 1) from to)
unfolding Found
line_is cs k from to a b =
    ap (λ ls. slice_get ls k) (sym (all_numbered 1 0 (line_texts cs))) ∙ line_found cs 1 0 0 k from to a b ∙ line_same _ _ _ _ _ _ (omega arith) (start k a) (omega arith)
  where
    start : (k : ℕ) → StartsLine cs k from → starts_at k 0 (0 + 0 + from) ≡ from
    start zero a = sym (first_start cs from a)
    start (suc k) a = omega arith

pub line_numbered : (cs : List ℕ) (number k from to : ℕ) → number ≡ k + 1 → StartsLine cs k from → EndsLine cs k to → slice_get (lines_of cs) (number - 1) ≡ Some (line_with number from to)
line_numbered cs number k from to e a b =
    let less : number - 1 ≡ k = omega arith in
    ap (slice_get (lines_of cs)) less ∙ line_is cs k from to a b ∙ ap (λ n. Some (line_with n from to)) (sym e)

-- a place after as many breaks stands in that line
pub place_in_line : (cs : List ℕ) (k from to pos : ℕ) → StartsLine cs k from → EndsLine cs k to → pos ≤ length cs → count_breaks (take pos cs) ≡ k → (from ≤ pos) × (pos ≤ to)
place_in_line cs k from to pos a b within count = (from_le from a, to_le)
  where
    -- a break at a place before another counts there
    counted : (p q : ℕ) → p < q → q ≤ length cs → get_or cs p 0 ≡ 10 → count_breaks (take p cs) + 1 ≤ count_breaks (take q cs)
    counted p q less fits there =
        let more : take (p + 1) cs ≡ take p cs ++ 10 ∷ [] = take_more cs p 0 (omega arith) ∙ ap (λ c. take p cs ++ c ∷ []) there in
        let part : take (p + 1) (take q cs) ≡ take (p + 1) cs = take-take (p + 1) q cs (omega arith) in
        omega (arith, ap count_breaks more, count-append (take p cs) (10 ∷ []), count-break [], ap count_breaks part, count_take (take q cs) (p + 1))

    prefix : (p q : ℕ) → p ≤ q → count_breaks (take p cs) ≤ count_breaks (take q cs)
    prefix p q le = omega (arith, ap count_breaks (take-take p q cs le), count_take (take q cs) p)

    from_le : (from : ℕ) → StartsLine cs k from → from ≤ pos
    from_le zero a = omega arith
    from_le (suc n) a =
        let there : get_or cs n 0 ≡ 10 = ap (λ k. get_or cs k 0) (let e : n ≡ suc n - 1 = omega arith in e) ∙ a.begins (omega arith) in
        later (ltb pos (suc n)) refl there
      where
        later : (t : Bool) → ltb pos (suc n) ≡ t → get_or cs n 0 ≡ 10 → suc n ≤ pos
        later false e there = ltb-false _ _ e
        later true e there =
            let less : pos < suc n = ltb-true _ _ e in
            absurd (omega (arith, prefix pos n (omega arith), counted n (suc n) (omega arith) (omega (arith, a.within)) there, a.others, count))

    to_le : pos ≤ to
    to_le = later (ltb to pos) refl where
      later : (t : Bool) → ltb to pos ≡ t → pos ≤ to
      later false e = ltb-false _ _ e
      later true e =
          let less : to < pos = ltb-true _ _ e in
          absurd (omega (arith, counted to pos less within (b.ends (omega (arith, within))), b.others, count))

pub line_order : (cs : List ℕ) (k from to : ℕ) → StartsLine cs k from → EndsLine cs k to → from ≤ to
line_order cs k from to a b = (place_in_line cs k from to to a b b.within b.others).0
