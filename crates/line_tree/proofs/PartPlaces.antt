-- A place in joined parts.
use Rattle.std.proofs.Common.{◌≡◌, ℕ, ◌+◌, ◌-◌, ◌<◌, ◌≤◌, List, [], ◌∷◌, ◌++◌, length, get_or, take, drop, refl, sym, ◌∙◌, ap, subst, arith, append_assoc, length-append}
use Rattle.std.proofs.lemmas.List.{append-nil, take_more, take-append-drop, drop_more, length-drop, drop_all, take-append-le, get_or_read}
use Rattle.line_tree.specs.Text.{TextView}
use Rattle.line_tree.specs.Breaks.{count_breaks, IsBreakAt}
use Rattle.line_tree.specs.Parts.{after_break, joined}
use Rattle.line_tree.specs.Places.{before_break, part_of, PartHoldsPlace, PartHoldsBreak}
use Rattle.line_tree.proofs.Counts.{count-append, count-cons}
use Rattle.line_tree.proofs.Inside.{take_inside, drop_inside, length_inside, count_all, break_inside, break_after}
use Rattle.line_tree.proofs.Seams.{join_prefix, join_suffix}

before_break-append : (xs ys : List TextView) → before_break (xs ++ ys) ≡ before_break xs ++ before_break ys
before_break-append [] ys = refl
before_break-append (x ∷ xs) ys = ap (λ r. x.characters ++ 10 ∷ r) (before_break-append xs ys) ∙ sym (append_assoc x.characters (10 ∷ before_break xs) (before_break ys))

pub lead_more : (parts : List TextView) (i : ℕ) (v : TextView) → i < length parts → v ≡ get_or parts i v → before_break (take (i + 1) parts) ≡ before_break (take i parts) ++ (v.characters ++ 10 ∷ [])
lead_more parts i v l e =
    ap before_break (take_more parts i v l) ∙ before_break-append (take i parts) (get_or parts i v ∷ []) ∙ ap (λ (w : TextView). before_break (take i parts) ++ (w.characters ++ 10 ∷ [])) (sym e)

pub length-lead_more : (parts : List TextView) (i : ℕ) (v : TextView) → i < length parts → v ≡ get_or parts i v → length (before_break (take (i + 1) parts)) ≡ length (before_break (take i parts)) + (length v.characters + 1)
length-lead_more parts i v l e =
    omega (arith, ap length (lead_more parts i v l e), length-append (before_break (take i parts)) (v.characters ++ 10 ∷ []), length-append v.characters (10 ∷ []))

pub count-lead_more : (parts : List TextView) (i : ℕ) (v : TextView) → i < length parts → v ≡ get_or parts i v → count_breaks (before_break (take (i + 1) parts)) ≡ count_breaks (before_break (take i parts)) + (count_breaks v.characters + 1)
count-lead_more parts i v l e =
    let one : count_breaks (10 ∷ []) ≡ 1 = count-cons 10 [] in
    omega (arith, ap count_breaks (lead_more parts i v l e), count-append (before_break (take i parts)) (v.characters ++ 10 ∷ []), count-append v.characters (10 ∷ []), one)

-- the parts about the one at i
pub join_at : (parts : List TextView) (i : ℕ) (v : TextView) → i < length parts → v ≡ get_or parts i v → joined parts ≡ before_break (take i parts) ++ (v.characters ++ after_break (drop (i + 1) parts))
join_at parts i v l e =
    ap joined (sym (take-append-drop i parts))
    ∙ ap (λ r. joined (take i parts ++ r)) (drop_more parts i v l ∙ ap (λ w. w ∷ drop (i + 1) parts) (sym e))
    ∙ join_prefix (take i parts) (v ∷ drop (i + 1) parts) (omega arith)

-- a place past the part at i is in a later one
pub not_last : (parts : List TextView) (i place : ℕ) (v : TextView) → i < length parts → v ≡ get_or parts i v → length (before_break (take i parts)) + length v.characters < place
    → place ≤ length (joined parts) → i + 1 < length parts
not_last parts i place v l e past within =
    later (drop (i + 1) parts) refl
  where
    later : (rest : List TextView) → drop (i + 1) parts ≡ rest → i + 1 < length parts
    later (w ∷ ws) r = omega (arith, length-drop (i + 1) parts, ap length r)
    later [] r =
        absurd
        (omega (
          arith,
          past,
          within,
          ap length (join_at parts i v l e),
          length-append (before_break (take i parts)) (v.characters ++ after_break (drop (i + 1) parts)),
          length-append v.characters (after_break (drop (i + 1) parts)),
          ap (λ ps. length (after_break ps)) r,
        ))

-- a break past the part at i is in a later one
pub not_last_break : (parts : List TextView) (i before : ℕ) (v : TextView) → i < length parts → v ≡ get_or parts i v → count_breaks (before_break (take i parts)) + count_breaks v.characters < before
    → before < count_breaks (joined parts) → i + 1 < length parts
not_last_break parts i before v l e past within =
    later (drop (i + 1) parts) refl
  where
    later : (rest : List TextView) → drop (i + 1) parts ≡ rest → i + 1 < length parts
    later (w ∷ ws) r = omega (arith, length-drop (i + 1) parts, ap length r)
    later [] r =
        absurd
        (omega (
          arith,
          past,
          within,
          ap count_breaks (join_at parts i v l e),
          count_all (before_break (take i parts)) v.characters (after_break (drop (i + 1) parts)),
          ap (λ ps. count_breaks (after_break ps)) r,
        ))

-- the characters before a place, and those from it on, where the part that it stands in was read
pub split_there : (parts : List TextView) (place index from breaks : ℕ) (v : TextView) → PartHoldsPlace parts place index from breaks → v ≡ get_or parts index v
    → (take place (joined parts) ≡ before_break (take index parts) ++ take (place - from) v.characters)
    × (drop place (joined parts) ≡ drop (place - from) v.characters ++ after_break (drop (index + 1) parts))
    × (place - from ≤ length v.characters) × (from + length v.characters ≤ length (joined parts))
split_there parts place index from breaks v p e =
    let s = p.is in
    let there : part_of parts index ≡ v = sym (get_or_read parts index v s.in_range e _) in
    let whole = join_at parts index v s.in_range e in
    let before = before_break (take index parts) in
    let after = after_break (drop (index + 1) parts) in
    let low : length before ≤ place = omega (arith, s.from_is, p.starts) in
    let high : place ≤ length before + length v.characters = omega (arith, s.from_is, p.ends, ap (λ (w : TextView). length w.characters) there) in
    let offset : place - length before ≡ place - from = omega (arith, s.from_is) in (
      ap (take place) whole ∙ take_inside before v.characters after place low high ∙ ap (λ n. before ++ take n v.characters) offset,
      ap (drop place) whole ∙ drop_inside before v.characters after place low high ∙ ap (λ n. drop n v.characters ++ after) offset,
      omega (arith, high, offset),
      omega (arith, s.from_is, ap length whole, length_inside before v.characters after),
    )

pub count_ahead : (parts : List TextView) (place index from breaks : ℕ) (v : TextView) → PartHoldsPlace parts place index from breaks → v ≡ get_or parts index v
    → count_breaks (take place (joined parts)) ≡ breaks + count_breaks (take (place - from) v.characters)
count_ahead parts place index from breaks v p e =
    let s = split_there parts place index from breaks v p e in
    omega (arith, ap count_breaks s.0, count-append (before_break (take index parts)) (take (place - from) v.characters), p.is.breaks_is)

pub lead_some : (parts : List TextView) → 0 < length parts → before_break parts ≡ joined parts ++ 10 ∷ []
lead_some parts some = sym (append-nil (before_break parts)) ∙ empty_line parts some
  where
    empty_line : (parts : List TextView) → 0 < length parts → before_break parts ++ [] ≡ joined parts ++ 10 ∷ []
    empty_line parts some =
        sym (join_prefix parts (record { characters = []; height = 0 } ∷ []) (omega arith)) ∙ join_suffix parts (record { characters = []; height = 0 } ∷ []) some

-- the parts before a text, as what `append_lines` makes of them
pub lead_lines : (parts : List TextView) (prefix text cs : List ℕ) → 0 < length parts → prefix ≡ joined parts → cs ≡ prefix ++ 10 ∷ text → cs ≡ before_break parts ++ text
lead_lines parts prefix text cs some f e =
    e ∙ ap (λ r. r ++ 10 ∷ text) f ∙ sym (ap (λ r. r ++ text) (lead_some parts some) ∙ append_assoc (joined parts) (10 ∷ []) text)

pub length-before_break : (parts : List TextView) → 0 < length parts → length (before_break parts) ≡ length (joined parts) + 1
length-before_break parts some = ap length (lead_some parts some) ∙ omega (arith, length-append (joined parts) (10 ∷ []))

-- what is known where a break was found in a part that was read
pub record BreakThere (parts : List TextView) (before from breaks : ℕ) (v : TextView) : Type 0 where
  pub inside : (q : ℕ) → IsBreakAt v.characters (before - breaks) q → IsBreakAt (joined parts) before (from + q)
  pub at_end : before - breaks ≡ count_breaks v.characters → IsBreakAt (joined parts) before (from + length v.characters)
  pub within : before - breaks ≤ count_breaks v.characters
  pub fits : from + length v.characters ≤ length (joined parts)

pub break_there : (parts : List TextView) (before index from breaks : ℕ) (v : TextView) → PartHoldsBreak parts before index from breaks → v ≡ get_or parts index v
    → before < count_breaks (joined parts) → BreakThere parts before from breaks v
break_there parts before index from breaks v p e some =
    let s = p.is in
    let there : part_of parts index ≡ v = sym (get_or_read parts index v s.in_range e _) in
    let whole = join_at parts index v s.in_range e in
    let first = before_break (take index parts) in
    let after = after_break (drop (index + 1) parts) in
    let k : count_breaks first + (before - breaks) ≡ before = omega (arith, s.breaks_is, p.starts) in
    record {
      inside = λ q is.
          subst (λ n. IsBreakAt (joined parts) before (n + q)) (sym s.from_is)
          (subst (λ n. IsBreakAt (joined parts) n (length first + q)) k
          (subst (λ t. IsBreakAt t (count_breaks first + (before - breaks)) (length first + q)) (sym whole) (break_inside first v.characters after (before - breaks) q is)));
      at_end = λ last. ends (drop (index + 1) parts) refl last;
      within = omega (arith, p.ends, ap (λ (w : TextView). count_breaks w.characters) there);
      fits = omega (arith, s.from_is, ap length whole, length_inside first v.characters after);
    }
  where
    ends : (rest : List TextView) → drop (index + 1) parts ≡ rest → before - breaks ≡ count_breaks v.characters → IsBreakAt (joined parts) before (from + length v.characters)
    ends [] r last =
        absurd (omega (arith, some, p.is.breaks_is, p.starts, last, ap count_breaks (join_at parts index v p.is.in_range e), count_all (before_break (take index parts)) v.characters (after_break (drop (index + 1) parts)), ap (λ ps. count_breaks (after_break ps)) r))
    ends (w ∷ ws) r last =
        let first = before_break (take index parts) in
        let whole : joined parts ≡ first ++ (v.characters ++ 10 ∷ (w.characters ++ after_break ws)) = join_at parts index v p.is.in_range e ∙ ap (λ ps. first ++ (v.characters ++ after_break ps)) r in
        let k : count_breaks first + count_breaks v.characters ≡ before = omega (arith, p.is.breaks_is, p.starts, last) in
        subst (λ n. IsBreakAt (joined parts) before (n + length v.characters)) (sym p.is.from_is)
        (subst (λ n. IsBreakAt (joined parts) n (length first + length v.characters)) k
        (subst (λ t. IsBreakAt t (count_breaks first + count_breaks v.characters) (length first + length v.characters)) (sym whole) (break_after first v.characters (w.characters ++ after_break ws))))

-- the characters from a place on, where it stands at the end of a part that is not the last
pub break_next : (parts : List TextView) (place index from breaks : ℕ) (v : TextView) → PartHoldsPlace parts place index from breaks → v ≡ get_or parts index v
    → place < length (joined parts) → place - from ≡ length v.characters → 10 ∷ [] ≡ take 1 (drop place (joined parts))
break_next parts place index from breaks v p e within ends =
    let s = split_there parts place index from breaks v p e in
    let gone : drop (place - from) v.characters ≡ [] = drop_all (place - from) v.characters (omega (arith, ends)) in
    let rest : drop place (joined parts) ≡ after_break (drop (index + 1) parts) = s.1 ∙ ap (λ r. r ++ after_break (drop (index + 1) parts)) gone in
    let some : 0 < length (after_break (drop (index + 1) parts)) = omega (arith, ap length rest, length-drop place (joined parts)) in
    sym (ap (take 1) (rest ∙ begins (drop (index + 1) parts) some))
  where
    begins : (vs : List TextView) → 0 < length (after_break vs) → after_break vs ≡ 10 ∷ drop 1 (after_break vs)
    begins [] h = absurd (omega arith)
    begins (w ∷ ws) h = refl

-- a run of the part's characters is one of the whole
pub run_there : (parts : List TextView) (place index from breaks : ℕ) (v : TextView) (run : List ℕ) → PartHoldsPlace parts place index from breaks → v ≡ get_or parts index v
    → run ≡ take (length run) (drop (place - from) v.characters) → place - from + length run ≤ length v.characters
    → (run ≡ take (length run) (drop place (joined parts))) × (place + length run ≤ length (joined parts))
run_there parts place index from breaks v run p e is short =
    let s = split_there parts place index from breaks v p e in
    let rest = after_break (drop (index + 1) parts) in
    let fits : length run ≤ length (drop (place - from) v.characters) = omega (arith, short, length-drop (place - from) v.characters) in (
      is ∙ sym (ap (take (length run)) s.1 ∙ take-append-le (length run) (drop (place - from) v.characters) rest fits),
      omega (arith, p.starts, short, s.3),
    )

-- a part that is not the last is followed by a break
pub part_fits : (parts : List TextView) (i : ℕ) (v : TextView) → i < length parts → v ≡ get_or parts i v → i + 1 < length parts → length (before_break (take i parts)) + length v.characters + 1 ≤ length (joined parts)
part_fits parts i v l e more =
    omega (arith, ap length (join_at parts i v l e), length_inside (before_break (take i parts)) v.characters (after_break (drop (i + 1) parts)), some (drop (i + 1) parts) (omega (arith, length-drop (i + 1) parts)))
  where
    some : (rest : List TextView) → 0 < length rest → 0 < length (after_break rest)
    some [] h = absurd (omega arith)
    some (w ∷ ws) h = omega arith
