-- Pieces one after the other.
use Rattle.std.proofs.Common.{◌≡◌, ℕ, zero, suc, ◌+◌, ◌-◌, ◌<◌, ◌≤◌, ◌^◌, List, [], ◌∷◌, ◌++◌, length, get_or, take, drop, refl, sym, ◌∙◌, ap, subst, arith, append_assoc, length-append}
use Rattle.std.proofs.lemmas.List.{append-nil, take_more, take-append-drop, drop_more, get_or_read}
use Rattle.std.specs.List.{concat}
use Rattle.line_tree.specs.Breaks.{count_breaks, IsBreakAt, IsCounted}
use Rattle.line_tree.specs.Pieces.{piece_of, StartsAt, HoldsPlace, HoldsBreak}
use Rattle.line_tree.proofs.Counts.{count-append}
use Rattle.line_tree.proofs.Inside.{length_inside, count_all, count_inside, run_inside, break_inside}

pub concat-append : (xs ys : List (List ℕ)) → concat (xs ++ ys) ≡ concat xs ++ concat ys
concat-append [] ys = refl
concat-append (x ∷ xs) ys = ap (λ r. x ++ r) (concat-append xs ys) ∙ sym (append_assoc x (concat xs) (concat ys))

pub concat_one : (x : List ℕ) → concat (x ∷ []) ≡ x
concat_one x = append-nil x

-- one piece more
pub concat_push : (xs : List (List ℕ)) (x : List ℕ) → concat (xs ++ x ∷ []) ≡ concat xs ++ x
concat_push xs x = concat-append xs (x ∷ []) ∙ ap (λ r. concat xs ++ r) (concat_one x)

-- the pieces about the one at i
pub concat_at : (ps : List (List ℕ)) (i : ℕ) (v : List ℕ) → i < length ps → v ≡ get_or ps i v → concat ps ≡ concat (take i ps) ++ (v ++ concat (drop (i + 1) ps))
concat_at ps i v l e =
    ap concat (sym (take-append-drop i ps) ∙ ap (λ r. take i ps ++ r) (drop_more ps i v l ∙ ap (λ w. w ∷ drop (i + 1) ps) (sym e)))
    ∙ concat-append (take i ps) (v ∷ drop (i + 1) ps)

pub concat_more : (ps : List (List ℕ)) (i : ℕ) (v : List ℕ) → i < length ps → v ≡ get_or ps i v → concat (take (i + 1) ps) ≡ concat (take i ps) ++ v
concat_more ps i v l e = ap concat (take_more ps i v l ∙ ap (λ w. take i ps ++ w ∷ []) (sym e)) ∙ concat_push (take i ps) v

pub length_more : (ps : List (List ℕ)) (i : ℕ) (v : List ℕ) → i < length ps → v ≡ get_or ps i v → length (concat (take (i + 1) ps)) ≡ length (concat (take i ps)) + length v
length_more ps i v l e = ap length (concat_more ps i v l e) ∙ length-append (concat (take i ps)) v

pub count_more : (ps : List (List ℕ)) (i : ℕ) (v : List ℕ) → i < length ps → v ≡ get_or ps i v → count_breaks (concat (take (i + 1) ps)) ≡ count_breaks (concat (take i ps)) + count_breaks v
count_more ps i v l e = ap count_breaks (concat_more ps i v l e) ∙ count-append (concat (take i ps)) v

pub length_part : (ps : List (List ℕ)) (i : ℕ) (v : List ℕ) → i < length ps → v ≡ get_or ps i v → length (concat (take i ps)) + length v ≤ length (concat ps)
length_part ps i v l e = omega (arith, ap length (concat_at ps i v l e), length_inside (concat (take i ps)) v (concat (drop (i + 1) ps)))

pub count_part : (ps : List (List ℕ)) (i : ℕ) (v : List ℕ) → i < length ps → v ≡ get_or ps i v → count_breaks (concat (take i ps)) + count_breaks v ≤ count_breaks (concat ps)
count_part ps i v l e = omega (arith, ap count_breaks (concat_at ps i v l e), count_all (concat (take i ps)) v (concat (drop (i + 1) ps)))

-- where so many characters are not those of the first pieces, there are more pieces
pub not_all : (ps : List (List ℕ)) (i : ℕ) → length (concat (take i ps)) < length (concat ps) → i < length ps
not_all [] i h = absurd (nothing i h)
  where
    nothing : (i : ℕ) → length (concat (take i [])) < 0 → ⊥
    nothing zero h = omega arith
    nothing (suc i) h = omega arith
not_all (p ∷ ps) zero h = omega arith
not_all (p ∷ ps) (suc i) h = omega (arith, not_all ps i (omega (arith, length-append p (concat ps), length-append p (concat (take i ps)))))

pub not_all_breaks : (ps : List (List ℕ)) (i : ℕ) → count_breaks (concat (take i ps)) < count_breaks (concat ps) → i < length ps
not_all_breaks [] i h = absurd (nothing i h)
  where
    nothing : (i : ℕ) → count_breaks (concat (take i [])) < 0 → ⊥
    nothing zero h = omega arith
    nothing (suc i) h = omega arith
not_all_breaks (p ∷ ps) zero h = omega arith
not_all_breaks (p ∷ ps) (suc i) h = omega (arith, not_all_breaks ps i (omega (arith, count-append p (concat ps), count-append p (concat (take i ps)))))

-- what stands about the piece at an index that was read
pub record About (ps : List (List ℕ)) (index from breaks : ℕ) (v : List ℕ) : Type 0 where
  pub is : piece_of ps index ≡ v
  pub whole : concat ps ≡ concat (take index ps) ++ (v ++ concat (drop (index + 1) ps))
  pub fits : from + length v ≤ length (concat ps)

pub about : (ps : List (List ℕ)) (index from breaks : ℕ) (v : List ℕ) → StartsAt ps index from breaks → v ≡ get_or ps index v → About ps index from breaks v
about ps index from breaks v s e = record {
  is = sym (get_or_read ps index v s.in_range e _);
  whole = concat_at ps index v s.in_range e;
  fits = omega (arith, length_part ps index v s.in_range e, s.from_is);
}

-- what is known where a place was found, of characters that are kept in the pieces
pub record AtPlace (cs : List ℕ) (pos from breaks : ℕ) (v : List ℕ) : Type 0 where
  pub count : count_breaks (take pos cs) ≡ breaks + count_breaks (take (pos - from) v)
  pub run : (run : List ℕ) → run ≡ take (length run) (drop (pos - from) v) → pos - from + length run ≤ length v → (run ≡ take (length run) (drop pos cs)) × (pos + length run ≤ length cs)
  pub low : from ≤ pos
  pub high : pos - from < length v

pub at_place : (cs : List ℕ) (ps found : List (List ℕ)) (pos index from breaks : ℕ) (v : List ℕ) → concat ps ≡ cs → found ≡ ps → HoldsPlace found pos index from breaks → v ≡ get_or ps index v → AtPlace cs pos from breaks v
at_place cs ps found pos index from breaks v whole same holds e =
    let h : HoldsPlace ps pos index from breaks = subst (λ qs. HoldsPlace qs pos index from breaks) same holds in
    let s = h.is in
    let a = about ps index from breaks v s e in
    let before = concat (take index ps) in
    let after = concat (drop (index + 1) ps) in
    let w : before ++ (v ++ after) ≡ cs = sym a.whole ∙ whole in
    let end : pos < from + length v = omega (arith, h.ends, ap length a.is) in
    let offset : pos - length before ≡ pos - from = omega (arith, s.from_is) in
    record {
      count = ap (λ t. count_breaks (take pos t)) (sym w) ∙ count_inside before v after pos (omega (arith, s.from_is, h.starts)) (omega (arith, s.from_is, end))
          ∙ omega (arith, s.breaks_is, ap (λ n. count_breaks (take n v)) offset);
      run = λ run is short.
          let r = run_inside before v after run pos (omega (arith, s.from_is, h.starts)) (omega (arith, s.from_is, end)) (is ∙ ap (λ n. take (length run) (drop n v)) (sym offset)) (omega (arith, offset)) in
          (r.0 ∙ ap (λ t. take (length run) (drop pos t)) w, omega (arith, r.1, ap length w));
      low = h.starts;
      high = omega (arith, h.starts, end);
    }

-- what is known where a break was found
pub record AtBreak (cs : List ℕ) (before from breaks : ℕ) (v : List ℕ) : Type 0 where
  pub there : (q : ℕ) → IsBreakAt v (before - breaks) q → IsBreakAt cs before (from + q)
  pub low : breaks ≤ before
  pub high : before - breaks < count_breaks v
  pub fits : from + length v ≤ length cs

pub at_break : (cs : List ℕ) (ps found : List (List ℕ)) (before index from breaks : ℕ) (v : List ℕ) → concat ps ≡ cs → found ≡ ps → HoldsBreak found before index from breaks → v ≡ get_or ps index v → AtBreak cs before from breaks v
at_break cs ps found before index from breaks v whole same holds e =
    let h : HoldsBreak ps before index from breaks = subst (λ qs. HoldsBreak qs before index from breaks) same holds in
    let s = h.is in
    let a = about ps index from breaks v s e in
    let first = concat (take index ps) in
    let after = concat (drop (index + 1) ps) in
    let w : first ++ (v ++ after) ≡ cs = sym a.whole ∙ whole in
    let k : count_breaks first + (before - breaks) ≡ before = omega (arith, s.breaks_is, h.starts) in
    record {
      there = λ q is.
          let one : IsBreakAt cs (count_breaks first + (before - breaks)) (length first + q) = subst (λ t. IsBreakAt t (count_breaks first + (before - breaks)) (length first + q)) w (break_inside first v after (before - breaks) q is) in
          let two : IsBreakAt cs before (length first + q) = subst (λ n. IsBreakAt cs n (length first + q)) k one in
          subst (λ n. IsBreakAt cs before (n + q)) (sym s.from_is) two;
      low = h.starts;
      high = omega (arith, h.starts, h.ends, ap count_breaks a.is);
      fits = omega (arith, a.fits, ap length whole);
    }

-- characters more, and what is kept beside them
pub counted_more : (cs ds run : List ℕ) (len breaks : ℕ) → IsCounted cs len breaks → ds ≡ cs ++ run → length cs + length run < 2 ^ 32 → IsCounted ds (len + length run) (breaks + count_breaks run)
counted_more cs ds run len breaks is e fits = record {
  len_is = omega (arith, is.len_is, ap length e, length-append cs run);
  breaks_is = omega (arith, is.breaks_is, ap count_breaks e, count-append cs run);
  fits = omega (arith, ap length e, length-append cs run, fits);
}

pub counted_same : (cs ds : List ℕ) (len breaks : ℕ) → IsCounted cs len breaks → ds ≡ cs → IsCounted ds len breaks
counted_same cs ds len breaks is e = subst (λ t. IsCounted t len breaks) (sym e) is

-- a piece more, where no last characters are left
pub piece_more : (cs ps new : List (List ℕ)) (last piece : List ℕ) → new ≡ ps ++ piece ∷ [] → last ≡ [] → concat cs ++ (concat new ++ last) ≡ (concat cs ++ (concat ps ++ last)) ++ piece
piece_more cs ps new last piece e none =
    let whole : concat new ++ last ≡ (concat ps ++ last) ++ piece = ap (λ r. concat new ++ r) none ∙ append-nil (concat new) ∙ ap concat e ∙ concat_push ps piece
    ∙ ap (λ r. r ++ piece) (sym (ap (λ r. concat ps ++ r) none ∙ append-nil (concat ps))) in
    ap (λ r. concat cs ++ r) whole ∙ sym (append_assoc (concat cs) (concat ps ++ last) piece)

-- where no pieces and no last characters are left
pub all_ended : (cs : List ℕ) (ps : List (List ℕ)) (last : List ℕ) → ps ≡ [] → last ≡ [] → cs ++ (concat ps ++ last) ≡ cs
all_ended cs ps last no_pieces no_last = ap (λ qs. cs ++ (concat qs ++ last)) no_pieces ∙ ap (λ r. cs ++ r) no_last ∙ append-nil cs

-- a chunk more there
pub chunk_more : (cs new ps : List (List ℕ)) (last chunk : List ℕ) → new ≡ cs ++ chunk ∷ [] → ps ≡ [] → last ≡ [] → concat new ++ (concat ps ++ last) ≡ (concat cs ++ (concat ps ++ last)) ++ chunk
chunk_more cs new ps last chunk e no_pieces no_last =
    all_ended (concat new) ps last no_pieces no_last ∙ ap concat e ∙ concat_push cs chunk ∙ ap (λ r. r ++ chunk) (sym (all_ended (concat cs) ps last no_pieces no_last))
