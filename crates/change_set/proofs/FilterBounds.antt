-- How long the new texts of the parts of a filtered set are at most.
use Rattle.std.proofs.Common.{◌≡◌, ℕ, zero, suc, ◌+◌, ◌≤◌, Bool, true, false, cond, List, [], ◌∷◌, ◌++◌, length, refl, arith, length-append}
use Rattle.change_desc.specs.declared.section.Section.TheVariants.{Keep, Replace}
use Rattle.change_desc.specs.Sections.{Sections, spelled, new_of, old_size, new_size}
use Rattle.change_desc.specs.Columns.{Fate, stays, leaves, follows, last, next, in_front, times, along_old}
use Rattle.change_desc.specs.Pieces.{Piece, single, stretch, closed, gather}
use Rattle.change_desc.specs.Filter.{taken_char, taken}
use Rattle.change_desc.proofs.Normal.{spelled_laws}
use Rattle.change_desc.proofs.Weaves.{new_size-normal}
use Rattle.change_set.specs.declared.half.Half.{Half}
use Rattle.change_set.specs.Texts.{written}
use Rattle.change_set.specs.Protection.{takes_char, takes_place, half_from, taking}
use Rattle.change_set.proofs.Composed.{written-le}
use Rattle.change_set.proofs.Filtering.{Chars, Along}

abbrev news : List (Piece Chars) → ℕ
news [] = 0
news (single x ∷ ps) = new_of spelled x + news ps
news (stretch b n t ∷ ps) = length t + news ps

new_size-gather : (ps : List (Piece Chars)) → new_size spelled (closed spelled (gather spelled ps)) ≡ news ps
new_size-gather [] = refl
new_size-gather (single (Keep zero) ∷ ps) = omega (arith, new_size-gather ps)
new_size-gather (single (Keep (suc n)) ∷ ps) = omega (arith, new_size-gather ps)
new_size-gather (single (Replace zero []) ∷ ps) = omega (arith, new_size-gather ps)
new_size-gather (single (Replace zero (c ∷ t)) ∷ ps) = omega (arith, new_size-gather ps)
new_size-gather (single (Replace (suc n) t) ∷ ps) = omega (arith, new_size-gather ps)
new_size-gather (stretch true n t ∷ ps) = omega (arith, new_size-gather ps, length-append t (gather spelled ps).text)
new_size-gather (stretch false n t ∷ ps) = omega (arith, new_size-gather ps, length-append t (gather spelled ps).text)

-- every text, and every character
abbrev row_new : Along → ℕ
row_new (last t) = length t
row_new (next t stays r) = length t + (1 + row_new r)
row_new (next t (leaves u) r) = length t + (1 + (length u + row_new r))
row_new (next t follows r) = length t + (1 + row_new r)

gap_news : (b : Bool) (t : Chars) (ps : List (Piece Chars)) → news (cond b (single (Replace 0 t) ∷ []) [] ++ ps) ≤ length t + news ps
gap_news true t ps = omega arith
gap_news false t ps = omega arith

end_news : (b : Bool) (t : Chars) → news (cond b (single (Replace 0 t) ∷ []) []) ≤ length t
end_news true t = omega arith
end_news false t = omega arith

column_news : (b : Bool) (t : Chars) (y : Fate Chars) (ps : List (Piece Chars)) (r : Along) → news ps ≤ row_new r → length t + news (taken_char spelled b y ∷ ps) ≤ row_new (next t y r)
column_news true t stays ps r h = omega arith
column_news false t stays ps r h = omega arith
column_news true t (leaves u) ps r h = omega arith
column_news false t (leaves u) ps r h = omega arith
column_news true t follows ps r h = omega arith
column_news false t follows ps r h = omega arith

taken_news : (char gap : ℕ → Bool) (p : ℕ) (r : Along) → news (taken spelled char gap p r) ≤ row_new r
taken_news char gap p (last t) = end_news (gap p) t
taken_news char gap p (next t y r) =
    omega (arith, gap_news (gap p) t (taken_char spelled (char p) y ∷ taken spelled char gap (p + 1) r), column_news (char p) t y (taken spelled char gap (p + 1) r) r (taken_news char gap (p + 1) r))

new_stays : (n : ℕ) (r : Along) → row_new (times spelled n stays r) ≡ n + row_new r
new_stays zero r = omega arith
new_stays (suc n) r = omega (arith, new_stays n r)

new_follows : (n : ℕ) (r : Along) → row_new (times spelled n follows r) ≡ n + row_new r
new_follows zero r = omega arith
new_follows (suc n) r = omega (arith, new_follows n r)

new_prefix : (t : Chars) (r : Along) → row_new (in_front spelled t r) ≡ length t + row_new r
new_prefix t (last u) = length-append t u
new_prefix t (next u stays r) = omega (arith, length-append t u)
new_prefix t (next u (leaves v) r) = omega (arith, length-append t u)
new_prefix t (next u follows r) = omega (arith, length-append t u)

new_along : (s : Sections) → row_new (along_old spelled s) ≡ old_size s + length (written s)
new_along [] = refl
new_along (Keep n ∷ s) = omega (arith, new_stays n (along_old spelled s), new_along s)
new_along (Replace zero t ∷ s) = omega (arith, new_prefix t (along_old spelled s), new_along s, length-append t (written s))
new_along (Replace (suc n) t ∷ s) = omega (arith, new_follows n (along_old spelled s), new_along s, length-append t (written s))

-- each part leads to a text that is no longer than the old and the new one together
pub half-new : (half : Half) (rs : List (ℕ × ℕ)) (len : ℕ) (s : Sections) → new_size spelled (half_from (taking half rs len) [] 0 s) ≤ old_size s + new_size spelled s
half-new half rs len s =
    let ps : List (Piece Chars) = taken spelled (takes_char (taking half rs len)) (takes_place (taking half rs len)) 0 (along_old spelled s) in
    omega (arith, new_size-normal spelled spelled_laws (closed spelled (gather spelled ps)), new_size-gather ps, taken_news (takes_char (taking half rs len)) (takes_place (taking half rs len)) 0 (along_old spelled s), new_along s, written-le s)
