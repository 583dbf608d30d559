-- The two parts of changes: what is dropped, mapped over what is kept, leads to the new document of all.
use Rattle.std.proofs.Common.{◌≡◌, ℕ, zero, suc, ◌+◌, Bool, true, false, cond, not, ◌||◌, List, [], ◌∷◌, ◌++◌, length, replicate, refl, sym, ap, ◌∙◌, append_assoc, arith, length-append, zero-add}
use Rattle.std.proofs.lemmas.List.{replicate-append-replicate, length-replicate}
use Rattle.change_desc.specs.declared.section.Section.{Section}
use Rattle.change_desc.specs.declared.section.Section.TheVariants.{Keep, Replace}
use Rattle.change_desc.specs.Sections.{Sections, spelled, counted, is_blank, kind, joins, joined, put, normal, lengths, old_size, new_size, new_of, inverted}
use Rattle.change_desc.specs.Columns.{Row, last, next, Fate, stays, leaves, follows, width, in_front, times, along_old}
use Rattle.change_desc.specs.Pieces.{Piece, single, stretch, closed, gather, sections}
use Rattle.change_desc.specs.Filter.{taken_char, taken, is_protected, is_inside, filter_kept, filter_dropped}
use Rattle.change_desc.specs.Map.{map_over}
use Rattle.change_desc.specs.MapSteps.{merged_len}
use Rattle.change_desc.proofs.Applies.{width-along_old}
use Rattle.change_desc.proofs.MapLengths.{column_new, ends_new}
use Rattle.change_desc.proofs.Measures.{new_size-map_over}
use Rattle.change_desc.proofs.Merges.{given_size, given_size-along, old_size-lengths, new_size-lengths, old_size-map_over}
use Rattle.change_desc.proofs.Normal.{Together, both_keep, both_insert, both_delete, spelled_laws, together}
use Rattle.change_desc.proofs.Turns.{old_size-turned, new_size-turned}
use Rattle.change_desc.proofs.Weaves.{new_size-normal}
use Rattle.filters.specs.Guards.{no_changes, way_back}
use Rattle.filters.specs.PrivateParts.{AreParts, LeadsBack}

abbrev Chars : Type 0
Chars = List ℕ

-- which old characters stay
abbrev stays_of : {T : Type 0} → Section T → List Bool
stays_of (Keep n) = replicate n true
stays_of (Replace n t) = replicate n false

abbrev set_stays : {T : Type 0} → List (Section T) → List Bool
set_stays [] = []
set_stays (x ∷ s) = stays_of x ++ set_stays s

abbrev fate_stays : {T : Type 0} → Fate T → Bool
fate_stays stays = true
fate_stays (leaves t) = false
fate_stays follows = false

abbrev row_stays : {G T : Type 0} → Row G (Fate T) → List Bool
row_stays (last g) = []
row_stays (next g y r) = fate_stays y ∷ row_stays r

abbrev piece_stays : List (Piece Chars) → List Bool
piece_stays [] = []
piece_stays (single x ∷ ps) = stays_of x ++ piece_stays ps
piece_stays (stretch b n t ∷ ps) = replicate n false ++ piece_stays ps

-- each character stays in one of two sets
abbrev Covers : List Bool → List Bool → Type 0
Covers [] [] = Unit {0}
Covers (x ∷ xs) (y ∷ ys) = ((x || y) ≡ true) × Covers xs ys
Covers _ _ = ⊥

runs : (m n : ℕ) (b : Bool) (bs : List Bool) → replicate (m + n) b ++ bs ≡ replicate m b ++ (replicate n b ++ bs)
runs m n b bs = ap (λ cs. cs ++ bs) (sym (replicate-append-replicate m n b)) ∙ append_assoc (replicate m b) (replicate n b) bs

-- the normal form keeps what stays
blank_stays : (x : Section Chars) → is_blank spelled x ≡ true → stays_of x ≡ []
blank_stays (Keep zero) h = refl
blank_stays (Keep (suc n)) h = cc
blank_stays (Replace zero t) h = refl
blank_stays (Replace (suc n) t) h = cc

together_stays : (x y : Section Chars) (bs : List Bool) → Together spelled spelled_laws x y → stays_of (joined spelled x y) ++ bs ≡ stays_of x ++ (stays_of y ++ bs)
together_stays x y bs (both_keep m n) = runs m n true bs
together_stays x y bs (both_insert t u) = refl
together_stays x y bs (both_delete m n t u h k) = runs (suc m) (suc n) false bs

put_stays : (x : Section Chars) (s : List (Section Chars)) → set_stays (put spelled x s) ≡ stays_of x ++ set_stays s
put_stays x [] = refl
put_stays x (y ∷ s) = cases (joins (kind spelled x) (kind spelled y)) refl
  where
    cases : (b : Bool) → joins (kind spelled x) (kind spelled y) ≡ b → set_stays (cond b (joined spelled x y ∷ s) (x ∷ y ∷ s)) ≡ stays_of x ++ (stays_of y ++ set_stays s)
    cases true h = together_stays x y (set_stays s) (together spelled spelled_laws x y h)
    cases false h = refl

normal_stays : (s : List (Section Chars)) → set_stays (normal spelled s) ≡ set_stays s
normal_stays [] = refl
normal_stays (x ∷ s) = cases (is_blank spelled x) refl (normal_stays s)
  where
    cases : (b : Bool) → is_blank spelled x ≡ b → set_stays (normal spelled s) ≡ set_stays s →
        set_stays (cond b (normal spelled s) (put spelled x (normal spelled s))) ≡ stays_of x ++ set_stays s
    cases true h e = e ∙ ap (λ bs. bs ++ set_stays s) (sym (blank_stays x h))
    cases false h e = put_stays x (normal spelled s) ∙ ap (λ bs. stays_of x ++ bs) e

-- and so does gathering pieces
gather_stays : (ps : List (Piece Chars)) → set_stays (closed spelled (gather spelled ps)) ≡ piece_stays ps
gather_stays [] = refl
gather_stays (single x ∷ ps) = cases (is_blank spelled x) refl (gather_stays ps)
  where
    cases : (b : Bool) → is_blank spelled x ≡ b → set_stays (closed spelled (gather spelled ps)) ≡ piece_stays ps →
        set_stays (closed spelled (cond b (gather spelled ps) (record { count = 0; text = []; rest = x ∷ closed spelled (gather spelled ps) }))) ≡ stays_of x ++ piece_stays ps
    cases true h e = e ∙ ap (λ bs. bs ++ piece_stays ps) (sym (blank_stays x h))
    cases false h e = ap (λ bs. stays_of x ++ bs) e
gather_stays (stretch true n t ∷ ps) = runs n (gather spelled ps).count false (set_stays (gather spelled ps).rest) ∙ ap (λ bs. replicate n false ++ bs) (gather_stays ps)
gather_stays (stretch false n t ∷ ps) = runs n (gather spelled ps).count false (set_stays (gather spelled ps).rest) ∙ ap (λ bs. replicate n false ++ bs) (gather_stays ps)

sections_stays : (ps : List (Piece Chars)) → set_stays (sections spelled ps) ≡ piece_stays ps
sections_stays ps = normal_stays (closed spelled (gather spelled ps)) ∙ gather_stays ps

lengths_stays : (s : List (Section Chars)) → set_stays (lengths spelled s) ≡ set_stays s
lengths_stays [] = refl
lengths_stays (Keep n ∷ s) = ap (λ bs. replicate n true ++ bs) (lengths_stays s)
lengths_stays (Replace n t ∷ s) = ap (λ bs. replicate n false ++ bs) (lengths_stays s)

-- along the old text
times_stays : (n : ℕ) (y : Fate ℕ) (r : Row ℕ (Fate ℕ)) → row_stays (times counted n y r) ≡ replicate n (fate_stays y) ++ row_stays r
times_stays zero y r = refl
times_stays (suc n) y r = ap (λ bs. fate_stays y ∷ bs) (times_stays n y r)

prefix_stays : (t : ℕ) (r : Row ℕ (Fate ℕ)) → row_stays (in_front counted t r) ≡ row_stays r
prefix_stays t (last i) = refl
prefix_stays t (next i y r) = refl

along_stays : (s : List (Section ℕ)) → row_stays (along_old counted s) ≡ set_stays s
along_stays [] = refl
along_stays (Keep n ∷ s) = times_stays n stays (along_old counted s) ∙ ap (λ bs. replicate n true ++ bs) (along_stays s)
along_stays (Replace zero t ∷ s) = prefix_stays t (along_old counted s) ∙ along_stays s
along_stays (Replace (suc n) t ∷ s) = ap (λ bs. false ∷ bs) (times_stays n follows (along_old counted s) ∙ ap (λ bs. replicate n false ++ bs) (along_stays s))

-- where each character stays in one of two sets, mapping one over the other leads to both new texts without what they share
merged_covers : (r q : Row ℕ (Fate ℕ)) → Covers (row_stays r) (row_stays q) → merged_len r q + width r ≡ given_size r + given_size q
merged_covers (last i) (last j) h = omega (arith, ends_new false i j)
merged_covers (last i) (next j y q) h = absurd h
merged_covers (next i x r) (last j) h = absurd h
merged_covers (next i stays r) (next j stays q) h = omega (arith, column_new false i stays r j stays q, merged_covers r q h.1)
merged_covers (next i stays r) (next j (leaves u) q) h = omega (arith, column_new false i stays r j (leaves u) q, merged_covers r q h.1)
merged_covers (next i stays r) (next j follows q) h = omega (arith, column_new false i stays r j follows q, merged_covers r q h.1)
merged_covers (next i (leaves t) r) (next j stays q) h = omega (arith, column_new false i (leaves t) r j stays q, merged_covers r q h.1)
merged_covers (next i follows r) (next j stays q) h = omega (arith, column_new false i follows r j stays q, merged_covers r q h.1)
merged_covers (next i (leaves t) r) (next j (leaves u) q) h = let e = h.0 in cc
merged_covers (next i (leaves t) r) (next j follows q) h = let e = h.0 in cc
merged_covers (next i follows r) (next j (leaves u) q) h = let e = h.0 in cc
merged_covers (next i follows r) (next j follows q) h = let e = h.0 in cc

covers_by : (xs ys us vs : List Bool) → xs ≡ us → ys ≡ vs → Covers us vs → Covers xs ys
covers_by xs ys us vs e f h = rw (e, f) h

mapped-size : (k d : List (Section Chars)) → Covers (set_stays k) (set_stays d) →
    new_size counted (map_over counted (lengths spelled d) (lengths spelled k) false) + old_size k ≡ new_size spelled k + new_size spelled d
mapped-size k d h =
    let kr : Row ℕ (Fate ℕ) = along_old counted (lengths spelled k) in
    let dr : Row ℕ (Fate ℕ) = along_old counted (lengths spelled d) in
    let c : Covers (row_stays kr) (row_stays dr) =
    covers_by (row_stays kr) (row_stays dr) (set_stays k) (set_stays d) (along_stays (lengths spelled k) ∙ lengths_stays k) (along_stays (lengths spelled d) ∙ lengths_stays d) h in
    omega (
      arith,
      new_size-map_over (lengths spelled d) (lengths spelled k) false,
      merged_covers kr dr c,
      width-along_old counted (lengths spelled k),
      old_size-lengths spelled k,
      given_size-along (lengths spelled k),
      given_size-along (lengths spelled d),
      new_size-lengths spelled k,
      new_size-lengths spelled d,
    )

-- how much new text pieces and rows give
abbrev piece_news : List (Piece Chars) → ℕ
piece_news [] = 0
piece_news (single x ∷ ps) = new_of spelled x + piece_news ps
piece_news (stretch b n t ∷ ps) = length t + piece_news ps

gather_news : (ps : List (Piece Chars)) → new_size spelled (closed spelled (gather spelled ps)) ≡ piece_news ps
gather_news [] = refl
gather_news (single (Keep zero) ∷ ps) = omega (arith, gather_news ps)
gather_news (single (Keep (suc n)) ∷ ps) = omega (arith, gather_news ps)
gather_news (single (Replace zero []) ∷ ps) = omega (arith, gather_news ps)
gather_news (single (Replace zero (c ∷ t)) ∷ ps) = omega (arith, gather_news ps)
gather_news (single (Replace (suc n) t) ∷ ps) = omega (arith, gather_news ps)
gather_news (stretch true n t ∷ ps) = omega (arith, gather_news ps, length-append t (gather spelled ps).text)
gather_news (stretch false n t ∷ ps) = omega (arith, gather_news ps, length-append t (gather spelled ps).text)

sections_news : (ps : List (Piece Chars)) → new_size spelled (sections spelled ps) ≡ piece_news ps
sections_news ps = new_size-normal spelled spelled_laws (closed spelled (gather spelled ps)) ∙ gather_news ps

abbrev row_news : Row Chars (Fate Chars) → ℕ
row_news (last t) = length t
row_news (next t stays r) = length t + (1 + row_news r)
row_news (next t (leaves u) r) = length t + (length u + row_news r)
row_news (next t follows r) = length t + row_news r

news_stays : (n : ℕ) (r : Row Chars (Fate Chars)) → row_news (times spelled n stays r) ≡ n + row_news r
news_stays zero r = omega arith
news_stays (suc n) r = omega (arith, news_stays n r)

news_follows : (n : ℕ) (r : Row Chars (Fate Chars)) → row_news (times spelled n follows r) ≡ row_news r
news_follows zero r = refl
news_follows (suc n) r = omega (arith, news_follows n r)

news_prefix : (t : Chars) (r : Row Chars (Fate Chars)) → row_news (in_front spelled t r) ≡ length t + row_news r
news_prefix t (last u) = length-append t u
news_prefix t (next u stays r) = omega (arith, length-append t u)
news_prefix t (next u (leaves v) r) = omega (arith, length-append t u)
news_prefix t (next u follows r) = omega (arith, length-append t u)

along_news : (s : Sections) → row_news (along_old spelled s) ≡ new_size spelled s
along_news [] = refl
along_news (Keep n ∷ s) = omega (arith, news_stays n (along_old spelled s), along_news s)
along_news (Replace zero t ∷ s) = omega (arith, news_prefix t (along_old spelled s), along_news s)
along_news (Replace (suc n) t ∷ s) = omega (arith, news_follows n (along_old spelled s), along_news s)

-- two halves, one of which takes exactly what the other doesn't
module _ (char gap : ℕ → Bool) where
  abbrev half : Bool → Bool → Bool
  half true b = b
  half false b = not b

  abbrev mine : ℕ → Row Chars (Fate Chars) → List (Piece Chars)
  mine p r = taken spelled char gap p r

  abbrev theirs : ℕ → Row Chars (Fate Chars) → List (Piece Chars)
  theirs p r = taken spelled (λ q. not (char q)) (λ q. not (gap q)) p r

  gap_halves : (b : Bool) (t : Chars) (ps qs : List (Piece Chars)) →
      piece_news (cond b (single (Replace 0 t) ∷ []) [] ++ ps) + piece_news (cond (not b) (single (Replace 0 t) ∷ []) [] ++ qs) ≡ length t + (piece_news ps + piece_news qs)
  gap_halves true t ps qs = omega arith
  gap_halves false t ps qs = omega arith

  end_halves : (b : Bool) (t : Chars) → piece_news (cond b (single (Replace 0 t) ∷ []) []) + piece_news (cond (not b) (single (Replace 0 t) ∷ []) []) ≡ length t
  end_halves true t = omega arith
  end_halves false t = omega arith

  column_halves : (b : Bool) (t : Chars) (y : Fate Chars) (ps qs : List (Piece Chars)) (r : Row Chars (Fate Chars)) → piece_news ps + piece_news qs ≡ row_news r + width r →
      length t + (piece_news (taken_char spelled b y ∷ ps) + piece_news (taken_char spelled (not b) y ∷ qs)) ≡ row_news (next t y r) + suc (width r)
  column_halves true t stays ps qs r h = omega arith
  column_halves false t stays ps qs r h = omega arith
  column_halves true t (leaves u) ps qs r h = omega arith
  column_halves false t (leaves u) ps qs r h = omega arith
  column_halves true t follows ps qs r h = omega arith
  column_halves false t follows ps qs r h = omega arith

  halves_news : (p : ℕ) (r : Row Chars (Fate Chars)) → piece_news (mine p r) + piece_news (theirs p r) ≡ row_news r + width r
  halves_news p (last t) = omega (arith, end_halves (gap p) t)
  halves_news p (next t y r) =
      omega (
        arith,
        gap_halves (gap p) t (taken_char spelled (char p) y ∷ mine (p + 1) r) (taken_char spelled (not (char p)) y ∷ theirs (p + 1) r),
        column_halves (char p) t y (mine (p + 1) r) (theirs (p + 1) r) r (halves_news (p + 1) r),
      )

  gap_stays : (b : Bool) (t : Chars) (ps : List (Piece Chars)) → piece_stays (cond b (single (Replace 0 t) ∷ []) [] ++ ps) ≡ piece_stays ps
  gap_stays true t ps = refl
  gap_stays false t ps = refl

  end_covers : (b c : Bool) (t : Chars) → Covers (piece_stays (cond b (single (Replace 0 t) ∷ []) [])) (piece_stays (cond c (single (Replace 0 t) ∷ []) []))
  end_covers true true t = tt
  end_covers true false t = tt
  end_covers false true t = tt
  end_covers false false t = tt

  column_covers : (b : Bool) (y : Fate Chars) (ps qs : List (Piece Chars)) → Covers (piece_stays ps) (piece_stays qs) →
      Covers (piece_stays (taken_char spelled b y ∷ ps)) (piece_stays (taken_char spelled (not b) y ∷ qs))
  column_covers true stays ps qs h = (refl, h)
  column_covers false stays ps qs h = (refl, h)
  column_covers true (leaves u) ps qs h = (refl, h)
  column_covers false (leaves u) ps qs h = (refl, h)
  column_covers true follows ps qs h = (refl, h)
  column_covers false follows ps qs h = (refl, h)

  halves_cover : (p : ℕ) (r : Row Chars (Fate Chars)) → Covers (piece_stays (mine p r)) (piece_stays (theirs p r))
  halves_cover p (last t) = end_covers (gap p) (not (gap p)) t
  halves_cover p (next t y r) =
      covers_by (piece_stays (mine p (next t y r))) (piece_stays (theirs p (next t y r)))
      (piece_stays (taken_char spelled (char p) y ∷ mine (p + 1) r)) (piece_stays (taken_char spelled (not (char p)) y ∷ theirs (p + 1) r))
      (gap_stays (gap p) t (taken_char spelled (char p) y ∷ mine (p + 1) r)) (gap_stays (not (gap p)) t (taken_char spelled (not (char p)) y ∷ theirs (p + 1) r))
      (column_covers (char p) y (mine (p + 1) r) (theirs (p + 1) r) (halves_cover (p + 1) r))

covers_swap : (xs ys : List Bool) → Covers xs ys → Covers ys xs
covers_swap [] [] h = tt
covers_swap (true ∷ xs) (true ∷ ys) h = (refl, covers_swap xs ys h.1)
covers_swap (true ∷ xs) (false ∷ ys) h = (refl, covers_swap xs ys h.1)
covers_swap (false ∷ xs) (true ∷ ys) h = (refl, covers_swap xs ys h.1)
covers_swap (false ∷ xs) (false ∷ ys) h = let e = h.0 in cc
covers_swap [] (y ∷ ys) h = absurd h
covers_swap (x ∷ xs) [] h = absurd h

-- both parts that a filter gives lead to new documents that are together as long as both documents of all changes
pub halves-size : (rs : List (ℕ × ℕ)) (s : Sections) → new_size spelled (filter_kept spelled rs s) + new_size spelled (filter_dropped spelled rs s) ≡ new_size spelled s + old_size s
halves-size rs s =
    let char : ℕ → Bool = is_protected rs (old_size s) in
    let gap : ℕ → Bool = is_inside rs (old_size s) in
    let row : Row Chars (Fate Chars) = along_old spelled s in
    omega (
      arith,
      sections_news (theirs char gap 0 row),
      sections_news (mine char gap 0 row),
      halves_news char gap 0 row,
      along_news s,
      width-along_old spelled s,
    )

-- the parts that a filter gives
pub filtered-parts : (rs : List (ℕ × ℕ)) (s kept dropped : Sections) → kept ≡ filter_kept spelled rs s → dropped ≡ filter_dropped spelled rs s →
    old_size kept ≡ old_size s → old_size dropped ≡ old_size s → AreParts s kept dropped
filtered-parts rs s kept dropped e f a b =
    let char : ℕ → Bool = is_protected rs (old_size s) in
    let gap : ℕ → Bool = is_inside rs (old_size s) in
    let row : Row Chars (Fate Chars) = along_old spelled s in
    let k : List (Piece Chars) = theirs char gap 0 row in
    let d : List (Piece Chars) = mine char gap 0 row in
    let ks : set_stays kept ≡ piece_stays k = ap set_stays e ∙ sections_stays k in
    let ds : set_stays dropped ≡ piece_stays d = ap set_stays f ∙ sections_stays d in
    let c : Covers (set_stays kept) (set_stays dropped) =
    covers_by (set_stays kept) (set_stays dropped) (piece_stays k) (piece_stays d) ks ds (covers_swap (piece_stays d) (piece_stays k) (halves_cover char gap 0 row)) in
    record {
      starts = a;
      meet = b ∙ sym a;
      ends = omega (arith, mapped-size kept dropped c, halves-size rs s, ap (new_size spelled) e, ap (new_size spelled) f, a);
    }

-- the parts where no change is kept
all_cover : (n : ℕ) (bs : List Bool) → length bs ≡ n → Covers (replicate n true ++ []) bs
all_cover zero [] e = tt
all_cover zero (b ∷ bs) e = absurd (omega (arith, e))
all_cover (suc n) [] e = absurd (omega (arith, e))
all_cover (suc n) (b ∷ bs) e = (refl, all_cover n bs (omega (arith, e)))

stays_length : (s : Sections) → length (set_stays s) ≡ old_size s
stays_length [] = refl
stays_length (Keep n ∷ s) = omega (arith, length-append (replicate n true) (set_stays s), length-replicate n true, stays_length s)
stays_length (Replace n t ∷ s) = omega (arith, length-append (replicate n false) (set_stays s), length-replicate n false, stays_length s)

no_changes-old : (n : ℕ) → old_size (no_changes n) ≡ n
no_changes-old zero = refl
no_changes-old (suc n) = omega arith

no_changes-new : (n : ℕ) → new_size spelled (no_changes n) ≡ n
no_changes-new zero = refl
no_changes-new (suc n) = omega arith

pub dropped-parts : (s kept dropped : Sections) → kept ≡ no_changes (old_size s) → dropped ≡ s → AreParts s kept dropped
dropped-parts s kept dropped e f =
    let n : ℕ = old_size s in
    let a : old_size kept ≡ n = ap old_size e ∙ no_changes-old n in
    let b : old_size dropped ≡ n = ap old_size f in
    let ks : set_stays kept ≡ replicate n true ++ [] = ap set_stays e ∙ normal_stays (Keep n ∷ []) in
    let c : Covers (set_stays kept) (set_stays dropped) =
    covers_by (set_stays kept) (set_stays dropped) (replicate n true ++ []) (set_stays s) ks (ap set_stays f) (all_cover n (set_stays s) (stays_length s)) in
    record {
      starts = a;
      meet = b ∙ sym a;
      ends = omega (arith, mapped-size kept dropped c, a, ap (new_size spelled) e, no_changes-new n, ap (new_size spelled) f);
    }

-- how long the dropped changes are, mapped over the kept ones that are described
pub over-size : (s kept dropped : Sections) (k d : List (Section ℕ)) → AreParts s kept dropped → k ≡ lengths spelled kept → d ≡ lengths spelled dropped →
    new_size counted (map_over counted d k false) ≡ new_size spelled s
over-size s kept dropped k d h e f = rw (e, f) h.ends

pub back-is : (kept dropped : Sections) (k d over : List (Section ℕ)) → k ≡ lengths spelled kept → d ≡ lengths spelled dropped → over ≡ map_over counted d k false →
    inverted over ≡ way_back kept dropped
back-is kept dropped k d over e f g = ap inverted (g ∙ rw (e, f) refl)

-- the way back leads from the new document of all changes to that of the kept ones
pub leads-back : (s kept dropped : Sections) (back : List (Section ℕ)) → AreParts s kept dropped → back ≡ way_back kept dropped → LeadsBack s kept back
leads-back s kept dropped back h e =
    let over : List (Section ℕ) = map_over counted (lengths spelled dropped) (lengths spelled kept) false in
    record {
      starts = ap old_size e ∙ (old_size-turned over ∙ h.ends);
      ends =
          ap (new_size counted) e ∙
          (new_size-turned over ∙
          (old_size-map_over counted (lengths spelled dropped) (lengths spelled kept) false
          (old_size-lengths spelled kept ∙ (sym h.meet ∙ sym (old_size-lengths spelled dropped))) ∙
          new_size-lengths spelled kept));
    }
