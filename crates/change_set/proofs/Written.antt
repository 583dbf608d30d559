-- The texts of composed and mapped sets, in a row.
use Rattle.std.proofs.Common.{◌≡◌, ℕ, zero, suc, ◌+◌, ◌≤◌, Bool, true, false, cond, List, [], ◌∷◌, ◌++◌, length, take, drop, replicate, refl, sym, ap, ◌∙◌, append_assoc, append-nil, arith, length-drop, length-append}
use Rattle.std.proofs.lemmas.List.{take_at, drop_at}
use Rattle.change_desc.specs.declared.section.Section.{Section}
use Rattle.change_desc.specs.declared.section.Section.TheVariants.{Keep, Replace}
use Rattle.change_desc.specs.Sections.{spelled, counted, is_blank, put, normal, lengths, inverted, old_size, new_size}
use Rattle.change_desc.specs.Columns.{width, Row, last, next, Fate, stays, leaves, follows, Origin, old, new, more, in_front, times, mores, along_old, along_new}
use Rattle.change_desc.specs.Pieces.{Piece, single, stretch, closed, gather, sections}
use Rattle.change_desc.specs.Compose.{in_gap, composed, compose}
use Rattle.change_desc.specs.Map.{ordered, inserted, character, text_size, mapped, map_over}
use Rattle.change_desc.proofs.Applies.{width-along_old, width-along_new}
use Rattle.change_desc.proofs.Turns.{old_size-turned}
use Rattle.change_desc.proofs.Merges.{new_size-lengths}
use Rattle.change_set.specs.Texts.{written, filled, kept_marks, unmarked, texts_between}

-- counting
unmarked-append : (m k : List Bool) → unmarked (m ++ k) ≡ unmarked m + unmarked k
unmarked-append [] k = omega arith
unmarked-append (true ∷ m) k = unmarked-append m k
unmarked-append (false ∷ m) k = omega (arith, unmarked-append m k)

unmarked-true : (n : ℕ) → unmarked (replicate n true) ≡ 0
unmarked-true zero = refl
unmarked-true (suc n) = unmarked-true n

unmarked-false : (n : ℕ) → unmarked (replicate n false) ≡ n
unmarked-false zero = refl
unmarked-false (suc n) = ap suc (unmarked-false n)

length-marks : (n : ℕ) (b : Bool) → length (replicate n b) ≡ n
length-marks zero b = refl
length-marks (suc n) b = ap suc (length-marks n b)

pub length-kept_marks : (s : List (Section ℕ)) → length (kept_marks s) ≡ old_size s
length-kept_marks [] = refl
length-kept_marks (Keep n ∷ s) = omega (arith, length-append (replicate n true) (kept_marks s), length-marks n true, length-kept_marks s)
length-kept_marks (Replace n t ∷ s) = omega (arith, length-append (replicate n false) (kept_marks s), length-marks n false, length-kept_marks s)

module _ {C : Type 0} where
  -- lengths and the texts in a row determine the sections
  pub filled-lengths : (s : List (Section (List C))) → filled (lengths spelled s) (written s) ≡ s
  filled-lengths [] = refl
  filled-lengths (Keep n ∷ s) = ap (λ r. Keep n ∷ r) (filled-lengths s)
  filled-lengths (Replace n t ∷ s) =
      rw (take_at t (written s) (length t) refl, drop_at t (written s) (length t) refl, filled-lengths s) refl

  -- the normal form keeps the texts
  pub written-put : (x : Section (List C)) (s : List (Section (List C))) → written (put spelled x s) ≡ written (x ∷ s)
  written-put x [] = refl
  written-put (Keep m) (Keep n ∷ s) = refl
  written-put (Keep m) (Replace zero u ∷ s) = refl
  written-put (Keep m) (Replace (suc n) [] ∷ s) = refl
  written-put (Keep m) (Replace (suc n) (c ∷ u) ∷ s) = refl
  written-put (Replace zero t) (Keep n ∷ s) = refl
  written-put (Replace (suc m) []) (Keep n ∷ s) = refl
  written-put (Replace (suc m) (c ∷ t)) (Keep n ∷ s) = refl
  written-put (Replace zero t) (Replace zero u ∷ s) = append_assoc t u (written s)
  written-put (Replace zero t) (Replace (suc n) [] ∷ s) = refl
  written-put (Replace zero t) (Replace (suc n) (c ∷ u) ∷ s) = refl
  written-put (Replace (suc m) []) (Replace zero u ∷ s) = refl
  written-put (Replace (suc m) []) (Replace (suc n) [] ∷ s) = refl
  written-put (Replace (suc m) []) (Replace (suc n) (c ∷ u) ∷ s) = refl
  written-put (Replace (suc m) (c ∷ t)) (Replace zero u ∷ s) = refl
  written-put (Replace (suc m) (c ∷ t)) (Replace (suc n) [] ∷ s) = refl
  written-put (Replace (suc m) (c ∷ t)) (Replace (suc n) (d ∷ u) ∷ s) = refl

  written-blank : (x : Section (List C)) (s : List (Section (List C))) → is_blank spelled x ≡ true → written (x ∷ s) ≡ written s
  written-blank (Keep n) s h = refl
  written-blank (Replace zero []) s h = refl
  written-blank (Replace zero (c ∷ t)) s h = cc
  written-blank (Replace (suc n) t) s h = cc

  written-cons : (x : Section (List C)) (s t : List (Section (List C))) → written s ≡ written t → written (x ∷ s) ≡ written (x ∷ t)
  written-cons (Keep n) s t h = h
  written-cons (Replace n u) s t h = ap (λ r. u ++ r) h

  pub written-normal : (s : List (Section (List C))) → written (normal spelled s) ≡ written s
  written-normal [] = refl
  written-normal (x ∷ s) = cases (is_blank spelled x) refl (written-normal s)
    where
      cases : (b : Bool) → is_blank spelled x ≡ b → written (normal spelled s) ≡ written s → written (cond b (normal spelled s) (put spelled x (normal spelled s))) ≡ written (x ∷ s)
      cases true h e = e ∙ sym (written-blank x s h)
      cases false h e = written-put x (normal spelled s) ∙ written-cons x (normal spelled s) s e

  -- the texts of pieces
  abbrev pub piece_texts : List (Piece (List C)) → List C
  piece_texts [] = []
  piece_texts (single (Keep n) ∷ ps) = piece_texts ps
  piece_texts (single (Replace n t) ∷ ps) = t ++ piece_texts ps
  piece_texts (stretch b n t ∷ ps) = t ++ piece_texts ps

  written-gather : (ps : List (Piece (List C))) → written (closed spelled (gather spelled ps)) ≡ piece_texts ps
  written-gather [] = refl
  written-gather (single (Keep zero) ∷ ps) = written-gather ps
  written-gather (single (Keep (suc n)) ∷ ps) = written-gather ps
  written-gather (single (Replace zero []) ∷ ps) = written-gather ps
  written-gather (single (Replace zero (c ∷ t)) ∷ ps) = ap (λ r. (c ∷ t) ++ r) (written-gather ps)
  written-gather (single (Replace (suc n) t) ∷ ps) = ap (λ r. t ++ r) (written-gather ps)
  written-gather (stretch true n t ∷ ps) =
      append_assoc t (gather spelled ps).text (written (gather spelled ps).rest) ∙ ap (λ r. t ++ r) (written-gather ps)
  written-gather (stretch false n t ∷ ps) =
      append_assoc t (gather spelled ps).text (written (gather spelled ps).rest) ∙ ap (λ r. t ++ r) (written-gather ps)

  pub written-sections : (ps : List (Piece (List C))) → written (sections spelled ps) ≡ piece_texts ps
  written-sections ps = written-normal (closed spelled (gather spelled ps)) ∙ written-gather ps

  piece_texts-append : (ps qs : List (Piece (List C))) → piece_texts (ps ++ qs) ≡ piece_texts ps ++ piece_texts qs
  piece_texts-append [] qs = refl
  piece_texts-append (single (Keep n) ∷ ps) qs = piece_texts-append ps qs
  piece_texts-append (single (Replace n t) ∷ ps) qs = ap (λ r. t ++ r) (piece_texts-append ps qs) ∙ sym (append_assoc t (piece_texts ps) (piece_texts qs))
  piece_texts-append (stretch b n t ∷ ps) qs = ap (λ r. t ++ r) (piece_texts-append ps qs) ∙ sym (append_assoc t (piece_texts ps) (piece_texts qs))

  -- a mapped set has the texts of the set
  abbrev row_texts : Row (List C) (Fate (List C)) → List C
  row_texts (last t) = t
  row_texts (next t stays s) = t ++ row_texts s
  row_texts (next t (leaves u) s) = t ++ (u ++ row_texts s)
  row_texts (next t follows s) = t ++ row_texts s

  character-texts : (x : Fate ℕ) (y : Fate (List C)) → piece_texts (character spelled x y) ≡ []
  character-texts stays stays = refl
  character-texts stays (leaves t) = refl
  character-texts stays follows = refl
  character-texts (leaves n) y = refl
  character-texts follows y = refl

  ordered-texts : (before : Bool) (n : ℕ) (j : List C) (y : Fate (List C)) (ps : List (Piece (List C))) →
      piece_texts (ordered before (single (Keep n) ∷ []) (inserted spelled j y) ++ ps) ≡ piece_texts (inserted spelled j y) ++ piece_texts ps
  ordered-texts false n j y ps = piece_texts-append (inserted spelled j y) ps
  ordered-texts true n j stays ps = ap (λ r. r ++ piece_texts ps) (sym (append-nil j))
  ordered-texts true n j (leaves t) ps = ap (λ r. j ++ r) refl ∙ (sym (append_assoc j t (piece_texts ps)) ∙ ap (λ r. r ++ piece_texts ps) (ap (λ r. j ++ r) (sym (append-nil t))))
  ordered-texts true n j follows ps = ap (λ r. r ++ piece_texts ps) (sym (append-nil j))

  inserted-texts : (j : List C) (y : Fate (List C)) (s : Row (List C) (Fate (List C))) → piece_texts (inserted spelled j y) ++ row_texts s ≡ row_texts (next j y s)
  inserted-texts j stays s = ap (λ r. r ++ row_texts s) (append-nil j)
  inserted-texts j (leaves t) s = append_assoc j (t ++ []) (row_texts s) ∙ ap (λ r. j ++ (r ++ row_texts s)) (append-nil t)
  inserted-texts j follows s = ap (λ r. r ++ row_texts s) (append-nil j)

  mapped-texts : (before : Bool) (r : Row ℕ (Fate ℕ)) (s : Row (List C) (Fate (List C))) → width r ≡ width s → piece_texts (mapped spelled before r s) ≡ row_texts s
  mapped-texts false (last i) (last j) w = append-nil j
  mapped-texts true (last i) (last j) w = append-nil j
  mapped-texts before (last i) (next j y s) w = absurd (omega arith)
  mapped-texts before (next i x r) (last j) w = absurd (omega arith)
  mapped-texts before (next i x r) (next j y s) w =
      ordered-texts before (i + text_size x) j y (character spelled x y ++ mapped spelled before r s) ∙
      (ap (λ r. piece_texts (inserted spelled j y) ++ r) (piece_texts-append (character spelled x y) (mapped spelled before r s) ∙ rw (character-texts x y) (mapped-texts before r s (omega arith))) ∙
      inserted-texts j y s)

  times-texts-stays : (n : ℕ) (s : Row (List C) (Fate (List C))) → row_texts (times spelled n stays s) ≡ row_texts s
  times-texts-stays zero s = refl
  times-texts-stays (suc n) s = times-texts-stays n s

  times-texts-follows : (n : ℕ) (s : Row (List C) (Fate (List C))) → row_texts (times spelled n follows s) ≡ row_texts s
  times-texts-follows zero s = refl
  times-texts-follows (suc n) s = times-texts-follows n s

  prefix-texts : (t : List C) (s : Row (List C) (Fate (List C))) → row_texts (in_front spelled t s) ≡ t ++ row_texts s
  prefix-texts t (last u) = refl
  prefix-texts t (next u stays s) = append_assoc t u (row_texts s)
  prefix-texts t (next u (leaves v) s) = append_assoc t u (v ++ row_texts s)
  prefix-texts t (next u follows s) = append_assoc t u (row_texts s)

  along-texts : (s : List (Section (List C))) → row_texts (along_old spelled s) ≡ written s
  along-texts [] = refl
  along-texts (Keep n ∷ s) = times-texts-stays n (along_old spelled s) ∙ along-texts s
  along-texts (Replace zero t ∷ s) = prefix-texts t (along_old spelled s) ∙ ap (λ r. t ++ r) (along-texts s)
  along-texts (Replace (suc n) t ∷ s) = ap (λ r. t ++ r) (times-texts-follows n (along_old spelled s) ∙ along-texts s)

  pub written-map_over : (b : List (Section (List C))) (a : List (Section ℕ)) (before : Bool) → old_size a ≡ old_size b → written (map_over spelled b a before) ≡ written b
  written-map_over b a before h =
      written-sections (mapped spelled before (along_old counted a) (along_old spelled b)) ∙
      (mapped-texts before (along_old counted a) (along_old spelled b) (width-along_old counted a ∙ h ∙ sym (width-along_old spelled b)) ∙ along-texts b)

  -- the row of the first set: which characters are kept, and the others
  abbrev row_marks : Row ℕ (Origin C) → List Bool
  row_marks (last n) = []
  row_marks (next n old r) = true ∷ row_marks r
  row_marks (next n (new m c) r) = false ∷ row_marks r
  row_marks (next n (more c) r) = false ∷ row_marks r

  abbrev row_fresh : Row ℕ (Origin C) → List C
  row_fresh (last n) = []
  row_fresh (next n old r) = row_fresh r
  row_fresh (next n (new m c) r) = c ∷ row_fresh r
  row_fresh (next n (more c) r) = c ∷ row_fresh r

  -- what the second set's row makes of them
  abbrev texts_along : List Bool → List C → Row (List C) (Fate (List C)) → List C
  texts_along m w (last t) = t
  texts_along [] w (next t y s) = t
  texts_along (true ∷ m) w (next t stays s) = t ++ texts_along m w s
  texts_along (true ∷ m) w (next t (leaves u) s) = t ++ (u ++ texts_along m w s)
  texts_along (true ∷ m) w (next t follows s) = t ++ texts_along m w s
  texts_along (false ∷ m) w (next t stays s) = t ++ (take 1 w ++ texts_along m (drop 1 w) s)
  texts_along (false ∷ m) w (next t (leaves u) s) = t ++ (u ++ texts_along m (drop 1 w) s)
  texts_along (false ∷ m) w (next t follows s) = t ++ texts_along m (drop 1 w) s

  gap-texts : (b : Bool) (n : ℕ) (t : List C) (ps : List (Piece (List C))) → piece_texts (in_gap spelled b n t ++ ps) ≡ t ++ piece_texts ps
  gap-texts true n t ps = refl
  gap-texts false n t ps = refl

  composed-texts : (r : Row ℕ (Origin C)) (s : Row (List C) (Fate (List C))) → width r ≡ width s → piece_texts (composed spelled r s) ≡ texts_along (row_marks r) (row_fresh r) s
  composed-texts (last n) (last t) w = append-nil t
  composed-texts (last n) (next t y s) w = absurd (omega arith)
  composed-texts (next n x r) (last t) w = absurd (omega arith)
  composed-texts (next n old r) (next t stays s) w =
      gap-texts true n t (single (Keep 1) ∷ composed spelled r s) ∙ ap (λ u. t ++ u) (composed-texts r s (omega arith))
  composed-texts (next n old r) (next t (leaves u) s) w =
      gap-texts true n t (stretch true 1 u ∷ composed spelled r s) ∙ ap (λ v. t ++ (u ++ v)) (composed-texts r s (omega arith))
  composed-texts (next n old r) (next t follows s) w =
      gap-texts false n t (stretch false 1 [] ∷ composed spelled r s) ∙ ap (λ v. t ++ v) (composed-texts r s (omega arith))
  composed-texts (next n (new m c) r) (next t stays s) w =
      gap-texts true n t (stretch true m (c ∷ []) ∷ composed spelled r s) ∙ ap (λ v. t ++ (c ∷ v)) (composed-texts r s (omega arith))
  composed-texts (next n (new m c) r) (next t (leaves u) s) w =
      gap-texts true n t (stretch true m u ∷ composed spelled r s) ∙ ap (λ v. t ++ (u ++ v)) (composed-texts r s (omega arith))
  composed-texts (next n (new m c) r) (next t follows s) w =
      gap-texts false n t (stretch false m [] ∷ composed spelled r s) ∙ ap (λ v. t ++ v) (composed-texts r s (omega arith))
  composed-texts (next n (more c) r) (next t stays s) w =
      gap-texts false n t (stretch false 0 (c ∷ []) ∷ composed spelled r s) ∙ ap (λ v. t ++ (c ∷ v)) (composed-texts r s (omega arith))
  composed-texts (next n (more c) r) (next t (leaves u) s) w =
      gap-texts false n t (stretch false 0 u ∷ composed spelled r s) ∙ ap (λ v. t ++ (u ++ v)) (composed-texts r s (omega arith))
  composed-texts (next n (more c) r) (next t follows s) w =
      gap-texts false n t (stretch false 0 [] ∷ composed spelled r s) ∙ ap (λ v. t ++ v) (composed-texts r s (omega arith))

  -- along the second set's sections
  along-stays : (n : ℕ) (m : List Bool) (w : List C) (s : Row (List C) (Fate (List C))) → n ≤ length m → unmarked m ≤ length w →
      texts_along m w (times spelled n stays s) ≡ take (unmarked (take n m)) w ++ texts_along (drop n m) (drop (unmarked (take n m)) w) s
  along-stays zero m w s h l = refl
  along-stays (suc n) [] w s h l = absurd (omega arith)
  along-stays (suc n) (true ∷ m) w s h l = along-stays n m w s (omega arith) l
  along-stays (suc n) (false ∷ m) [] s h l = absurd (omega arith)
  along-stays (suc n) (false ∷ m) (c ∷ w) s h l = ap (λ u. c ∷ u) (along-stays n m w s (omega arith) (omega arith))

  along-follows : (n : ℕ) (m : List Bool) (w : List C) (s : Row (List C) (Fate (List C))) → n ≤ length m → unmarked m ≤ length w →
      texts_along m w (times spelled n follows s) ≡ texts_along (drop n m) (drop (unmarked (take n m)) w) s
  along-follows zero m w s h l = refl
  along-follows (suc n) [] w s h l = absurd (omega arith)
  along-follows (suc n) (true ∷ m) w s h l = along-follows n m w s (omega arith) l
  along-follows (suc n) (false ∷ m) [] s h l = absurd (omega arith)
  along-follows (suc n) (false ∷ m) (c ∷ w) s h l = along-follows n m w s (omega arith) (omega arith)

  along-prefix : (t : List C) (m : List Bool) (w : List C) (s : Row (List C) (Fate (List C))) → texts_along m w (in_front spelled t s) ≡ t ++ texts_along m w s
  along-prefix t m w (last u) = refl
  along-prefix t [] w (next u y s) = refl
  along-prefix t (true ∷ m) w (next u stays s) = append_assoc t u (texts_along m w s)
  along-prefix t (true ∷ m) w (next u (leaves v) s) = append_assoc t u (v ++ texts_along m w s)
  along-prefix t (true ∷ m) w (next u follows s) = append_assoc t u (texts_along m w s)
  along-prefix t (false ∷ m) w (next u stays s) = append_assoc t u (take 1 w ++ texts_along m (drop 1 w) s)
  along-prefix t (false ∷ m) w (next u (leaves v) s) = append_assoc t u (v ++ texts_along m (drop 1 w) s)
  along-prefix t (false ∷ m) w (next u follows s) = append_assoc t u (texts_along m (drop 1 w) s)

  unmarked-drop : (n : ℕ) (m : List Bool) (w : List C) → unmarked m ≤ length w → unmarked (drop n m) ≤ length (drop (unmarked (take n m)) w)
  unmarked-drop zero m w l = l
  unmarked-drop (suc n) [] w l = omega arith
  unmarked-drop (suc n) (true ∷ m) w l = unmarked-drop n m w l
  unmarked-drop (suc n) (false ∷ m) [] l = absurd (omega arith)
  unmarked-drop (suc n) (false ∷ m) (c ∷ w) l = unmarked-drop n m w (omega arith)

  along-between : (m : List Bool) (w : List C) (b : List (Section (List C))) → length m ≡ old_size b → unmarked m ≤ length w →
      texts_along m w (along_old spelled b) ≡ texts_between m w b
  along-between m w [] h l = refl
  along-between m w (Keep n ∷ b) h l =
      along-stays n m w (along_old spelled b) (omega arith) l ∙
      ap (λ u. take (unmarked (take n m)) w ++ u) (along-between (drop n m) (drop (unmarked (take n m)) w) b (omega (arith, length-drop n m)) (unmarked-drop n m w l))
  along-between m w (Replace zero t ∷ b) h l =
      along-prefix t m w (along_old spelled b) ∙ ap (λ u. t ++ u) (along-between m w b (omega arith) l)
  along-between [] w (Replace (suc n) t ∷ b) h l = absurd (omega arith)
  along-between (true ∷ m) w (Replace (suc n) t ∷ b) h l =
      ap (λ u. t ++ u) (along-follows n m w (along_old spelled b) (omega arith) l ∙
      along-between (drop n m) (drop (unmarked (take n m)) w) b (omega (arith, length-drop n m)) (unmarked-drop n m w l))
  along-between (false ∷ m) [] (Replace (suc n) t ∷ b) h l = absurd (omega arith)
  along-between (false ∷ m) (c ∷ w) (Replace (suc n) t ∷ b) h l =
      ap (λ u. t ++ u) (along-follows n m w (along_old spelled b) (omega arith) (omega arith) ∙
      along-between (drop n m) (drop (unmarked (take n m)) w) b (omega (arith, length-drop n m)) (unmarked-drop n m w (omega arith)))

  -- the first set's row
  marks-times : (n : ℕ) (r : Row ℕ (Origin C)) → row_marks (times counted n old r) ≡ replicate n true ++ row_marks r
  marks-times zero r = refl
  marks-times (suc n) r = ap (λ u. true ∷ u) (marks-times n r)

  marks-mores : (t : List C) (r : Row ℕ (Origin C)) → row_marks (mores spelled t r) ≡ replicate (length t) false ++ row_marks r
  marks-mores [] r = refl
  marks-mores (c ∷ t) r = ap (λ u. false ∷ u) (marks-mores t r)

  marks-prefix : (n : ℕ) (r : Row ℕ (Origin C)) → row_marks (in_front counted n r) ≡ row_marks r
  marks-prefix n (last m) = refl
  marks-prefix n (next m old r) = refl
  marks-prefix n (next m (new k c) r) = refl
  marks-prefix n (next m (more c) r) = refl

  row_marks-along : (a : List (Section (List C))) → row_marks (along_new spelled a) ≡ kept_marks (inverted (lengths spelled a))
  row_marks-along [] = refl
  row_marks-along (Keep n ∷ a) = marks-times n (along_new spelled a) ∙ ap (λ u. replicate n true ++ u) (row_marks-along a)
  row_marks-along (Replace n [] ∷ a) = marks-prefix n (along_new spelled a) ∙ row_marks-along a
  row_marks-along (Replace n (c ∷ t) ∷ a) = ap (λ u. false ∷ u) (marks-mores t (along_new spelled a) ∙ ap (λ u. replicate (length t) false ++ u) (row_marks-along a))

  fresh-times : (n : ℕ) (r : Row ℕ (Origin C)) → row_fresh (times counted n old r) ≡ row_fresh r
  fresh-times zero r = refl
  fresh-times (suc n) r = fresh-times n r

  fresh-mores : (t : List C) (r : Row ℕ (Origin C)) → row_fresh (mores spelled t r) ≡ t ++ row_fresh r
  fresh-mores [] r = refl
  fresh-mores (c ∷ t) r = ap (λ u. c ∷ u) (fresh-mores t r)

  fresh-prefix : (n : ℕ) (r : Row ℕ (Origin C)) → row_fresh (in_front counted n r) ≡ row_fresh r
  fresh-prefix n (last m) = refl
  fresh-prefix n (next m old r) = refl
  fresh-prefix n (next m (new k c) r) = refl
  fresh-prefix n (next m (more c) r) = refl

  row_fresh-along : (a : List (Section (List C))) → row_fresh (along_new spelled a) ≡ written a
  row_fresh-along [] = refl
  row_fresh-along (Keep n ∷ a) = fresh-times n (along_new spelled a) ∙ row_fresh-along a
  row_fresh-along (Replace n [] ∷ a) = fresh-prefix n (along_new spelled a) ∙ row_fresh-along a
  row_fresh-along (Replace n (c ∷ t) ∷ a) = ap (λ u. c ∷ u) (fresh-mores t (along_new spelled a) ∙ ap (λ u. t ++ u) (row_fresh-along a))

  pub unmarked-kept_marks : (a : List (Section (List C))) → unmarked (kept_marks (inverted (lengths spelled a))) ≡ length (written a)
  unmarked-kept_marks [] = refl
  unmarked-kept_marks (Keep n ∷ a) =
      omega (arith, unmarked-append (replicate n true) (kept_marks (inverted (lengths spelled a))), unmarked-true n, unmarked-kept_marks a)
  unmarked-kept_marks (Replace n t ∷ a) =
      omega (arith, unmarked-append (replicate (length t) false) (kept_marks (inverted (lengths spelled a))), unmarked-false (length t), unmarked-kept_marks a, length-append t (written a))

  pub written-compose : (a b : List (Section (List C))) → new_size spelled a ≡ old_size b →
      written (compose spelled a b) ≡ texts_between (kept_marks (inverted (lengths spelled a))) (written a) b
  written-compose a b h =
      written-sections (composed spelled (along_new spelled a) (along_old spelled b)) ∙
      (composed-texts (along_new spelled a) (along_old spelled b) (width-along_new a ∙ h ∙ sym (width-along_old spelled b)) ∙
      rw (row_marks-along a, row_fresh-along a)
      (along-between (kept_marks (inverted (lengths spelled a))) (written a) b
      (length-kept_marks (inverted (lengths spelled a)) ∙ (old_size-turned (lengths spelled a) ∙ (new_size-lengths spelled a ∙ h)))
      (omega (arith, unmarked-kept_marks a))))
