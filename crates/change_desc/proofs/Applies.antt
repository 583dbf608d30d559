-- What sections, pieces and rows give of a text, and the three laws.
use Rattle.std.proofs.Common.{◌≡◌, ℕ, zero, suc, ◌+◌, ◌-◌, ◌≤◌, Bool, true, false, cond, ◌&&◌, List, [], ◌∷◌, ◌++◌, length, take, drop, refl, sym, ap, ◌∙◌, append_assoc, append-nil, arith, length-take-le, length-drop, take-append-drop, take-add, drop-drop, one-add}
use Rattle.std.proofs.lemmas.List.{take_at, drop_at}
use Rattle.change_desc.specs.declared.section.Section.{Section}
use Rattle.change_desc.specs.declared.section.Section.TheVariants.{Keep, Replace}
use Rattle.change_desc.specs.Sections.{Texts, spelled, counted, is_blank, put, normal, apply, invert, old_size, new_size}
use Rattle.change_desc.specs.Columns.{width, Row, last, next, Fate, stays, leaves, follows, Origin, old, new, more, in_front, times, mores, spell, along_old, along_new}
use Rattle.change_desc.specs.Pieces.{Piece, single, stretch, closed, gather, sections}
use Rattle.change_desc.specs.Compose.{is_cut_new, is_cut_old, count_of, between, in_gap, composed, compose}

module _ {C : Type 0} where
  pub invert-apply : (s : List (Section (List C))) (doc : List C) → old_size s ≡ length doc → apply (invert s doc) (apply s doc) ≡ doc
  invert-apply [] [] h = refl
  invert-apply [] (c ∷ doc) h = absurd (omega arith)
  invert-apply (Keep n ∷ s) doc h =
      let l : length (take n doc) ≡ n = length-take-le n doc (omega arith) in
      let e : old_size s ≡ length (drop n doc) = omega (arith, length-drop n doc) in
      rw (take_at (take n doc) (apply s (drop n doc)) n l, drop_at (take n doc) (apply s (drop n doc)) n l, invert-apply s (drop n doc) e)
      (take-append-drop n doc)
  invert-apply (Replace n t ∷ s) doc h =
      let e : old_size s ≡ length (drop n doc) = omega (arith, length-drop n doc) in
      rw (drop_at t (apply s (drop n doc)) (length t) refl, invert-apply s (drop n doc) e) (take-append-drop n doc)

  -- the normal form gives the same text
  pub apply-put : (x : Section (List C)) (s : List (Section (List C))) (doc : List C) → apply (put spelled x s) doc ≡ apply (x ∷ s) doc
  apply-put x [] doc = refl
  apply-put (Keep m) (Keep n ∷ s) doc =
      rw (take-add m n doc, drop-drop n m doc) (append_assoc (take m doc) (take n (drop m doc)) (apply s (drop (m + n) doc)))
  apply-put (Keep m) (Replace zero u ∷ s) doc = refl
  apply-put (Keep m) (Replace (suc n) [] ∷ s) doc = refl
  apply-put (Keep m) (Replace (suc n) (c ∷ u) ∷ s) doc = refl
  apply-put (Replace zero t) (Keep n ∷ s) doc = refl
  apply-put (Replace (suc m) []) (Keep n ∷ s) doc = refl
  apply-put (Replace (suc m) (c ∷ t)) (Keep n ∷ s) doc = refl
  apply-put (Replace zero t) (Replace zero u ∷ s) doc = append_assoc t u (apply s doc)
  apply-put (Replace zero t) (Replace (suc n) [] ∷ s) doc = refl
  apply-put (Replace zero t) (Replace (suc n) (c ∷ u) ∷ s) doc = refl
  apply-put (Replace (suc m) []) (Replace zero u ∷ s) doc = refl
  apply-put (Replace (suc m) []) (Replace (suc n) [] ∷ s) doc = rw (drop-drop (suc n) (suc m) doc) refl
  apply-put (Replace (suc m) []) (Replace (suc n) (c ∷ u) ∷ s) doc = refl
  apply-put (Replace (suc m) (c ∷ t)) (Replace zero u ∷ s) doc = refl
  apply-put (Replace (suc m) (c ∷ t)) (Replace (suc n) [] ∷ s) doc = refl
  apply-put (Replace (suc m) (c ∷ t)) (Replace (suc n) (d ∷ u) ∷ s) doc = refl

  pub apply-blank : (x : Section (List C)) (s : List (Section (List C))) (doc : List C) → is_blank spelled x ≡ true → apply (x ∷ s) doc ≡ apply s doc
  apply-blank (Keep zero) s doc h = refl
  apply-blank (Keep (suc n)) s doc h = cc
  apply-blank (Replace zero []) s doc h = refl
  apply-blank (Replace zero (c ∷ t)) s doc h = cc
  apply-blank (Replace (suc n) t) s doc h = cc

  pub apply-cond : (b : Bool) (s t u : List (Section (List C))) (doc : List C) → (b ≡ true → apply u doc ≡ apply s doc) → apply u doc ≡ apply t doc → apply (cond b s t) doc ≡ apply u doc
  apply-cond true s t u doc h k = sym (h refl)
  apply-cond false s t u doc h k = sym k

  pub apply-normal : (s : List (Section (List C))) (doc : List C) → apply (normal spelled s) doc ≡ apply s doc
  apply-normal [] doc = refl
  apply-normal (x ∷ s) doc =
      apply-cond (is_blank spelled x) (normal spelled s) (put spelled x (normal spelled s)) (x ∷ s) doc
      (λ b. apply-blank x s doc b ∙ sym (apply-normal s doc))
      (sym (apply-put x (normal spelled s) doc ∙ apply-cons x (normal spelled s) s doc (apply-normal s)))
    where
      apply-cons : (x : Section (List C)) (s t : List (Section (List C))) (doc : List C) → ((d : List C) → apply s d ≡ apply t d) → apply (x ∷ s) doc ≡ apply (x ∷ t) doc
      apply-cons (Keep n) s t doc h = ap (λ r. take n doc ++ r) (h (drop n doc))
      apply-cons (Replace n u) s t doc h = ap (λ r. u ++ r) (h (drop n doc))

  -- the text that pieces give
  abbrev pub replay : List (Piece (List C)) → List C → List C
  replay [] doc = []
  replay (single (Keep n) ∷ ps) doc = take n doc ++ replay ps (drop n doc)
  replay (single (Replace n t) ∷ ps) doc = t ++ replay ps (drop n doc)
  replay (stretch _ n t ∷ ps) doc = t ++ replay ps (drop n doc)

  pub apply-gather : (ps : List (Piece (List C))) (doc : List C) → apply (closed spelled (gather spelled ps)) doc ≡ replay ps doc
  apply-gather [] doc = refl
  apply-gather (single (Keep zero) ∷ ps) doc = apply-gather ps doc
  apply-gather (single (Keep (suc n)) ∷ ps) doc = ap (λ r. take (suc n) doc ++ r) (apply-gather ps (drop (suc n) doc))
  apply-gather (single (Replace zero []) ∷ ps) doc = apply-gather ps doc
  apply-gather (single (Replace zero (c ∷ t)) ∷ ps) doc = ap (λ r. (c ∷ t) ++ r) (apply-gather ps doc)
  apply-gather (single (Replace (suc n) t) ∷ ps) doc = ap (λ r. t ++ r) (apply-gather ps (drop (suc n) doc))
  apply-gather (stretch true n t ∷ ps) doc =
      rw (← (drop-drop (gather spelled ps).count n doc), append_assoc t (gather spelled ps).text (apply (gather spelled ps).rest (drop (gather spelled ps).count (drop n doc))), apply-gather ps (drop n doc)) refl
  apply-gather (stretch false n t ∷ ps) doc =
      rw (← (drop-drop (gather spelled ps).count n doc), append_assoc t (gather spelled ps).text (apply (gather spelled ps).rest (drop (gather spelled ps).count (drop n doc))), apply-gather ps (drop n doc)) refl

  pub apply-sections : (ps : List (Piece (List C))) (doc : List C) → apply (sections spelled ps) doc ≡ replay ps doc
  apply-sections ps doc = apply-normal (closed spelled (gather spelled ps)) doc ∙ apply-gather ps doc

  -- the text that a row along the new text gives
  abbrev pub given : Origin C → List C → List C
  given old doc = take 1 doc
  given (new n c) doc = c ∷ []
  given (more c) doc = c ∷ []

  abbrev pub run_new : Row ℕ (Origin C) → List C → List C
  run_new (last n) doc = []
  run_new (next n x r) doc = given x (drop n doc) ++ run_new r (drop (count_of x) (drop n doc))

  -- the text that a row along the old text gives
  abbrev pub kept_or_put : Fate (List C) → List C → List C
  kept_or_put stays doc = take 1 doc
  kept_or_put (leaves t) doc = t
  kept_or_put follows doc = []

  abbrev pub run_old : Row (List C) (Fate (List C)) → List C → List C
  run_old (last t) doc = t
  run_old (next t y r) doc = t ++ (kept_or_put y doc ++ run_old r (drop 1 doc))

  -- how many old characters a row takes
  abbrev pub taken_by : Row ℕ (Origin C) → ℕ
  taken_by (last n) = n
  taken_by (next n x r) = n + (count_of x + taken_by r)

  replay-between : (b : Bool) (x : Origin C) (y : Fate (List C)) (ps : List (Piece (List C))) (r : Row ℕ (Origin C)) (s : Row (List C) (Fate (List C))) (doc : List C) →
      count_of x ≤ length doc → replay ps (drop (count_of x) doc) ≡ run_old s (run_new r (drop (count_of x) doc)) →
      replay (between spelled b x y ∷ ps) doc ≡ kept_or_put y (given x doc ++ run_new r (drop (count_of x) doc)) ++ run_old s (drop 1 (given x doc ++ run_new r (drop (count_of x) doc)))
  replay-between b old y ps r s [] l h = absurd (omega arith)
  replay-between b old stays ps r s (c ∷ doc) l h = ap (λ u. c ∷ u) h
  replay-between b old (leaves t) ps r s (c ∷ doc) l h = ap (λ u. t ++ u) h
  replay-between b old follows ps r s (c ∷ doc) l h = h
  replay-between b (new n c) stays ps r s doc l h = ap (λ u. c ∷ u) h
  replay-between b (new n c) (leaves t) ps r s doc l h = ap (λ u. t ++ u) h
  replay-between b (new n c) follows ps r s doc l h = h
  replay-between b (more c) stays ps r s doc l h = ap (λ u. c ∷ u) h
  replay-between b (more c) (leaves t) ps r s doc l h = ap (λ u. t ++ u) h
  replay-between b (more c) follows ps r s doc l h = h

  replay-gap : (b : Bool) (n : ℕ) (t : List C) (ps : List (Piece (List C))) (doc : List C) → replay (in_gap spelled b n t ++ ps) doc ≡ t ++ replay ps (drop n doc)
  replay-gap true n t ps doc = refl
  replay-gap false n t ps doc = refl

  pub replay-composed : (r : Row ℕ (Origin C)) (s : Row (List C) (Fate (List C))) (doc : List C) → width r ≡ width s → taken_by r ≡ length doc →
      replay (composed spelled r s) doc ≡ run_old s (run_new r doc)
  replay-composed (last n) (last t) doc w l = append-nil t
  replay-composed (last n) (next t y s) doc w l = cc
  replay-composed (next n x r) (last t) doc w l = cc
  replay-composed (next n x r) (next t y s) doc w l =
      let d : length (drop n doc) ≡ length doc - n = length-drop n doc in
      let e : length (drop (count_of x) (drop n doc)) ≡ length (drop n doc) - count_of x = length-drop (count_of x) (drop n doc) in
      let v : width r ≡ width s = omega arith in
      let k : count_of x ≤ length (drop n doc) = omega arith in
      let m : taken_by r ≡ length (drop (count_of x) (drop n doc)) = omega arith in
      replay-gap (is_cut_new x && is_cut_old y) n t (between spelled (is_cut_new x && is_cut_old y) x y ∷ composed spelled r s) doc ∙
      ap (λ u. t ++ u) (replay-between (is_cut_new x && is_cut_old y) x y (composed spelled r s) r s (drop n doc) k (replay-composed r s (drop (count_of x) (drop n doc)) v m))

  take-nil : (n : ℕ) → take {A = C} n [] ≡ []
  take-nil zero = refl
  take-nil (suc n) = refl

  drop-nil : (n : ℕ) → drop {A = C} n [] ≡ []
  drop-nil zero = refl
  drop-nil (suc n) = refl

  run_new-times : (n : ℕ) (r : Row ℕ (Origin C)) (doc : List C) → run_new (times counted n old r) doc ≡ take n doc ++ run_new r (drop n doc)
  run_new-times zero r doc = refl
  run_new-times (suc n) r [] = rw (run_new-times n r [], take-nil n, drop-nil n) refl
  run_new-times (suc n) r (c ∷ doc) = ap (λ u. c ∷ u) (run_new-times n r doc)

  run_new-mores : (t : List C) (r : Row ℕ (Origin C)) (doc : List C) → run_new (mores spelled t r) doc ≡ t ++ run_new r doc
  run_new-mores [] r doc = refl
  run_new-mores (c ∷ t) r doc = ap (λ u. c ∷ u) (run_new-mores t r doc)

  run_new-in_front : (n : ℕ) (r : Row ℕ (Origin C)) (doc : List C) → run_new (in_front counted n r) doc ≡ run_new r (drop n doc)
  run_new-in_front n (last m) doc = refl
  run_new-in_front n (next m x r) doc = rw (drop-drop m n doc) refl

  pub run_new-along : (s : List (Section (List C))) (doc : List C) → run_new (along_new spelled s) doc ≡ apply s doc
  run_new-along [] doc = refl
  run_new-along (Keep n ∷ s) doc = run_new-times n (along_new spelled s) doc ∙ ap (λ u. take n doc ++ u) (run_new-along s (drop n doc))
  run_new-along (Replace n [] ∷ s) doc = run_new-in_front n (along_new spelled s) doc ∙ run_new-along s (drop n doc)
  run_new-along (Replace n (c ∷ t) ∷ s) doc =
      ap (λ u. c ∷ u) (run_new-mores t (along_new spelled s) (drop n doc) ∙ ap (λ u. t ++ u) (run_new-along s (drop n doc)))

  run_old-stays : (n : ℕ) (r : Row (List C) (Fate (List C))) (doc : List C) → run_old (times spelled n stays r) doc ≡ take n doc ++ run_old r (drop n doc)
  run_old-stays zero r doc = refl
  run_old-stays (suc n) r [] = rw (run_old-stays n r [], take-nil n, drop-nil n) refl
  run_old-stays (suc n) r (c ∷ doc) = ap (λ u. c ∷ u) (run_old-stays n r doc)

  run_old-follows : (n : ℕ) (r : Row (List C) (Fate (List C))) (doc : List C) → run_old (times spelled n follows r) doc ≡ run_old r (drop n doc)
  run_old-follows zero r doc = refl
  run_old-follows (suc n) r [] = rw (run_old-follows n r [], drop-nil n) refl
  run_old-follows (suc n) r (c ∷ doc) = run_old-follows n r doc

  run_old-in_front : (t : List C) (r : Row (List C) (Fate (List C))) (doc : List C) → run_old (in_front spelled t r) doc ≡ t ++ run_old r doc
  run_old-in_front t (last u) doc = refl
  run_old-in_front t (next u y r) doc = append_assoc t u (kept_or_put y doc ++ run_old r (drop 1 doc))

  pub run_old-along : (s : List (Section (List C))) (doc : List C) → run_old (along_old spelled s) doc ≡ apply s doc
  run_old-along [] doc = refl
  run_old-along (Keep n ∷ s) doc = run_old-stays n (along_old spelled s) doc ∙ ap (λ u. take n doc ++ u) (run_old-along s (drop n doc))
  run_old-along (Replace zero t ∷ s) doc = run_old-in_front t (along_old spelled s) doc ∙ ap (λ u. t ++ u) (run_old-along s doc)
  run_old-along (Replace (suc n) t ∷ s) doc =
      ap (λ u. t ++ u) (run_old-follows n (along_old spelled s) (drop 1 doc) ∙ rw (drop-drop n 1 doc, one-add n) (run_old-along s (drop (suc n) doc)))

pub width-times : {G D E : Type 0} (X : Texts G E) (n : ℕ) (c : D) (r : Row G D) → width (times X n c r) ≡ n + width r
width-times X zero c r = omega arith
width-times X (suc n) c r = omega (arith, width-times X n c r)

pub width-in_front : {G D E : Type 0} (X : Texts G E) (g : G) (r : Row G D) → width (in_front X g r) ≡ width r
width-in_front X g (last h) = refl
width-in_front X g (next h c r) = refl

module _ {T C : Type 0} (X : Texts T C) where
  pub width-mores : (cs : List C) (r : Row ℕ (Origin C)) → width (mores X cs r) ≡ length cs + width r
  width-mores [] r = omega arith
  width-mores (c ∷ cs) r = omega (arith, width-mores cs r)

  pub width-spell : (n : ℕ) (cs : List C) (r : Row ℕ (Origin C)) → width (spell X n cs r) ≡ length cs + width r
  width-spell n [] r = rw (width-in_front counted n r) (omega arith)
  width-spell n (c ∷ cs) r = omega (arith, width-mores cs r)

  pub width-along_old : (s : List (Section T)) → width (along_old X s) ≡ old_size s
  width-along_old [] = refl
  width-along_old (Keep n ∷ s) = omega (arith, width-times X n stays (along_old X s), width-along_old s)
  width-along_old (Replace zero t ∷ s) = rw (width-in_front X t (along_old X s)) (omega (arith, width-along_old s))
  width-along_old (Replace (suc n) t ∷ s) = omega (arith, width-times X n follows (along_old X s), width-along_old s)

module _ {C : Type 0} where
  pub width-along_new : (s : List (Section (List C))) → width (along_new spelled s) ≡ new_size spelled s
  width-along_new [] = refl
  width-along_new (Keep n ∷ s) = omega (arith, width-times counted n old (along_new spelled s), width-along_new s)
  width-along_new (Replace n t ∷ s) = omega (arith, width-spell spelled n t (along_new spelled s), width-along_new s)

  taken_by-times : (n : ℕ) (r : Row ℕ (Origin C)) → taken_by (times counted n old r) ≡ n + taken_by r
  taken_by-times zero r = omega arith
  taken_by-times (suc n) r = omega (arith, taken_by-times n r)

  taken_by-mores : (t : List C) (r : Row ℕ (Origin C)) → taken_by (mores spelled t r) ≡ taken_by r
  taken_by-mores [] r = refl
  taken_by-mores (c ∷ t) r = omega (arith, taken_by-mores t r)

  taken_by-spell : (n : ℕ) (t : List C) (r : Row ℕ (Origin C)) → taken_by (spell spelled n t r) ≡ n + taken_by r
  taken_by-spell n [] (last m) = refl
  taken_by-spell n [] (next m x r) = omega arith
  taken_by-spell n (c ∷ t) r = omega (arith, taken_by-mores t r)

  pub taken_by-along : (s : List (Section (List C))) → taken_by (along_new spelled s) ≡ old_size s
  taken_by-along [] = refl
  taken_by-along (Keep n ∷ s) = omega (arith, taken_by-times n (along_new spelled s), taken_by-along s)
  taken_by-along (Replace n t ∷ s) = omega (arith, taken_by-spell n t (along_new spelled s), taken_by-along s)

  -- composing is applying one after the other
  pub apply-compose : (a b : List (Section (List C))) (doc : List C) → old_size a ≡ length doc → new_size spelled a ≡ old_size b →
      apply (compose spelled a b) doc ≡ apply b (apply a doc)
  apply-compose a b doc l m =
      apply-sections (composed spelled (along_new spelled a) (along_old spelled b)) doc ∙
      replay-composed (along_new spelled a) (along_old spelled b) doc (width-along_new a ∙ m ∙ sym (width-along_old spelled b)) (taken_by-along a ∙ l) ∙
      rw (run_new-along a doc) (run_old-along b (apply a doc))
