-- Mapping one set over another gives their merge.
use Rattle.std.proofs.Common.{◌≡◌, ℕ, zero, suc, ◌+◌, Bool, true, false, cond, ◌&&◌, List, [], ◌∷◌, ◌++◌, length, take, refl, sym, ap, ◌∙◌, append_assoc, append-nil, arith, length-append, add-zero}
use Rattle.std.proofs.lemmas.List.{take_all, take_at, drop_at}
use Rattle.change_desc.specs.declared.section.Section.{Section}
use Rattle.change_desc.specs.declared.kind.Kind.TheVariants.{Keeps, Deletes, Replaces}
use Rattle.change_desc.specs.declared.section.Section.TheVariants.{Keep, Replace}
use Rattle.change_desc.specs.Sections.{Texts, spelled, counted, is_empty_text, is_blank, is_zero, kind, joins, joined, put, normal, apply, old_size, new_size, lengths}
use Rattle.change_desc.specs.Columns.{width, Row, last, next, Fate, stays, leaves, follows, in_front, times, along_old}
use Rattle.change_desc.specs.Pieces.{Piece, single, stretch, Open, closed, gather, sections}
use Rattle.change_desc.specs.Compose.{text_of, compose}
use Rattle.change_desc.specs.Map.{ordered, staying, merged, merge, inserted, character, text_size, mapped, map_over}
use Rattle.change_desc.proofs.Applies.{replay, apply-sections, run_old, run_old-along, width-along_old, apply-compose}

module _ {C : Type 0} where
  -- the same row with lengths for texts
  abbrev pub fate_length : Fate (List C) → Fate ℕ
  fate_length stays = stays
  fate_length (leaves t) = leaves (length t)
  fate_length follows = follows

  abbrev pub row_length : Row (List C) (Fate (List C)) → Row ℕ (Fate ℕ)
  row_length (last t) = last (length t)
  row_length (next t x r) = next (length t) (fate_length x) (row_length r)

  row_length-times : (n : ℕ) (x : Fate (List C)) (r : Row (List C) (Fate (List C))) → row_length (times spelled n x r) ≡ times counted n (fate_length x) (row_length r)
  row_length-times zero x r = refl
  row_length-times (suc n) x r = ap (λ q. next 0 (fate_length x) q) (row_length-times n x r)

  row_length-in_front : (t : List C) (r : Row (List C) (Fate (List C))) → row_length (in_front spelled t r) ≡ in_front counted (length t) (row_length r)
  row_length-in_front t (last u) = rw (length-append t u) refl
  row_length-in_front t (next u x r) = rw (length-append t u) refl

  pub along-lengths : (s : List (Section (List C))) → along_old counted (lengths spelled s) ≡ row_length (along_old spelled s)
  along-lengths [] = refl
  along-lengths (Keep n ∷ s) = ap (times counted n stays) (along-lengths s) ∙ sym (row_length-times n stays (along_old spelled s))
  along-lengths (Replace zero t ∷ s) = ap (in_front counted (length t)) (along-lengths s) ∙ sym (row_length-in_front t (along_old spelled s))
  along-lengths (Replace (suc n) t ∷ s) =
      ap (λ q. next 0 (leaves (length t)) q) (ap (times counted n follows) (along-lengths s) ∙ sym (row_length-times n follows (along_old spelled s)))

  -- what A alone leaves of a character
  abbrev pub own : Fate (List C) → C → List C
  own stays c = c ∷ []
  own (leaves t) c = []
  own follows c = []

  run_old-step : (i : List C) (x : Fate (List C)) (r : Row (List C) (Fate (List C))) (c : C) (doc : List C) →
      run_old (next i x r) (c ∷ doc) ≡ (i ++ text_of spelled x) ++ (own x c ++ run_old r doc)
  run_old-step i stays r c doc = rw (append-nil i) refl
  run_old-step i (leaves t) r c doc = sym (append_assoc i t (run_old r doc))
  run_old-step i follows r c doc = rw (append-nil i) refl

  length-started : (i : List C) (x : Fate (List C)) → length (i ++ text_of spelled x) ≡ length i + text_size (fate_length x)
  length-started i stays = length-append i []
  length-started i (leaves t) = length-append i t
  length-started i follows = length-append i []

  replay-character : (x y : Fate (List C)) (c : C) (ps : List (Piece (List C))) (rest : List C) →
      replay (character spelled (fate_length x) y ++ ps) (own x c ++ rest) ≡ staying x y c ++ replay ps rest
  replay-character stays stays c ps rest = refl
  replay-character stays (leaves t) c ps rest = refl
  replay-character stays follows c ps rest = refl
  replay-character (leaves t) y c ps rest = refl
  replay-character follows y c ps rest = refl

  replay-inserted : (j : List C) (y : Fate (List C)) (ps : List (Piece (List C))) (doc : List C) → replay (inserted spelled j y ++ ps) doc ≡ (j ++ text_of spelled y) ++ replay ps doc
  replay-inserted j stays ps doc = rw (append-nil j) refl
  replay-inserted j (leaves t) ps doc = sym (append_assoc j t (replay ps doc))
  replay-inserted j follows ps doc = rw (append-nil j) refl

  -- what A gives at a place is kept, and what B gives is inserted
  replay-ordered : (before : Bool) (u : List C) (n : ℕ) (j : List C) (y : Fate (List C)) (ps : List (Piece (List C))) (rest : List C) → length u ≡ n →
      replay (ordered before (single (Keep n) ∷ []) (inserted spelled j y) ++ ps) (u ++ rest) ≡ ordered before u (j ++ text_of spelled y) ++ replay ps rest
  replay-ordered false u n j y ps rest l =
      rw (take_at u rest n l, drop_at u rest n l, replay-inserted j y ps rest) (sym (append_assoc u (j ++ text_of spelled y) (replay ps rest)))
  replay-ordered true u n j y ps rest l =
      rw (append_assoc (inserted spelled j y) (single (Keep n) ∷ []) ps, replay-inserted j y (single (Keep n) ∷ ps) (u ++ rest), take_at u rest n l, drop_at u rest n l)
      (sym (append_assoc (j ++ text_of spelled y) u (replay ps rest)))

  pub replay-mapped : (before : Bool) (r s : Row (List C) (Fate (List C))) (doc : List C) → width r ≡ length doc → width s ≡ length doc →
      replay (mapped spelled before (row_length r) s) (run_old r doc) ≡ merged before r s doc
  replay-mapped false (last i) (last j) doc v w = rw (append-nil j, take_all (length i) i (omega arith)) refl
  replay-mapped true (last i) (last j) doc v w = rw (append-nil (take (length i) i), take_all (length i) i (omega arith)) refl
  replay-mapped before (last i) (next j y s) doc v w = absurd (omega arith)
  replay-mapped before (next i x r) (last j) doc v w = absurd (omega arith)
  replay-mapped before (next i x r) (next j y s) [] v w = absurd (omega arith)
  replay-mapped before (next i x r) (next j y s) (c ∷ doc) v w =
      rw (
        run_old-step i x r c doc,
        replay-ordered before (i ++ text_of spelled x) (length i + text_size (fate_length x)) j y
            (character spelled (fate_length x) y ++ mapped spelled before (row_length r) s) (own x c ++ run_old r doc) (length-started i x),
        replay-character x y c (mapped spelled before (row_length r) s) (run_old r doc),
        replay-mapped before r s doc (omega arith) (omega arith),
      )
      refl

  -- who stands first may be said either way
  staying-swap : (x y : Fate (List C)) (c : C) → staying x y c ≡ staying y x c
  staying-swap stays stays c = refl
  staying-swap stays (leaves t) c = refl
  staying-swap stays follows c = refl
  staying-swap (leaves t) stays c = refl
  staying-swap (leaves t) (leaves u) c = refl
  staying-swap (leaves t) follows c = refl
  staying-swap follows stays c = refl
  staying-swap follows (leaves t) c = refl
  staying-swap follows follows c = refl

  pub merged-swap : (r s : Row (List C) (Fate (List C))) (doc : List C) → merged false r s doc ≡ merged true s r doc
  merged-swap (last i) (last j) doc = refl
  merged-swap (last i) (next j y s) doc = refl
  merged-swap (next i x r) (last j) doc = refl
  merged-swap (next i x r) (next j y s) [] = refl
  merged-swap (next i x r) (next j y s) (c ∷ doc) = rw (staying-swap x y c, merged-swap r s doc) refl

-- how long the old text of what is made is
is_zero-true : (n : ℕ) → is_zero n ≡ true → n ≡ 0
is_zero-true zero h = refl
is_zero-true (suc n) h = cc

and-left : (a b : Bool) → (a && b) ≡ true → a ≡ true
and-left true b h = refl
and-left false b h = h

-- how long the text is that a row along the old text gives
abbrev pub given_size : Row ℕ (Fate ℕ) → ℕ
given_size (last i) = i
given_size (next i stays r) = i + suc (given_size r)
given_size (next i (leaves n) r) = i + (n + given_size r)
given_size (next i follows r) = i + given_size r

module _ {T C : Type 0} (X : Texts T C) where
  pub old_size-joined : (x y : Section T) (s : List (Section T)) → joins (kind X x) (kind X y) ≡ true → old_size (joined X x y ∷ s) ≡ old_size (x ∷ y ∷ s)
  old_size-joined (Keep m) (Keep n) s h = omega arith
  old_size-joined (Replace m t) (Replace n u) s h = omega arith
  old_size-joined (Keep m) (Replace zero u) s h = cc
  old_size-joined (Keep m) (Replace (suc n) u) s h = keep_apart (is_empty_text X u) h
    where
      keep_apart : {P : Type 0} (b : Bool) → joins Keeps (cond b Deletes Replaces) ≡ true → P
      keep_apart true h = cc
      keep_apart false h = cc
  old_size-joined (Replace zero t) (Keep n) s h = cc
  old_size-joined (Replace (suc m) t) (Keep n) s h = apart_keep (is_empty_text X t) h
    where
      apart_keep : {P : Type 0} (b : Bool) → joins (cond b Deletes Replaces) Keeps ≡ true → P
      apart_keep true h = cc
      apart_keep false h = cc

  pub old_size-put : (x : Section T) (s : List (Section T)) → old_size (put X x s) ≡ old_size (x ∷ s)
  old_size-put x [] = refl
  old_size-put x (y ∷ s) = cases (joins (kind X x) (kind X y)) (old_size-joined x y s)
    where
      cases : (b : Bool) → (b ≡ true → old_size (joined X x y ∷ s) ≡ old_size (x ∷ y ∷ s)) → old_size (cond b (joined X x y ∷ s) (x ∷ y ∷ s)) ≡ old_size (x ∷ y ∷ s)
      cases true h = h refl
      cases false h = refl

  old_size-blank : (x : Section T) (s : List (Section T)) → is_blank X x ≡ true → old_size (x ∷ s) ≡ old_size s
  old_size-blank (Keep n) s h = omega (arith, is_zero-true n h)
  old_size-blank (Replace n t) s h = omega (arith, is_zero-true n (and-left (is_zero n) (is_empty_text X t) h))

  old_size-skip : (b : Bool) (x : Section T) (r s : List (Section T)) → (b ≡ true → old_size (x ∷ r) ≡ old_size r) → old_size r ≡ old_size s →
      old_size (cond b r (put X x r)) ≡ old_size (x ∷ s)
  old_size-skip true (Keep n) r s h e = omega (arith, h refl)
  old_size-skip true (Replace n t) r s h e = omega (arith, h refl)
  old_size-skip false (Keep n) r s h e = rw (old_size-put (Keep n) r) (omega arith)
  old_size-skip false (Replace n t) r s h e = rw (old_size-put (Replace n t) r) (omega arith)

  pub old_size-normal : (s : List (Section T)) → old_size (normal X s) ≡ old_size s
  old_size-normal [] = refl
  old_size-normal (x ∷ s) = old_size-skip (is_blank X x) x (normal X s) s (old_size-blank x (normal X s)) (old_size-normal s)

  abbrev pub pieces_size : List (Piece T) → ℕ
  pieces_size [] = 0
  pieces_size (single (Keep n) ∷ ps) = n + pieces_size ps
  pieces_size (single (Replace n t) ∷ ps) = n + pieces_size ps
  pieces_size (stretch b n t ∷ ps) = n + pieces_size ps

  add-single : (b : Bool) (x : Section T) (o : Open T) (n : ℕ) → (b ≡ true → n ≡ 0) → old_size (x ∷ []) ≡ n →
      old_size (closed X (cond b o (record { count = 0; text = X.none; rest = x ∷ closed X o }))) ≡ n + old_size (closed X o)
  add-single true x o n h e = omega (arith, h refl)
  add-single false (Keep m) o n h e = omega arith
  add-single false (Replace m t) o n h e = omega arith

  pub old_size-gather : (ps : List (Piece T)) → old_size (closed X (gather X ps)) ≡ pieces_size ps
  old_size-gather [] = refl
  old_size-gather (single (Keep n) ∷ ps) =
      omega (arith, old_size-gather ps, add-single (is_zero n) (Keep n) (gather X ps) n (is_zero-true n) (add-zero n))
  old_size-gather (single (Replace n t) ∷ ps) =
      omega (
        arith,
        old_size-gather ps,
        add-single (is_zero n && is_empty_text X t) (Replace n t) (gather X ps) n
            (λ h. is_zero-true n (and-left (is_zero n) (is_empty_text X t) h)) (add-zero n),
      )
  old_size-gather (stretch true n t ∷ ps) = omega (arith, old_size-gather ps)
  old_size-gather (stretch false n t ∷ ps) = omega (arith, old_size-gather ps)

  pub old_size-sections : (ps : List (Piece T)) → old_size (sections X ps) ≡ pieces_size ps
  old_size-sections ps = old_size-normal (closed X (gather X ps)) ∙ old_size-gather ps

  pieces_size-inserted : (j : T) (y : Fate T) (ps : List (Piece T)) → pieces_size (inserted X j y ++ ps) ≡ pieces_size ps
  pieces_size-inserted j stays ps = omega arith
  pieces_size-inserted j (leaves t) ps = omega arith
  pieces_size-inserted j follows ps = omega arith

  pieces_size-ordered : (before : Bool) (n : ℕ) (j : T) (y : Fate T) (ps : List (Piece T)) →
      pieces_size (ordered before (single (Keep n) ∷ []) (inserted X j y) ++ ps) ≡ n + pieces_size ps
  pieces_size-ordered false n j y ps = omega (arith, pieces_size-inserted j y ps)
  pieces_size-ordered true n j y ps =
      rw (append_assoc (inserted X j y) (single (Keep n) ∷ []) ps) (pieces_size-inserted j y (single (Keep n) ∷ ps))

  pub pieces_size-mapped : (before : Bool) (r : Row ℕ (Fate ℕ)) (s : Row T (Fate T)) → width r ≡ width s → pieces_size (mapped X before r s) ≡ given_size r
  pieces_size-mapped false (last i) (last j) w = omega arith
  pieces_size-mapped true (last i) (last j) w = omega arith
  pieces_size-mapped before (last i) (next j y s) w = absurd (omega arith)
  pieces_size-mapped before (next i x r) (last j) w = absurd (omega arith)
  pieces_size-mapped before (next i x r) (next j y s) w =
      pieces_size-ordered before (i + text_size x) j y (character X x y ++ mapped X before r s) ∙
      pieces_size-character x y (mapped X before r s) (pieces_size-mapped before r s (omega arith))
    where
      pieces_size-character : (x : Fate ℕ) (y : Fate T) (ps : List (Piece T)) → pieces_size ps ≡ given_size r → (i + text_size x) + pieces_size (character X x y ++ ps) ≡ given_size (next i x r)
      pieces_size-character stays stays ps e = omega arith
      pieces_size-character stays (leaves t) ps e = omega arith
      pieces_size-character stays follows ps e = omega arith
      pieces_size-character (leaves n) y ps e = omega arith
      pieces_size-character follows y ps e = omega arith

given_size-stays : (n : ℕ) (r : Row ℕ (Fate ℕ)) → given_size (times counted n stays r) ≡ n + given_size r
given_size-stays zero r = omega arith
given_size-stays (suc n) r = omega (arith, given_size-stays n r)

given_size-follows : (n : ℕ) (r : Row ℕ (Fate ℕ)) → given_size (times counted n follows r) ≡ given_size r
given_size-follows zero r = refl
given_size-follows (suc n) r = omega (arith, given_size-follows n r)

given_size-in_front : (n : ℕ) (r : Row ℕ (Fate ℕ)) → given_size (in_front counted n r) ≡ n + given_size r
given_size-in_front n (last i) = refl
given_size-in_front n (next i stays r) = omega arith
given_size-in_front n (next i (leaves m) r) = omega arith
given_size-in_front n (next i follows r) = omega arith

pub given_size-along : (s : List (Section ℕ)) → given_size (along_old counted s) ≡ new_size counted s
given_size-along [] = refl
given_size-along (Keep n ∷ s) = given_size-stays n (along_old counted s) ∙ ap (λ m. n + m) (given_size-along s)
given_size-along (Replace zero t ∷ s) = given_size-in_front t (along_old counted s) ∙ ap (λ m. t + m) (given_size-along s)
given_size-along (Replace (suc n) t ∷ s) = omega (arith, given_size-follows n (along_old counted s), given_size-along s)

module _ {T C : Type 0} (X : Texts T C) where
  pub old_size-lengths : (s : List (Section T)) → old_size (lengths X s) ≡ old_size s
  old_size-lengths [] = refl
  old_size-lengths (Keep n ∷ s) = ap (λ m. n + m) (old_size-lengths s)
  old_size-lengths (Replace n t ∷ s) = ap (λ m. n + m) (old_size-lengths s)

  pub new_size-lengths : (s : List (Section T)) → new_size counted (lengths X s) ≡ new_size X s
  new_size-lengths [] = refl
  new_size-lengths (Keep n ∷ s) = ap (λ m. n + m) (new_size-lengths s)
  new_size-lengths (Replace n t ∷ s) = ap (λ m. X.size t + m) (new_size-lengths s)

  -- a mapped set starts where the other ends
  pub old_size-map_over : (b : List (Section T)) (a : List (Section ℕ)) (before : Bool) → old_size a ≡ old_size b → old_size (map_over X b a before) ≡ new_size counted a
  old_size-map_over b a before e =
      old_size-sections X (mapped X before (along_old counted a) (along_old X b)) ∙
      pieces_size-mapped X before (along_old counted a) (along_old X b) (width-along_old counted a ∙ e ∙ sym (width-along_old X b)) ∙
      given_size-along a

module _ {C : Type 0} where
  pub apply-map_over : (a b : List (Section (List C))) (before : Bool) (doc : List C) → old_size a ≡ length doc → old_size b ≡ length doc →
      apply (map_over spelled b (lengths spelled a) before) (apply a doc) ≡ merge a b before doc
  apply-map_over a b before doc l m =
      apply-sections (mapped spelled before (along_old counted (lengths spelled a)) (along_old spelled b)) (apply a doc) ∙
      rw (along-lengths a, ← (run_old-along a doc))
      (replay-mapped before (along_old spelled a) (along_old spelled b) doc (width-along_old spelled a ∙ l) (width-along_old spelled b ∙ m))

  pub compose-map-merges : (a b : List (Section (List C))) (doc : List C) → old_size a ≡ length doc → old_size b ≡ length doc →
      apply (compose spelled a (map_over spelled b (lengths spelled a) false)) doc ≡ merge a b false doc
  compose-map-merges a b doc l m =
      apply-compose a (map_over spelled b (lengths spelled a) false) doc l
      (sym (old_size-map_over spelled b (lengths spelled a) false (old_size-lengths spelled a ∙ (l ∙ sym m)) ∙ new_size-lengths spelled a)) ∙
      apply-map_over a b false doc l m

  pub compose-map-before-merges : (a b : List (Section (List C))) (doc : List C) → old_size a ≡ length doc → old_size b ≡ length doc →
      apply (compose spelled b (map_over spelled a (lengths spelled b) true)) doc ≡ merge a b false doc
  compose-map-before-merges a b doc l m =
      apply-compose b (map_over spelled a (lengths spelled b) true) doc m
      (sym (old_size-map_over spelled a (lengths spelled b) true (old_size-lengths spelled b ∙ (m ∙ sym l)) ∙ new_size-lengths spelled b)) ∙
      (apply-map_over b a true doc m l ∙ sym (merged-swap (along_old spelled a) (along_old spelled b) doc))
