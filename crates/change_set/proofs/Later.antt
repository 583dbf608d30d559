-- A change that begins at or after the end of what is done: it is put after that.
use Rattle.std.proofs.Common.{subst, ◌≡◌, ℕ, zero, suc, ◌+◌, ◌-◌, ◌≤◌, Bool, true, false, cond, List, [], ◌∷◌, ◌++◌, length, refl, sym, ap, ◌∙◌, append-nil, arith, zero-add, add-zero, add_assoc, one-add}
use Rattle.change_desc.specs.declared.section.Section.{Section}
use Rattle.change_desc.specs.declared.section.Section.TheVariants.{Keep, Replace}
use Rattle.change_desc.specs.Sections.{Sections, Texts, spelled, counted, is_blank, kind, joins, joined, put, normal, lengths, old_size, new_size}
use Rattle.change_desc.specs.Columns.{width, Row, last, next, Fate, stays, leaves, follows, Origin, old, new, more, in_front, times, mores, spell, along_old, along_new}
use Rattle.change_desc.specs.Pieces.{Piece, single, stretch, Open, closed, add, gather}
use Rattle.change_desc.specs.Compose.{is_cut_new, is_cut_old, between, composed, compose}
use Rattle.change_desc.specs.Map.{inserted, character, text_size, mapped, map_over}
use Rattle.change_desc.specs.Of.{span, then_also}
use Rattle.change_desc.proofs.Merges.{old_size-lengths, new_size-lengths}
use Rattle.change_desc.proofs.Applies.{width-along_old, width-along_new, width-times}
use Rattle.change_desc.proofs.Normal.{spelled_laws, InOrder, in_order, put-put, Apart, in_order-normal, normal-back, kind-joined}

abbrev Chars : Type 0
Chars = List ℕ

abbrev A_row : Type 0
A_row = Row ℕ (Fate ℕ)

abbrev B_row : Type 0
B_row = Row Chars (Fate Chars)

abbrev N_row : Type 0
N_row = Row ℕ (Origin ℕ)

-- what pieces come to before the normal form
abbrev cl : List (Piece Chars) → Sections
cl ps = closed spelled (gather spelled ps)

abbrev nf : Sections → Sections
nf s = normal spelled s

-- one more section by itself
single-cl : (x : Section Chars) (ps : List (Piece Chars)) → nf (cl (single x ∷ ps)) ≡ nf (x ∷ cl ps)
single-cl x ps = cases (is_blank spelled x) refl
  where
    cases : (b : Bool) → is_blank spelled x ≡ b → nf (closed spelled (cond b (gather spelled ps) (record { count = 0; text = []; rest = x ∷ cl ps }))) ≡ cond b (nf (cl ps)) (put spelled x (nf (cl ps)))
    cases true h = refl
    cases false h = rw h refl

-- neighbours that join
keeps : (a b : ℕ) (s : Sections) → nf (Keep a ∷ Keep b ∷ s) ≡ nf (Keep (a + b) ∷ s)
keeps zero b s = rw (zero-add b) refl
keeps (suc a) zero s = rw (add-zero (suc a)) refl
keeps (suc a) (suc b) s =
    let e : suc a + suc b ≡ suc (a + suc b) = omega arith in
    rw e (sym (put-put spelled spelled_laws (Keep (suc a)) (Keep (suc b)) (nf s) refl (in_order-normal spelled spelled_laws s)) ∙ rw e refl)

deletes : (a b : ℕ) (s : Sections) → nf (Replace a [] ∷ Replace b [] ∷ s) ≡ nf (Replace (a + b) [] ∷ s)
deletes zero b s = rw (zero-add b) refl
deletes (suc a) zero s = rw (add-zero (suc a)) refl
deletes (suc a) (suc b) s =
    let e : suc a + suc b ≡ suc (a + suc b) = omega arith in
    rw e (sym (put-put spelled spelled_laws (Replace (suc a) []) (Replace (suc b) []) (nf s) refl (in_order-normal spelled spelled_laws s)) ∙ rw e refl)

after : (x : Section Chars) (s t : Sections) → nf s ≡ nf t → nf (x ∷ s) ≡ nf (x ∷ t)
after x s t e = normal-back spelled spelled_laws (x ∷ []) s t e

joins_deletion : (a b : ℕ) (ps : List (Piece Chars)) → nf (cl (single (Replace (a + b) []) ∷ ps)) ≡ nf (Replace a [] ∷ cl (single (Replace b []) ∷ ps))
joins_deletion a b ps =
    single-cl (Replace (a + b) []) ps ∙
    (sym (deletes a b (cl ps)) ∙ after (Replace a []) (Replace b [] ∷ cl ps) (cl (single (Replace b []) ∷ ps)) (sym (single-cl (Replace b []) ps)))

open_same : (a b : ℕ) (t u : Chars) (r : Sections) → a ≡ b → t ≡ u → ◌≡◌ {A = Open Chars} (record { count = a; text = t; rest = r }) (record { count = b; text = u; rest = r })
open_same a b t u r e f = rw (e, f) refl

-- rows
times-add : {G D E : Type 0} (X : Texts G E) (m n : ℕ) (c : D) (r : Row G D) → times X (m + n) c r ≡ times X m c (times X n c r)
times-add X zero n c r = rw (zero-add n) refl
times-add X (suc m) n c r = let e : suc m + n ≡ suc (m + n) = omega arith in rw e (ap (next X.none c) (times-add X m n c r))

-- MAP: columns that both keep
map_keeps : (k : ℕ) (r : A_row) (q : B_row) → nf (cl (mapped spelled false (times counted k stays r) (times spelled k stays q))) ≡ nf (Keep k ∷ cl (mapped spelled false r q))
map_keeps zero r q = refl
map_keeps (suc k) r q =
    after (Keep 1) (cl (mapped spelled false (times counted k stays r) (times spelled k stays q))) (Keep k ∷ cl (mapped spelled false r q)) (map_keeps k r q) ∙
    (keeps 1 k (cl (mapped spelled false r q)) ∙ ap (λ n. nf (Keep n ∷ cl (mapped spelled false r q))) (one-add k))

-- columns that the first set deletes
map_gone : (k : ℕ) (r : A_row) (q : B_row) → gather spelled (mapped spelled false (times counted k follows r) (times spelled k stays q)) ≡ gather spelled (mapped spelled false r q)
map_gone zero r q = refl
map_gone (suc k) r q = map_gone k r q

-- a text that the first set puts in
map_text : (t : ℕ) (r : A_row) (q : B_row) → width r ≡ width q → nf (cl (mapped spelled false (in_front counted t r) q)) ≡ nf (Keep t ∷ cl (mapped spelled false r q))
map_text t (last i) (last j) w = joins_text t i (single (Replace 0 j) ∷ [])
  where
    joins_text : (t i : ℕ) (ps : List (Piece Chars)) → nf (cl (single (Keep (t + i)) ∷ ps)) ≡ nf (Keep t ∷ cl (single (Keep i) ∷ ps))
    joins_text t i ps = single-cl (Keep (t + i)) ps ∙ (sym (keeps t i (cl ps)) ∙ after (Keep t) (Keep i ∷ cl ps) (cl (single (Keep i) ∷ ps)) (sym (single-cl (Keep i) ps)))
map_text t (last i) (next j y q) w = absurd (omega arith)
map_text t (next i x r) (last j) w = absurd (omega arith)
map_text t (next i x r) (next j y q) w =
    let ps : List (Piece Chars) = inserted spelled j y ++ (character spelled x y ++ mapped spelled false r q) in
    rw (add_assoc t i (text_size x))
    (single-cl (Keep (t + (i + text_size x))) ps ∙
    (sym (keeps t (i + text_size x) (cl ps)) ∙ after (Keep t) (Keep (i + text_size x) ∷ cl ps) (cl (single (Keep (i + text_size x)) ∷ ps)) (sym (single-cl (Keep (i + text_size x)) ps))))

-- the length of a set's old text, and rows of lists in a row
old_size-append : (s t : List (Section ℕ)) → old_size (s ++ t) ≡ old_size s + old_size t
old_size-append [] t = omega arith
old_size-append (x ∷ s) t = omega (arith, old_size-append s t)

-- over the first set's sections, of which the second keeps all, its new text is kept
map_past : (d e : List (Section ℕ)) (q : B_row) → old_size e ≡ width q →
    nf (cl (mapped spelled false (along_old counted (d ++ e)) (times spelled (old_size d) stays q))) ≡ nf (Keep (new_size counted d) ∷ cl (mapped spelled false (along_old counted e) q))
map_past [] e q w = refl
map_past (Keep k ∷ d) e q w =
    let r : A_row = along_old counted (d ++ e) in
    let s : B_row = times spelled (old_size d) stays q in
    rw (times-add {D = Fate Chars} spelled k (old_size d) stays q)
    (map_keeps k r s ∙
    (after (Keep k) (cl (mapped spelled false r s)) (Keep (new_size counted d) ∷ cl (mapped spelled false (along_old counted e) q)) (map_past d e q w) ∙
    keeps k (new_size counted d) (cl (mapped spelled false (along_old counted e) q))))
map_past (Replace zero t ∷ d) e q w =
    let r : A_row = along_old counted (d ++ e) in
    let s : B_row = times spelled (old_size d) stays q in
    rw (zero-add (old_size d))
    (map_text t r s (width-along_old counted (d ++ e) ∙ (old_size-append d e ∙ sym (width-times spelled (old_size d) stays q ∙ ap (λ n. old_size d + n) (sym w)))) ∙
    (after (Keep t) (cl (mapped spelled false r s)) (Keep (new_size counted d) ∷ cl (mapped spelled false (along_old counted e) q)) (map_past d e q w) ∙
    keeps t (new_size counted d) (cl (mapped spelled false (along_old counted e) q))))
map_past (Replace (suc n) t ∷ d) e q w =
    let r : A_row = along_old counted (d ++ e) in
    let s : B_row = times spelled (old_size d) stays q in
    let f : suc n + old_size d ≡ suc (n + old_size d) = omega arith in
    rw (f, times-add {D = Fate Chars} spelled n (old_size d) stays q, zero-add t)
    (single-cl (Keep t) (single (Replace 0 []) ∷ mapped spelled false (times counted n follows r) (times spelled n stays s)) ∙
    (after (Keep t) (cl (mapped spelled false (times counted n follows r) (times spelled n stays s))) (Keep (new_size counted d) ∷ cl (mapped spelled false (along_old counted e) q))
    (ap (λ o. nf (closed spelled o)) (map_gone n r s) ∙ map_past d e q w) ∙
    keeps t (new_size counted d) (cl (mapped spelled false (along_old counted e) q))))

-- nothing is open first
abbrev Shut : Open Chars → Type 0
Shut o = (o.count ≡ 0) × (o.text ≡ [])

shut_single : (x : Section Chars) (o : Open Chars) → Shut o → Shut (add spelled (single x) o)
shut_single x o h = cases (is_blank spelled x)
  where
    cases : (b : Bool) → Shut (cond b o (record { count = 0; text = []; rest = x ∷ closed spelled o }))
    cases true = h
    cases false = (refl, refl)

shut-closed : (o : Open Chars) (n : ℕ) (t : Chars) → Shut o → nf (Replace (n + o.count) (t ++ o.text) ∷ o.rest) ≡ nf (Replace n t ∷ closed spelled o)
shut-closed o n t h = rw (h.0, h.1, add-zero n, append-nil t) refl

map_shut : (r : ℕ) → Shut (gather spelled (mapped spelled false (times counted r stays (last 0)) (times spelled r stays (last []))))
map_shut zero = (refl, refl)
map_shut (suc r) = (refl, refl)

map_end : (r : ℕ) → nf (cl (mapped spelled false (times counted r stays (last 0)) (times spelled r stays (last [])))) ≡ nf (Keep r ∷ [])
map_end r = map_keeps r (last 0) (last [])

-- deleted characters, after the first
map_follows : (n : ℕ) (r : A_row) (q : B_row) → gather spelled (mapped spelled false (times counted n stays r) (times spelled n follows q)) ≡ gather spelled (stretch false n [] ∷ mapped spelled false r q)
map_follows zero r q = let g : Open Chars = gather spelled (mapped spelled false r q) in open_same g.count (0 + g.count) g.text g.text g.rest (omega arith) refl
map_follows (suc n) r q =
    let g : Open Chars = gather spelled (mapped spelled false r q) in
    rw (map_follows n r q) (open_same (1 + (n + g.count)) (suc n + g.count) g.text g.text g.rest (omega arith) refl)

map_span : (n r : ℕ) (t : Chars) →
    nf (cl (mapped spelled false (times counted (n + r) stays (last 0)) (along_old spelled (Replace n t ∷ Keep r ∷ [])))) ≡ nf (Replace n t ∷ Keep r ∷ [])
map_span zero zero t = rw (append-nil t) (single-cl (Replace 0 t) [])
map_span zero (suc r) t =
    rw (zero-add (suc r), append-nil t)
    (single-cl (Replace 0 t) (single (Keep 1) ∷ mapped spelled false (times counted r stays (last 0)) (times spelled r stays (last []))) ∙
    after (Replace 0 t) (cl (single (Keep 1) ∷ mapped spelled false (times counted r stays (last 0)) (times spelled r stays (last [])))) (Keep (suc r) ∷ []) (map_end (suc r)))
map_span (suc n) r t =
    let a : A_row = times counted r stays (last 0) in
    let b : B_row = times spelled r stays (last []) in
    let o : Open Chars = gather spelled (mapped spelled false a b) in
    let f : suc n + r ≡ suc (n + r) = omega arith in
    let c : 0 + (1 + (n + o.count)) ≡ suc n + o.count = omega arith in
    rw (f, times-add {D = Fate ℕ} counted n r stays (last 0), map_follows n a b, c)
    (shut-closed o (suc n) t (map_shut r) ∙ after (Replace (suc n) t) (closed spelled o) (Keep r ∷ []) (map_end r))

map_rest : (g n r : ℕ) (t : Chars) →
    nf (cl (mapped spelled false (times counted (g + (n + r)) stays (last 0)) (along_old spelled (Keep g ∷ Replace n t ∷ Keep r ∷ [])))) ≡ nf (Keep g ∷ Replace n t ∷ Keep r ∷ [])
map_rest g n r t =
    let a : A_row = times counted (n + r) stays (last 0) in
    let b : B_row = along_old spelled (Replace n t ∷ Keep r ∷ []) in
    rw (times-add {D = Fate ℕ} counted g (n + r) stays (last 0))
    (map_keeps g a b ∙ after (Keep g) (cl (mapped spelled false a b)) (Replace n t ∷ Keep r ∷ []) (map_span n r t))

-- COMPOSE: rows that begin with a section
abbrev FreshN : N_row → Type 0
FreshN (last n) = Unit {0}
FreshN (next n x r) = is_cut_new x ≡ true

abbrev FreshB : B_row → Type 0
FreshB (last t) = Unit {0}
FreshB (next t y q) = is_cut_old y ≡ true

fresh-front : (n : ℕ) (r : N_row) → FreshN r → FreshN (in_front counted n r)
fresh-front n (last m) h = tt
fresh-front n (next m x r) h = h

fresh-times : (n : ℕ) (r : N_row) → FreshN r → FreshN (times counted n old r)
fresh-times zero r h = h
fresh-times (suc n) r h = refl

fresh_along : (s : Sections) → FreshN (along_new spelled s)
fresh_along [] = tt
fresh_along (Keep n ∷ s) = fresh-times n (along_new spelled s) (fresh_along s)
fresh_along (Replace n [] ∷ s) = fresh-front n (along_new spelled s) (fresh_along s)
fresh_along (Replace n (c ∷ t) ∷ s) = refl

fresh_stays : (n : ℕ) (q : B_row) → FreshB q → FreshB (times spelled n stays q)
fresh_stays zero q h = h
fresh_stays (suc n) q h = refl

compose_shut : (r : N_row) (q : B_row) → width r ≡ width q → FreshN r → FreshB q → Shut (gather spelled (composed spelled r q))
compose_shut (last n) (last t) w f g = shut_single (Replace n []) (gather spelled (single (Replace 0 t) ∷ [])) (shut_single (Replace 0 t) (gather spelled []) (refl, refl))
compose_shut (last n) (next t y q) w f g = absurd (omega arith)
compose_shut (next n x r) (last t) w f g = absurd (omega arith)
compose_shut (next n x r) (next t y q) w f g =
    rw (f, g)
    (shut_single (Replace n []) (gather spelled (single (Replace 0 t) ∷ between spelled true x y ∷ composed spelled r q))
    (shut_single (Replace 0 t) (gather spelled (between spelled true x y ∷ composed spelled r q)) (shut_between x y (composed spelled r q))))
  where
    shut_between : (x : Origin ℕ) (y : Fate Chars) (ps : List (Piece Chars)) → Shut (gather spelled (between spelled true x y ∷ ps))
    shut_between old stays ps = (refl, refl)
    shut_between (new m c) stays ps = (refl, refl)
    shut_between (more c) stays ps = (refl, refl)
    shut_between old (leaves u) ps = (refl, refl)
    shut_between (new m c) (leaves u) ps = (refl, refl)
    shut_between (more c) (leaves u) ps = (refl, refl)
    shut_between old follows ps = (refl, refl)
    shut_between (new m c) follows ps = (refl, refl)
    shut_between (more c) follows ps = (refl, refl)

compose_keeps : (k : ℕ) (r : N_row) (q : B_row) → nf (cl (composed spelled (times counted k old r) (times spelled k stays q))) ≡ nf (Keep k ∷ cl (composed spelled r q))
compose_keeps zero r q = refl
compose_keeps (suc k) r q =
    after (Keep 1) (cl (composed spelled (times counted k old r) (times spelled k stays q))) (Keep k ∷ cl (composed spelled r q)) (compose_keeps k r q) ∙
    (keeps 1 k (cl (composed spelled r q)) ∙ ap (λ n. nf (Keep n ∷ cl (composed spelled r q))) (one-add k))

compose_deletion : (n : ℕ) (r : N_row) (q : B_row) → width r ≡ width q → FreshN r → FreshB q → nf (cl (composed spelled (in_front counted n r) q)) ≡ nf (Replace n [] ∷ cl (composed spelled r q))
compose_deletion n (last m) (last t) w f g = joins_deletion n m (single (Replace 0 t) ∷ [])
compose_deletion n (last m) (next t y q) w f g = absurd (omega arith)
compose_deletion n (next m x r) (last t) w f g = absurd (omega arith)
compose_deletion n (next m x r) (next t y q) w f g = rw (f, g) (joins_deletion n m (single (Replace 0 t) ∷ between spelled true x y ∷ composed spelled r q))

compose_more : (t : Chars) (r : N_row) (q : B_row) → gather spelled (composed spelled (mores spelled t r) (times spelled (length t) stays q)) ≡ gather spelled (stretch false 0 t ∷ composed spelled r q)
compose_more [] r q = let g : Open Chars = gather spelled (composed spelled r q) in open_same g.count (0 + g.count) g.text g.text g.rest (omega arith) refl
compose_more (c ∷ t) r q =
    let g : Open Chars = gather spelled (composed spelled r q) in
    rw (compose_more t r q) (open_same (0 + (0 + (0 + g.count))) (0 + g.count) (c ∷ (t ++ g.text)) (c ∷ (t ++ g.text)) g.rest (omega arith) refl)

size-append : (s t : Sections) → new_size spelled (s ++ t) ≡ new_size spelled s + new_size spelled t
size-append [] t = omega arith
size-append (x ∷ s) t = omega (arith, size-append s t)

alike-width : (d e : Sections) (q : B_row) → new_size spelled e ≡ width q → width (along_new spelled (d ++ e)) ≡ width (times spelled (new_size spelled d) stays q)
alike-width d e q w = width-along_new (d ++ e) ∙ (size-append d e ∙ (ap (λ n. new_size spelled d + n) w ∙ sym (width-times spelled (new_size spelled d) stays q)))

-- over the first set's sections, of whose texts the second keeps all, they are as they were
compose_past : (d e : Sections) (q : B_row) → new_size spelled e ≡ width q → FreshB q →
    nf (cl (composed spelled (along_new spelled (d ++ e)) (times spelled (new_size spelled d) stays q))) ≡ nf (d ++ cl (composed spelled (along_new spelled e) q))
compose_past [] e q w g = refl
compose_past (Keep k ∷ d) e q w g =
    let r : N_row = along_new spelled (d ++ e) in
    let s : B_row = times spelled (new_size spelled d) stays q in
    rw (times-add {D = Fate Chars} spelled k (new_size spelled d) stays q)
    (compose_keeps k r s ∙ after (Keep k) (cl (composed spelled r s)) (d ++ cl (composed spelled (along_new spelled e) q)) (compose_past d e q w g))
compose_past (Replace n [] ∷ d) e q w g =
    let r : N_row = along_new spelled (d ++ e) in
    let s : B_row = times spelled (new_size spelled d) stays q in
    rw (zero-add (new_size spelled d))
    (compose_deletion n r s (alike-width d e q w) (fresh_along (d ++ e)) (fresh_stays (new_size spelled d) q g) ∙
    after (Replace n []) (cl (composed spelled r s)) (d ++ cl (composed spelled (along_new spelled e) q)) (compose_past d e q w g))
compose_past (Replace n (c ∷ t) ∷ d) e q w g =
    let r : N_row = along_new spelled (d ++ e) in
    let s : B_row = times spelled (new_size spelled d) stays q in
    let o : Open Chars = gather spelled (composed spelled r s) in
    let f : suc (length t) + new_size spelled d ≡ suc (length t + new_size spelled d) = omega arith in
    let z : n + (0 + o.count) ≡ n + o.count = omega arith in
    rw (f, times-add {D = Fate Chars} spelled (length t) (new_size spelled d) stays q, compose_more t r s, z)
    (shut-closed o n (c ∷ t) (compose_shut r s (alike-width d e q w) (fresh_along (d ++ e)) (fresh_stays (new_size spelled d) q g)) ∙
    after (Replace n (c ∷ t)) (closed spelled o) (d ++ cl (composed spelled (along_new spelled e) q)) (compose_past d e q w g))

compose_shut_end : (r : ℕ) → Shut (gather spelled (composed spelled (times counted r old (last 0)) (times spelled r stays (last []))))
compose_shut_end zero = (refl, refl)
compose_shut_end (suc r) = (refl, refl)

compose_end : (r : ℕ) → nf (cl (composed spelled (times counted r old (last 0)) (times spelled r stays (last [])))) ≡ nf (Keep r ∷ [])
compose_end r = compose_keeps r (last 0) (last [])

compose_follows : (n : ℕ) (r : N_row) (q : B_row) → gather spelled (composed spelled (times counted n old r) (times spelled n follows q)) ≡ gather spelled (stretch false n [] ∷ composed spelled r q)
compose_follows zero r q = let g : Open Chars = gather spelled (composed spelled r q) in open_same g.count (0 + g.count) g.text g.text g.rest (omega arith) refl
compose_follows (suc n) r q =
    let g : Open Chars = gather spelled (composed spelled r q) in
    rw (compose_follows n r q) (open_same (0 + (1 + (n + g.count))) (suc n + g.count) g.text g.text g.rest (omega arith) refl)

compose_span : (n r : ℕ) (t : Chars) →
    nf (cl (composed spelled (times counted (n + r) old (last 0)) (along_old spelled (Replace n t ∷ Keep r ∷ [])))) ≡ nf (Replace n t ∷ Keep r ∷ [])
compose_span zero zero t = rw (append-nil t) (single-cl (Replace 0 t) [])
compose_span zero (suc r) t =
    rw (zero-add (suc r), append-nil t)
    (single-cl (Replace 0 t) (single (Keep 1) ∷ composed spelled (times counted r old (last 0)) (times spelled r stays (last []))) ∙
    after (Replace 0 t) (cl (single (Keep 1) ∷ composed spelled (times counted r old (last 0)) (times spelled r stays (last [])))) (Keep (suc r) ∷ []) (compose_end (suc r)))
compose_span (suc n) r t =
    let a : N_row = times counted r old (last 0) in
    let b : B_row = times spelled r stays (last []) in
    let o : Open Chars = gather spelled (composed spelled a b) in
    let f : suc n + r ≡ suc (n + r) = omega arith in
    let c : 1 + (n + o.count) ≡ suc n + o.count = omega arith in
    rw (f, times-add {D = Origin ℕ} counted n r old (last 0), compose_follows n a b, c)
    (shut-closed o (suc n) t (compose_shut_end r) ∙ after (Replace (suc n) t) (closed spelled o) (Keep r ∷ []) (compose_end r))

compose_rest : (g n r : ℕ) (t : Chars) →
    nf (cl (composed spelled (times counted (g + (n + r)) old (last 0)) (along_old spelled (Keep g ∷ Replace n t ∷ Keep r ∷ [])))) ≡ nf (Keep g ∷ Replace n t ∷ Keep r ∷ [])
compose_rest g n r t =
    let a : N_row = times counted (n + r) old (last 0) in
    let b : B_row = along_old spelled (Replace n t ∷ Keep r ∷ []) in
    rw (times-add {D = Origin ℕ} counted g (n + r) old (last 0))
    (compose_keeps g a b ∙ after (Keep g) (cl (composed spelled a b)) (Replace n t ∷ Keep r ∷ []) (compose_span n r t))

-- ROWS OF NORMAL FORMS: what is done, with a Keep after it
put_apart : (x : Section Chars) (s : Sections) → Apart spelled spelled_laws x s → put spelled x s ≡ x ∷ s
put_apart x [] a = refl
put_apart x (y ∷ s) a = rw a refl

apart_put : (x y : Section Chars) (s : Sections) → joins (kind spelled x) (kind spelled y) ≡ false → Apart spelled spelled_laws x (put spelled y s)
apart_put x y [] h = h
apart_put x y (z ∷ s) h = cases (joins (kind spelled y) (kind spelled z)) refl
  where
    cases : (b : Bool) → joins (kind spelled y) (kind spelled z) ≡ b → Apart spelled spelled_laws x (cond b (joined spelled y z ∷ s) (y ∷ z ∷ s))
    cases true k = rw (kind-joined spelled spelled_laws y z k) h
    cases false k = h

-- what a row needs for it
record Row_laws (R : Type 0) (f : Sections → R) : Type 0 where
  cons : (x : Section Chars) (s t : Sections) → f s ≡ f t → f (x ∷ s) ≡ f (x ∷ t)
  keep : (a b : ℕ) (s : Sections) → f (Keep (a + b) ∷ s) ≡ f (Keep a ∷ Keep b ∷ s)
  none : (s : Sections) → f s ≡ f (Keep 0 ∷ s)

module _ (R : Type 0) (f : Sections → R) (L : Row_laws R f) where
  keep_last : (m : ℕ) → f (nf (Keep m ∷ [])) ≡ f (Keep m ∷ [])
  keep_last zero = L.none []
  keep_last (suc m) = refl

  put_keep : (x : Section Chars) (m : ℕ) → f (put spelled x (nf (Keep m ∷ []))) ≡ f (x ∷ Keep m ∷ [])
  put_keep x zero = L.cons x [] (Keep 0 ∷ []) (L.none [])
  put_keep (Keep k) (suc m) = L.keep k (suc m) []
  put_keep (Replace zero t) (suc m) = refl
  put_keep (Replace (suc n) []) (suc m) = refl
  put_keep (Replace (suc n) (c ∷ t)) (suc m) = refl

  row-normal : (d : Sections) (m : ℕ) → InOrder spelled spelled_laws d → f (nf (d ++ Keep m ∷ [])) ≡ f (d ++ Keep m ∷ [])
  row-normal [] m o = keep_last m
  row-normal (x ∷ []) m o = rw o.0 (put_keep x m)
  row-normal (x ∷ y ∷ d) m o =
      rw (o.0, o.2.0, put_apart x (put spelled y (nf (d ++ Keep m ∷ []))) (apart_put x y (nf (d ++ Keep m ∷ [])) o.1))
      (L.cons x (put spelled y (nf (d ++ Keep m ∷ []))) (y ∷ d ++ Keep m ∷ [])
      (subst (λ b. f (cond b (nf (d ++ Keep m ∷ [])) (put spelled y (nf (d ++ Keep m ∷ [])))) ≡ f (y ∷ d ++ Keep m ∷ [])) o.2.0 (row-normal (y ∷ d) m o.2)))

new_laws : Row_laws N_row (along_new spelled)
new_laws = record {
  cons = new_cons;
  keep = λ a b s. times-add {D = Origin ℕ} counted a b old (along_new spelled s);
  none = λ s. refl;
}
  where
    new_cons : (x : Section Chars) (s t : Sections) → along_new spelled s ≡ along_new spelled t → along_new spelled (x ∷ s) ≡ along_new spelled (x ∷ t)
    new_cons (Keep n) s t e = ap (times counted n old) e
    new_cons (Replace n u) s t e = ap (spell spelled n u) e

length_laws : Row_laws A_row (λ s. along_old counted (lengths spelled s))
length_laws = record {
  cons = length_cons;
  keep = λ a b s. times-add {D = Fate ℕ} counted a b stays (along_old counted (lengths spelled s));
  none = λ s. refl;
}
  where
    length_cons : (x : Section Chars) (s t : Sections) → along_old counted (lengths spelled s) ≡ along_old counted (lengths spelled t) →
        along_old counted (lengths spelled (x ∷ s)) ≡ along_old counted (lengths spelled (x ∷ t))
    length_cons (Keep n) s t e = ap (times counted n stays) e
    length_cons (Replace zero u) s t e = ap (in_front counted (length u)) e
    length_cons (Replace (suc n) u) s t e = ap (λ r. next 0 (leaves (length u)) (times counted n follows r)) e

-- and the row of a span
front_none : (q : B_row) → in_front spelled [] q ≡ q
front_none (last t) = refl
front_none (next t y q) = refl

span-row : (a n r : ℕ) (t : Chars) → along_old spelled (nf (Keep a ∷ Replace n t ∷ Keep r ∷ [])) ≡ along_old spelled (Keep a ∷ Replace n t ∷ Keep r ∷ [])
span-row zero zero zero [] = refl
span-row zero zero (suc r) [] = refl
span-row (suc a) zero zero [] = refl
span-row (suc a) zero (suc r) [] = times-add {D = Fate Chars} spelled (suc a) (suc r) stays (last [])
span-row zero zero zero (c ∷ t) = refl
span-row zero zero (suc r) (c ∷ t) = refl
span-row (suc a) zero zero (c ∷ t) = refl
span-row (suc a) zero (suc r) (c ∷ t) = refl
span-row zero (suc n) zero [] = refl
span-row zero (suc n) (suc r) [] = refl
span-row (suc a) (suc n) zero [] = refl
span-row (suc a) (suc n) (suc r) [] = refl
span-row zero (suc n) zero (c ∷ t) = refl
span-row zero (suc n) (suc r) (c ∷ t) = refl
span-row (suc a) (suc n) zero (c ∷ t) = refl
span-row (suc a) (suc n) (suc r) (c ∷ t) = refl

lengths-append : (s t : Sections) → lengths spelled (s ++ t) ≡ lengths spelled s ++ lengths spelled t
lengths-append [] t = refl
lengths-append (Keep n ∷ s) t = ap (λ r. Keep n ∷ r) (lengths-append s t)
lengths-append (Replace n u ∷ s) t = ap (λ r. Replace n (length u) ∷ r) (lengths-append s t)

-- the mapped change: it keeps what the done sections give, and is as it was after them
moved : (d : Sections) (g n r : ℕ) (t : Chars) (c : Sections) → InOrder spelled spelled_laws d →
    along_old spelled c ≡ along_old spelled (Keep (old_size d + g) ∷ Replace n t ∷ Keep r ∷ []) →
    map_over spelled c (lengths spelled (nf (d ++ Keep (g + (n + r)) ∷ []))) false ≡ nf (Keep (new_size spelled d + g) ∷ Replace n t ∷ Keep r ∷ [])
moved d g n r t c o e =
    let rest : Sections = Keep (g + (n + r)) ∷ [] in
    let l : List (Section ℕ) = lengths spelled d in
    let q : B_row = along_old spelled (Keep g ∷ Replace n t ∷ Keep r ∷ []) in
    let last_keep : List (Section ℕ) = Keep (g + (n + r)) ∷ [] in
    let w : old_size last_keep ≡ width q = omega (arith, width-along_old spelled (Keep g ∷ Replace n t ∷ Keep r ∷ [])) in
    rw (
      row-normal A_row (λ s. along_old counted (lengths spelled s)) length_laws d (g + (n + r)) o,
      lengths-append d rest,
      e,
      times-add {D = Fate Chars} spelled (old_size d) g stays (along_old spelled (Replace n t ∷ Keep r ∷ [])),
      ← (old_size-lengths spelled d),
    )
    (map_past l (Keep (g + (n + r)) ∷ []) q w ∙
    (after (Keep (new_size counted l)) (cl (mapped spelled false (along_old counted (Keep (g + (n + r)) ∷ [])) q)) (Keep g ∷ Replace n t ∷ Keep r ∷ []) (map_rest g n r t) ∙
    (keeps (new_size counted l) g (Replace n t ∷ Keep r ∷ []) ∙ ap (λ k. nf (Keep (k + g) ∷ Replace n t ∷ Keep r ∷ [])) (new_size-lengths spelled d))))

put_after : (d : Sections) (g n r : ℕ) (t : Chars) (c : Sections) → InOrder spelled spelled_laws d →
    along_old spelled c ≡ along_old spelled (Keep (new_size spelled d + g) ∷ Replace n t ∷ Keep r ∷ []) →
    compose spelled (nf (d ++ Keep (g + (n + r)) ∷ [])) c ≡ nf (d ++ Keep g ∷ Replace n t ∷ Keep r ∷ [])
put_after d g n r t c o e =
    let rest : Sections = Keep (g + (n + r)) ∷ [] in
    let q : B_row = along_old spelled (Keep g ∷ Replace n t ∷ Keep r ∷ []) in
    let w : new_size spelled rest ≡ width q = omega (arith, width-along_old spelled (Keep g ∷ Replace n t ∷ Keep r ∷ [])) in
    rw (
      row-normal N_row (along_new spelled) new_laws d (g + (n + r)) o,
      e,
      times-add {D = Fate Chars} spelled (new_size spelled d) g stays (along_old spelled (Replace n t ∷ Keep r ∷ [])),
    )
    (compose_past d rest q w (fresh_start g n r t) ∙
    normal-back spelled spelled_laws d (cl (composed spelled (along_new spelled rest) q)) (Keep g ∷ Replace n t ∷ Keep r ∷ []) (compose_rest g n r t))
  where
    fresh_start : (g n r : ℕ) (t : Chars) → FreshB (along_old spelled (Keep g ∷ Replace n t ∷ Keep r ∷ []))
    fresh_start (suc g) n r t = refl
    fresh_start zero zero zero t = tt
    fresh_start zero zero (suc r) t = refl
    fresh_start zero (suc n) r t = refl

-- A change that begins at or after the end of what is done, put after it: the done sections, a Keep of the gap, the Replace, and a Keep
-- of the rest.
pub later : (d : Sections) (len from to : ℕ) (t : Chars) → normal spelled d ≡ d → old_size d ≤ from → from ≤ to → to ≤ len →
    then_also spelled (normal spelled (d ++ Keep (len - old_size d) ∷ [])) (span spelled len from to t) ≡
    normal spelled (d ++ Keep (from - old_size d) ∷ Replace (to - from) t ∷ Keep (len - to) ∷ [])
later d len from to t h a b c =
    let g : ℕ = from - old_size d in
    let n : ℕ = to - from in
    let r : ℕ = len - to in
    let o : InOrder spelled spelled_laws d = in_order spelled spelled_laws d h in
    let e : len - old_size d ≡ g + (n + r) = omega arith in
    let f : from ≡ old_size d + g = omega arith in
    rw (
      e,
      moved d g n r t (span spelled len from to t) o (span-row from n r t ∙ ap (λ k. along_old spelled (Keep k ∷ Replace n t ∷ Keep r ∷ [])) f),
    )
    (put_after d g n r t (nf (Keep (new_size spelled d + g) ∷ Replace n t ∷ Keep r ∷ [])) o (span-row (new_size spelled d + g) n r t))
