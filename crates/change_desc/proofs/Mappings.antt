-- Mapping one row over another, column by column: what comes next.
use Rattle.std.proofs.Common.{◌≡◌, ℕ, zero, suc, ◌+◌, Bool, true, false, ◌⊎◌, inl, inr, List, [], ◌∷◌, ◌++◌, refl, sym, ap, ◌∙◌, arith, add_assoc, zero-add, add-zero}
use Rattle.change_desc.specs.declared.section.Section.{Section}
use Rattle.change_desc.specs.declared.section.Section.TheVariants.{Keep, Replace}
use Rattle.change_desc.specs.declared.weave.Weave.{Weave}
use Rattle.change_desc.specs.Sections.{counted, normal, put}
use Rattle.change_desc.specs.Columns.{last, next, Fate, stays, leaves, follows, in_front, times}
use Rattle.change_desc.specs.Pieces.{Piece, single, stretch, Open, closed, gather}
use Rattle.change_desc.specs.Map.{inserted, character, text_size, mapped}
use Rattle.change_desc.specs.Weaving.{woven}
use Rattle.change_desc.proofs.Normal.{counted_laws, put-put, in_order-normal}
use Rattle.change_desc.proofs.Compositions.{Along_old, woven-gather, woven-rest, shut, insertions_join, open_same}

abbrev pub level : Along_old → Along_old → Type 0
level (last i) (last j) = Unit {0}
level (next i x r) (next j y s) = Unit {0}
level _ _ = ⊥

-- nothing is put in at the first gap
abbrev pub quiet : Along_old → Type 0
quiet (last i) = i ≡ 0
quiet (next i (leaves t) r) = ⊥
quiet (next i stays r) = i ≡ 0
quiet (next i follows r) = i ≡ 0

keeps_join : (w : Weave) (n m : ℕ) (ps : List (Piece ℕ)) → woven w (single (Keep (suc n)) ∷ single (Keep m) ∷ ps) ≡ woven w (single (Keep (suc n + m)) ∷ ps)
keeps_join w n zero ps = rw (add-zero (suc n)) refl
keeps_join w n (suc m) ps =
    let e : suc n + suc m ≡ suc (n + suc m) = omega arith in
    woven-rest w (single (Keep (suc n)) ∷ single (Keep (suc m)) ∷ ps) (single (Keep (suc n + suc m)) ∷ ps)
    (Keep (suc n) ∷ Replace 0 0 ∷ Keep (suc m) ∷ closed counted (gather counted ps)) (Keep (suc n + suc m) ∷ closed counted (gather counted ps)) refl (rw e refl)
    (sym (put-put counted counted_laws (Keep (suc n)) (Keep (suc m)) (normal counted (closed counted (gather counted ps))) refl (in_order-normal counted counted_laws (closed counted (gather counted ps)))) ∙ rw e refl)

character-leaves : (t : ℕ) (y : Fate ℕ) → character counted (leaves t) y ≡ character counted follows y
character-leaves t y = refl

character-second : (x : Fate ℕ) (u : ℕ) → character counted x (leaves u) ≡ character counted x follows
character-second stays u = refl
character-second (leaves t) u = refl
character-second follows u = refl

-- A's text, where A's stand first
pub first_text : (w : Weave) (t : ℕ) (r s : Along_old) → level (next 0 follows r) s →
    woven w (single (Keep t) ∷ mapped counted false (next 0 follows r) s) ≡ woven w (mapped counted false (next 0 (leaves t) r) s)
first_text w t r (last j) a = absurd a
first_text w t r (next j y s) a = rw (zero-add t) refl

pub first_insertion : (w : Weave) (t : ℕ) (r s : Along_old) → level r s →
    woven w (single (Keep (suc t)) ∷ mapped counted false r s) ≡ woven w (mapped counted false (in_front counted (suc t) r) s)
first_insertion w t (last i) (last j) a = keeps_join w t i (single (Replace 0 j) ∷ [])
first_insertion w t (last i) (next j y s) a = absurd a
first_insertion w t (next i x r) (last j) a = absurd a
first_insertion w t (next i x r) (next j y s) a =
    rw (add_assoc (suc t) i (text_size x)) (keeps_join w t (i + text_size x) (inserted counted j y ++ (character counted x y ++ mapped counted false r s)))

-- and where B's would, but B puts nothing in there
pub first_text_before : (w : Weave) (t : ℕ) (r s : Along_old) → level (next 0 follows r) s → quiet s →
    woven w (single (Keep t) ∷ mapped counted true (next 0 follows r) s) ≡ woven w (mapped counted true (next 0 (leaves t) r) s)
first_text_before w t r (last j) a q = absurd a
first_text_before w t r (next j stays s) a q = rw (q, zero-add t) refl
first_text_before w t r (next j (leaves u) s) a q = absurd q
first_text_before w t r (next j follows s) a q = rw (q, zero-add t) refl

pub first_insertion_before : (w : Weave) (t : ℕ) (r s : Along_old) → level r s → quiet s →
    woven w (single (Keep (suc t)) ∷ mapped counted true r s) ≡ woven w (mapped counted true (in_front counted (suc t) r) s)
first_insertion_before w t (last i) (last j) a q = rw q (keeps_join w t i [])
first_insertion_before w t (last i) (next j y s) a q = absurd a
first_insertion_before w t (next i x r) (last j) a q = absurd a
first_insertion_before w t (next i x r) (next j stays s) a q =
    rw (q, add_assoc (suc t) i (text_size x)) (keeps_join w t (i + text_size x) (character counted x stays ++ mapped counted true r s))
first_insertion_before w t (next i x r) (next j (leaves u) s) a q = absurd q
first_insertion_before w t (next i x r) (next j follows s) a q =
    rw (q, add_assoc (suc t) i (text_size x)) (keeps_join w t (i + text_size x) (character counted x follows ++ mapped counted true r s))

-- B's text, where B's stand first
pub second_text : (w : Weave) (u : ℕ) (r s : Along_old) → level r (next 0 follows s) →
    woven w (stretch true 0 u ∷ mapped counted true r (next 0 follows s)) ≡ woven w (mapped counted true r (next 0 (leaves u) s))
second_text w u (last i) s a = absurd a
second_text w u (next i x r) s a = rw (character-second x u) refl

pub second_insertion : (w : Weave) (u : ℕ) (r s : Along_old) → level r s →
    woven w (single (Replace 0 (suc u)) ∷ mapped counted true r s) ≡ woven w (mapped counted true r (in_front counted (suc u) s))
second_insertion w u (last i) (last j) a = insertions_join w u j (single (Keep i) ∷ [])
second_insertion w u (last i) (next j y s) a = absurd a
second_insertion w u (next i x r) (last j) a = absurd a
second_insertion w u (next i x r) (next j stays s) a = insertions_join w u j (single (Keep (i + text_size x)) ∷ (character counted x stays ++ mapped counted true r s))
second_insertion w u (next i x r) (next j (leaves t) s) a = insertions_join w u j (stretch true 0 t ∷ single (Keep (i + text_size x)) ∷ (character counted x (leaves t) ++ mapped counted true r s))
second_insertion w u (next i x r) (next j follows s) a = insertions_join w u j (single (Keep (i + text_size x)) ∷ (character counted x follows ++ mapped counted true r s))

-- and where A's would, but A puts nothing in there
pub second_text_after : (w : Weave) (u : ℕ) (r s : Along_old) → level r (next 0 follows s) → quiet r →
    woven w (stretch true 0 u ∷ mapped counted false r (next 0 follows s)) ≡ woven w (mapped counted false r (next 0 (leaves u) s))
second_text_after w u (last i) s a q = absurd a
second_text_after w u (next i stays r) s a q = rw q refl
second_text_after w u (next i (leaves t) r) s a q = absurd q
second_text_after w u (next i follows r) s a q = rw q refl

pub second_insertion_after : (w : Weave) (u : ℕ) (r s : Along_old) → level r s → quiet r →
    woven w (single (Replace 0 (suc u)) ∷ mapped counted false r s) ≡ woven w (mapped counted false r (in_front counted (suc u) s))
second_insertion_after w u (last i) (last j) a q = rw q (insertions_join w u j [])
second_insertion_after w u (last i) (next j y s) a q = absurd a
second_insertion_after w u (next i x r) (last j) a q = absurd a
second_insertion_after w u (next i stays r) (next j stays s) a q = rw q (insertions_join w u j (character counted stays stays ++ mapped counted false r s))
second_insertion_after w u (next i stays r) (next j (leaves t) s) a q = rw q (insertions_join w u j (stretch true 0 t ∷ (character counted stays (leaves t) ++ mapped counted false r s)))
second_insertion_after w u (next i stays r) (next j follows s) a q = rw q (insertions_join w u j (character counted stays follows ++ mapped counted false r s))
second_insertion_after w u (next i (leaves t) r) s a q = absurd q
second_insertion_after w u (next i follows r) (next j stays s) a q = rw q (insertions_join w u j (mapped counted false r s))
second_insertion_after w u (next i follows r) (next j (leaves t) s) a q = rw q (insertions_join w u j (stretch true 0 t ∷ mapped counted false r s))
second_insertion_after w u (next i follows r) (next j follows s) a q = rw q (insertions_join w u j (mapped counted false r s))

-- characters, many at once
one_more : (k : ℕ) (s : List (Section ℕ)) → put counted (Keep 1) (normal counted (Keep (suc k) ∷ s)) ≡ normal counted (Keep (suc (suc k)) ∷ s)
one_more k s =
    let e : 1 + suc k ≡ suc (suc k) = omega arith in
    sym (put-put counted counted_laws (Keep 1) (Keep (suc k)) (normal counted s) refl (in_order-normal counted counted_laws s)) ∙ ap (λ n. put counted (Keep n) (normal counted s)) e

normal-both : (before : Bool) (k : ℕ) (r s : Along_old) → (rest : List (Section ℕ)) × (gather counted (mapped counted before (times counted (suc k) stays r) (times counted (suc k) stays s)) ≡ shut rest) ×
    (normal counted rest ≡ normal counted (Keep (suc k) ∷ closed counted (gather counted (mapped counted before r s))))
normal-both false zero r s = (Keep 1 ∷ closed counted (gather counted (mapped counted false r s)), refl, refl)
normal-both true zero r s = (Keep 1 ∷ closed counted (gather counted (mapped counted true r s)), refl, refl)
normal-both false (suc k) r s =
    let h : (rest : List (Section ℕ)) × (gather counted (mapped counted false (times counted (suc k) stays r) (times counted (suc k) stays s)) ≡ shut rest) ×
    (normal counted rest ≡ normal counted (Keep (suc k) ∷ closed counted (gather counted (mapped counted false r s)))) = normal-both false k r s in
    (Keep 1 ∷ closed counted (shut h.0), ap (λ o. shut (Keep 1 ∷ closed counted o)) h.1, ap (put counted (Keep 1)) h.2 ∙ one_more k (closed counted (gather counted (mapped counted false r s))))
normal-both true (suc k) r s =
    let h : (rest : List (Section ℕ)) × (gather counted (mapped counted true (times counted (suc k) stays r) (times counted (suc k) stays s)) ≡ shut rest) ×
    (normal counted rest ≡ normal counted (Keep (suc k) ∷ closed counted (gather counted (mapped counted true r s)))) = normal-both true k r s in
    (Keep 1 ∷ closed counted (shut h.0), ap (λ o. shut (Keep 1 ∷ closed counted o)) h.1, ap (put counted (Keep 1)) h.2 ∙ one_more k (closed counted (gather counted (mapped counted true r s))))

gather-deleted : (before : Bool) (k : ℕ) (r s : Along_old) → gather counted (mapped counted before (times counted k stays r) (times counted k follows s)) ≡ gather counted (stretch false k 0 ∷ mapped counted before r s)
gather-deleted before zero r s = let g : Open ℕ = gather counted (mapped counted before r s) in open_same g.count (0 + g.count) g.text (0 + g.text) g.rest (omega arith) (omega arith)
gather-deleted false (suc k) r s =
    let g : Open ℕ = gather counted (mapped counted false r s) in
    rw (gather-deleted false k r s) (open_same (1 + (k + g.count)) (suc k + g.count) (0 + (0 + g.text)) (0 + g.text) g.rest (omega arith) (omega arith))
gather-deleted true (suc k) r s =
    let g : Open ℕ = gather counted (mapped counted true r s) in
    rw (gather-deleted true k r s) (open_same (1 + (k + g.count)) (suc k + g.count) (0 + (0 + g.text)) (0 + g.text) g.rest (omega arith) (omega arith))

gather-gone : (before : Bool) (k : ℕ) (y : Fate ℕ) (r s : Along_old) → (y ≡ stays) ⊎ (y ≡ follows) → gather counted (mapped counted before (times counted k follows r) (times counted k y s)) ≡ gather counted (mapped counted before r s)
gather-gone before zero y r s q = refl
gather-gone false (suc k) stays r s q = gather-gone false k stays r s q
gather-gone true (suc k) stays r s q = gather-gone true k stays r s q
gather-gone false (suc k) follows r s q = gather-gone false k follows r s q
gather-gone true (suc k) follows r s q = gather-gone true k follows r s q
gather-gone before (suc k) (leaves t) r s (inl q) = cc
gather-gone before (suc k) (leaves t) r s (inr q) = cc

pub run_both : (w : Weave) (before : Bool) (k : ℕ) (r s : Along_old) →
    woven w (single (Keep (suc k)) ∷ mapped counted before r s) ≡ woven w (mapped counted before (times counted (suc k) stays r) (times counted (suc k) stays s))
run_both w before k r s =
    let h : (rest : List (Section ℕ)) × (gather counted (mapped counted before (times counted (suc k) stays r) (times counted (suc k) stays s)) ≡ shut rest) ×
    (normal counted rest ≡ normal counted (Keep (suc k) ∷ closed counted (gather counted (mapped counted before r s)))) = normal-both before k r s in
    woven-rest w (single (Keep (suc k)) ∷ mapped counted before r s) (mapped counted before (times counted (suc k) stays r) (times counted (suc k) stays s))
    (Keep (suc k) ∷ closed counted (gather counted (mapped counted before r s))) h.0 refl h.1 (sym h.2)

pub run_deleted : (w : Weave) (before : Bool) (k : ℕ) (r s : Along_old) →
    woven w (stretch false k 0 ∷ mapped counted before r s) ≡ woven w (mapped counted before (times counted k stays r) (times counted k follows s))
run_deleted w before k r s =
    woven-gather w (stretch false k 0 ∷ mapped counted before r s) (mapped counted before (times counted k stays r) (times counted k follows s)) (sym (gather-deleted before k r s))

pub run_gone : (w : Weave) (before : Bool) (k : ℕ) (y : Fate ℕ) (r s : Along_old) → (y ≡ stays) ⊎ (y ≡ follows) →
    woven w (mapped counted before r s) ≡ woven w (mapped counted before (times counted k follows r) (times counted k y s))
run_gone w before k y r s q = woven-gather w (mapped counted before r s) (mapped counted before (times counted k follows r) (times counted k y s)) (sym (gather-gone before k y r s q))
