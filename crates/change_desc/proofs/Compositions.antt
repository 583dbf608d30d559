-- Composing two rows, column by column: what the next columns come to.
use Rattle.std.proofs.Common.{◌≡◌, ℕ, zero, suc, ◌+◌, Bool, true, false, ◌&&◌, List, [], ◌∷◌, ◌++◌, replicate, refl, sym, ap, ◌∙◌, append_assoc, arith, add-zero}
use Rattle.change_desc.specs.declared.section.Section.{Section}
use Rattle.change_desc.specs.declared.section.Section.TheVariants.{Keep, Replace}
use Rattle.change_desc.specs.declared.weave.Weave.{Weave}
use Rattle.change_desc.specs.Sections.{counted, normal, put}
use Rattle.change_desc.specs.Columns.{Row, last, next, Fate, stays, leaves, follows, Origin, old, new, more, in_front, times, mores}
use Rattle.change_desc.specs.Pieces.{Piece, single, stretch, Open, closed, gather}
use Rattle.change_desc.specs.Compose.{composed, is_cut_new, between}
use Rattle.change_desc.specs.Tails.{is_fresh_new, is_fresh_old}
use Rattle.change_desc.specs.Weaving.{woven}
use Rattle.change_desc.proofs.Normal.{counted_laws, normal-back, put-put, in_order-normal}

abbrev pub Along_new : Type 0
Along_new = Row ℕ (Origin (Unit {0}))

abbrev pub Along_old : Type 0
Along_old = Row ℕ (Fate ℕ)

-- pieces that gather to the same come to the same
pub woven-gather : (w : Weave) (ps qs : List (Piece ℕ)) → gather counted ps ≡ gather counted qs → woven w ps ≡ woven w qs
woven-gather w ps qs e = rw e refl

-- and so do pieces that open nothing and have the same normal form
abbrev pub shut : List (Section ℕ) → Open ℕ
shut r = record { count = 0; text = 0; rest = r }

pub woven-rest : (w : Weave) (ps qs : List (Piece ℕ)) (r s : List (Section ℕ)) → gather counted ps ≡ shut r → gather counted qs ≡ shut s → normal counted r ≡ normal counted s → woven w ps ≡ woven w qs
woven-rest w ps qs r s e f h =
    rw (e, f, ← (append_assoc w.sections.items (Replace (w.count + 0) (w.len + 0) ∷ []) r), ← (append_assoc w.sections.items (Replace (w.count + 0) (w.len + 0) ∷ []) s))
    (normal-back counted counted_laws (w.sections.items ++ Replace (w.count + 0) (w.len + 0) ∷ []) r s h)

-- the first column of a replacement
pub open_old_leaves : (w : Weave) (u : ℕ) (r : Along_new) (s : Along_old) → woven w (stretch true 1 u ∷ composed counted r s) ≡ woven w (composed counted (next 0 old r) (next 0 (leaves u) s))
open_old_leaves w u r s = refl

pub open_new_stays : (w : Weave) (n : ℕ) (r : Along_new) (s : Along_old) → woven w (stretch true n 1 ∷ composed counted r s) ≡ woven w (composed counted (next 0 (new n tt) r) (next 0 stays s))
open_new_stays w n r s = refl

pub open_new_leaves : (w : Weave) (n u : ℕ) (r : Along_new) (s : Along_old) → woven w (stretch true n u ∷ composed counted r s) ≡ woven w (composed counted (next 0 (new n tt) r) (next 0 (leaves u) s))
open_new_leaves w n u r s = refl

pub open_same : (a b c d : ℕ) (r : List (Section ℕ)) → a ≡ b → c ≡ d → ◌≡◌ {A = Open ℕ} (record { count = a; text = c; rest = r }) (record { count = b; text = d; rest = r })
open_same a b c d r e f = rw (e, f) refl

pub open_more_leaves : (w : Weave) (u : ℕ) (r : Along_new) (s : Along_old) → woven w (stretch false 0 u ∷ composed counted r s) ≡ woven w (composed counted (next 0 (more tt) r) (next 0 (leaves u) s))
open_more_leaves w u r s =
    let g : Open ℕ = gather counted (composed counted r s) in
    woven-gather w (stretch false 0 u ∷ composed counted r s) (composed counted (next 0 (more tt) r) (next 0 (leaves u) s))
    (open_same (0 + g.count) (0 + (0 + g.count)) (u + g.text) (0 + (u + g.text)) g.rest (omega arith) (omega arith))

pub open_new_follows : (w : Weave) (n : ℕ) (r : Along_new) (s : Along_old) → woven w (stretch false n 0 ∷ composed counted r s) ≡ woven w (composed counted (next 0 (new n tt) r) (next 0 follows s))
open_new_follows w n r s =
    let g : Open ℕ = gather counted (composed counted r s) in
    woven-gather w (stretch false n 0 ∷ composed counted r s) (composed counted (next 0 (new n tt) r) (next 0 follows s))
    (open_same (n + g.count) (0 + (n + g.count)) (0 + g.text) (0 + (0 + g.text)) g.rest (omega arith) (omega arith))

-- columns inside a replacement, many at once
gather-old_follows : (k : ℕ) (r : Along_new) (s : Along_old) → gather counted (composed counted (times counted k old r) (times counted k follows s)) ≡ gather counted (stretch false k 0 ∷ composed counted r s)
gather-old_follows zero r s = let g : Open ℕ = gather counted (composed counted r s) in open_same g.count (0 + g.count) g.text (0 + g.text) g.rest (omega arith) (omega arith)
gather-old_follows (suc k) r s =
    let g : Open ℕ = gather counted (composed counted r s) in
    rw (gather-old_follows k r s) (open_same (0 + (1 + (k + g.count))) (suc k + g.count) (0 + (0 + (0 + g.text))) (0 + g.text) g.rest (omega arith) (omega arith))

gather-more_stays : (k : ℕ) (r : Along_new) (s : Along_old) → gather counted (composed counted (mores counted (replicate k tt) r) (times counted k stays s)) ≡ gather counted (stretch false 0 k ∷ composed counted r s)
gather-more_stays zero r s = let g : Open ℕ = gather counted (composed counted r s) in open_same g.count (0 + g.count) g.text (0 + g.text) g.rest (omega arith) (omega arith)
gather-more_stays (suc k) r s =
    let g : Open ℕ = gather counted (composed counted r s) in
    rw (gather-more_stays k r s) (open_same (0 + (0 + (0 + g.count))) (0 + g.count) (0 + (1 + (k + g.text))) (suc k + g.text) g.rest (omega arith) (omega arith))

gather-more_follows : (k : ℕ) (r : Along_new) (s : Along_old) → gather counted (composed counted (mores counted (replicate k tt) r) (times counted k follows s)) ≡ gather counted (composed counted r s)
gather-more_follows zero r s = refl
gather-more_follows (suc k) r s =
    let g : Open ℕ = gather counted (composed counted r s) in
    rw (gather-more_follows k r s) (open_same (0 + (0 + g.count)) g.count (0 + (0 + g.text)) g.text g.rest (omega arith) (omega arith))

-- characters that both keep, many at once
normal-keep : (k : ℕ) (r : Along_new) (s : Along_old) → (rest : List (Section ℕ)) × (gather counted (composed counted (times counted (suc k) old r) (times counted (suc k) stays s)) ≡ shut rest) ×
    (normal counted rest ≡ normal counted (Keep (suc k) ∷ closed counted (gather counted (composed counted r s))))
normal-keep zero r s = (Keep 1 ∷ closed counted (gather counted (composed counted r s)), refl, refl)
normal-keep (suc k) r s =
    let h : (rest : List (Section ℕ)) × (gather counted (composed counted (times counted (suc k) old r) (times counted (suc k) stays s)) ≡ shut rest) ×
    (normal counted rest ≡ normal counted (Keep (suc k) ∷ closed counted (gather counted (composed counted r s)))) = normal-keep k r s in (
      Keep 1 ∷ closed counted (shut h.0),
      ap (λ o. shut (Keep 1 ∷ closed counted o)) h.1,
      ap (put counted (Keep 1)) h.2 ∙ (sym (put-put counted counted_laws (Keep 1) (Keep (suc k)) (normal counted (closed counted (gather counted (composed counted r s)))) refl
          (in_order-normal counted counted_laws (closed counted (gather counted (composed counted r s))))) ∙
          ap (λ n. put counted (Keep n) (normal counted (closed counted (gather counted (composed counted r s))))) one_more),
    )
  where
    one_more : 1 + suc k ≡ suc (suc k)
    one_more = omega arith

pub keep_both : (w : Weave) (k : ℕ) (r : Along_new) (s : Along_old) →
    woven w (single (Keep (suc k)) ∷ composed counted r s) ≡ woven w (composed counted (times counted (suc k) old r) (times counted (suc k) stays s))
keep_both w k r s =
    let h : (rest : List (Section ℕ)) × (gather counted (composed counted (times counted (suc k) old r) (times counted (suc k) stays s)) ≡ shut rest) ×
    (normal counted rest ≡ normal counted (Keep (suc k) ∷ closed counted (gather counted (composed counted r s)))) = normal-keep k r s in
    woven-rest w (single (Keep (suc k)) ∷ composed counted r s) (composed counted (times counted (suc k) old r) (times counted (suc k) stays s))
    (Keep (suc k) ∷ closed counted (gather counted (composed counted r s))) h.0 refl h.1 (sym h.2)

pub run_old_follows : (w : Weave) (k : ℕ) (r : Along_new) (s : Along_old) → woven w (stretch false k 0 ∷ composed counted r s) ≡ woven w (composed counted (times counted k old r) (times counted k follows s))
run_old_follows w k r s = woven-gather w (stretch false k 0 ∷ composed counted r s) (composed counted (times counted k old r) (times counted k follows s)) (sym (gather-old_follows k r s))

pub run_more_stays : (w : Weave) (k : ℕ) (r : Along_new) (s : Along_old) → woven w (stretch false 0 k ∷ composed counted r s) ≡ woven w (composed counted (mores counted (replicate k tt) r) (times counted k stays s))
run_more_stays w k r s = woven-gather w (stretch false 0 k ∷ composed counted r s) (composed counted (mores counted (replicate k tt) r) (times counted k stays s)) (sym (gather-more_stays k r s))

pub run_more_follows : (w : Weave) (k : ℕ) (r : Along_new) (s : Along_old) → woven w (composed counted r s) ≡ woven w (composed counted (mores counted (replicate k tt) r) (times counted k follows s))
run_more_follows w k r s = woven-gather w (composed counted r s) (composed counted (mores counted (replicate k tt) r) (times counted k follows s)) (sym (gather-more_follows k r s))

-- a pure deletion or insertion before a gap
deletions_join : (w : Weave) (n m : ℕ) (ps : List (Piece ℕ)) → woven w (single (Replace (suc n) 0) ∷ single (Replace m 0) ∷ ps) ≡ woven w (single (Replace (suc n + m) 0) ∷ ps)
deletions_join w n zero ps = rw (add-zero (suc n)) refl
deletions_join w n (suc m) ps =
    let e : suc n + suc m ≡ suc (n + suc m) = omega arith in
    woven-rest w (single (Replace (suc n) 0) ∷ single (Replace (suc m) 0) ∷ ps) (single (Replace (suc n + suc m) 0) ∷ ps)
    (Replace (suc n) 0 ∷ Replace 0 0 ∷ Replace (suc m) 0 ∷ closed counted (gather counted ps)) (Replace (suc n + suc m) 0 ∷ closed counted (gather counted ps)) refl (rw e refl)
    (sym (put-put counted counted_laws (Replace (suc n) 0) (Replace (suc m) 0) (normal counted (closed counted (gather counted ps))) refl (in_order-normal counted counted_laws (closed counted (gather counted ps)))) ∙ rw e refl)

pub insertions_join : (w : Weave) (u v : ℕ) (ps : List (Piece ℕ)) → woven w (single (Replace 0 (suc u)) ∷ single (Replace 0 v) ∷ ps) ≡ woven w (single (Replace 0 (suc u + v)) ∷ ps)
insertions_join w u zero ps = rw (add-zero (suc u)) refl
insertions_join w u (suc v) ps =
    let e : suc u + suc v ≡ suc (u + suc v) = omega arith in
    woven-rest w (single (Replace 0 (suc u)) ∷ single (Replace 0 (suc v)) ∷ ps) (single (Replace 0 (suc u + suc v)) ∷ ps)
    (Replace 0 (suc u) ∷ Replace 0 0 ∷ Replace 0 (suc v) ∷ closed counted (gather counted ps)) (Replace 0 (suc u + suc v) ∷ closed counted (gather counted ps)) refl (rw e refl)
    (sym (put-put counted counted_laws (Replace 0 (suc u)) (Replace 0 (suc v)) (normal counted (closed counted (gather counted ps))) refl (in_order-normal counted counted_laws (closed counted (gather counted ps)))) ∙ rw e refl)

abbrev pub alike : Along_new → Along_old → Type 0
alike (last n) (last t) = Unit {0}
alike (next n x r) (next t y s) = Unit {0}
alike _ _ = ⊥

pub delete_alone : (w : Weave) (n : ℕ) (r : Along_new) (s : Along_old) → alike r s → is_fresh_new r ≡ true → is_fresh_old s ≡ true →
    woven w (single (Replace (suc n) 0) ∷ composed counted r s) ≡ woven w (composed counted (in_front counted (suc n) r) s)
delete_alone w n (last m) (last t) a f g = deletions_join w n m (single (Replace 0 t) ∷ [])
delete_alone w n (last m) (next t y s) a f g = absurd a
delete_alone w n (next m x r) (last t) a f g = absurd a
delete_alone w n (next m x r) (next t y s) a f g = rw (f, g) (deletions_join w n m (single (Replace 0 t) ∷ between counted true x y ∷ composed counted r s))

-- where A has a pure deletion no more
abbrev pub no_gap : Along_new → Type 0
no_gap (last n) = n ≡ 0
no_gap (next n x r) = n ≡ 0

pub insert_alone : (w : Weave) (u : ℕ) (r : Along_new) (s : Along_old) → alike r s → no_gap r → is_fresh_new r ≡ true → is_fresh_old s ≡ true →
    woven w (single (Replace 0 (suc u)) ∷ composed counted r s) ≡ woven w (composed counted r (in_front counted (suc u) s))
insert_alone w u (last m) (last t) a z f g = rw z (insertions_join w u t [])
insert_alone w u (last m) (next t y s) a z f g = absurd a
insert_alone w u (next m x r) (last t) a z f g = absurd a
insert_alone w u (next m x r) (next t y s) a z f g = rw (z, f, g) (insertions_join w u t (between counted true x y ∷ composed counted r s))

and-false : (b : Bool) → (b && false) ≡ false
and-false true = refl
and-false false = refl

pub delete_inside : (w : Weave) (n : ℕ) (r : Along_new) (s : Along_old) → alike r s → is_fresh_old s ≡ false →
    woven w (stretch false n 0 ∷ composed counted r s) ≡ woven w (composed counted (in_front counted n r) s)
delete_inside w n (last m) (last t) a g = cc
delete_inside w n (last m) (next t y s) a g = absurd a
delete_inside w n (next m x r) (last t) a g = absurd a
delete_inside w n (next m x r) (next t y s) a g =
    rw (g, and-false (is_cut_new x))
    (woven-gather w (stretch false n 0 ∷ stretch false m t ∷ between counted false x y ∷ composed counted r s) (stretch false (n + m) t ∷ between counted false x y ∷ composed counted r s)
    (let o : Open ℕ = gather counted (between counted false x y ∷ composed counted r s) in
    open_same (n + (m + o.count)) (n + m + o.count) (0 + (t + o.text)) (t + o.text) o.rest (omega arith) (omega arith)))

pub insert_inside : (w : Weave) (u : ℕ) (r : Along_new) (s : Along_old) → alike r s → is_fresh_new r ≡ false →
    woven w (stretch false 0 u ∷ composed counted r s) ≡ woven w (composed counted r (in_front counted u s))
insert_inside w u (last m) (last t) a f = cc
insert_inside w u (last m) (next t y s) a f = absurd a
insert_inside w u (next m x r) (last t) a f = absurd a
insert_inside w u (next m x r) (next t y s) a f =
    rw f
    (woven-gather w (stretch false 0 u ∷ stretch false m t ∷ between counted false x y ∷ composed counted r s) (stretch false m (u + t) ∷ between counted false x y ∷ composed counted r s)
    (let o : Open ℕ = gather counted (between counted false x y ∷ composed counted r s) in
    open_same (0 + (m + o.count)) (m + o.count) (u + (t + o.text)) (u + t + o.text) o.rest (omega arith) (omega arith)))
