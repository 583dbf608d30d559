-- The arms of a step of a mapping.
use Rattle.std.proofs.Common.{◌≡◌, ℕ, zero, suc, ◌+◌, ◌-◌, ◌≤◌, ◌<◌, Bool, true, false, ◌⊎◌, inl, inr, List, ◌∷◌, refl, ◌∙◌, arith}
use Rattle.change_desc.specs.declared.section.Section.TheVariants.{Keep, Replace}
use Rattle.change_desc.specs.declared.tail.Tail.{Tail}
use Rattle.change_desc.specs.declared.tail.Tail.TheVariants.{Kept, Fresh, Opened}
use Rattle.change_desc.specs.declared.weave.Weave.{Weave}
use Rattle.change_desc.specs.Sections.{counted, normal}
use Rattle.change_desc.specs.Columns.{last, next, stays, follows, in_front, times, width}
use Rattle.change_desc.specs.Pieces.{Piece, single, stretch}
use Rattle.change_desc.specs.Map.{mapped}
use Rattle.change_desc.specs.Tails.{row_old, opened, is_fresh, left_old, still_new, weight, IsTail, beyond, is_opened}
use Rattle.change_desc.specs.Weaving.{woven, Takes, old_done}
use Rattle.change_desc.specs.MapSteps.{Level, Maps, second_next}
use Rattle.change_desc.proofs.Compositions.{Along_old}
use Rattle.change_desc.proofs.Arms.{times-stretch, row_old-opened, is_tail-opened, left_old-opened, still_new-opened, width-row_old}
use Rattle.change_desc.proofs.Mappings.{level, quiet, first_text, first_insertion, first_text_before, first_insertion_before, second_text, second_insertion, second_text_after, second_insertion_after, run_both, run_deleted, run_gone}

level_width : (r s : Along_old) → width r ≡ width s → level r s
level_width (last i) (last j) e = tt
level_width (last i) (next j y s) e = absurd (omega arith)
level_width (next i x r) (last j) e = absurd (omega arith)
level_width (next i x r) (next j y s) e = tt

weight_le_one : (n : ℕ) → weight (opened n) ≤ 1
weight_le_one zero = omega arith
weight_le_one (suc n) = omega arith

weight_kept : (n : ℕ) → weight (Kept n) ≤ 1
weight_kept zero = omega arith
weight_kept (suc n) = omega arith

kept_weighs : (n : ℕ) → 0 < n → weight (Kept n) ≡ 1
kept_weighs zero h = absurd (omega arith)
kept_weighs (suc n) h = refl

-- a tail that is not to begin puts nothing in
quiet-row_old : (a : Tail) (r : Along_old) → is_fresh a ≡ false → IsTail a → (a ≡ Kept 0 → r ≡ last 0) → quiet (row_old a r)
quiet-row_old (Kept zero) r f i e = rw (e refl) refl
quiet-row_old (Kept (suc n)) r f i e = refl
quiet-row_old (Fresh n t) r f i e = cc
quiet-row_old (Opened zero) r f i e = absurd (omega arith)
quiet-row_old (Opened (suc n)) r f i e = refl

pub rows_level : (a b : Tail) (r s : Along_old) → Level a b r s → level (row_old a r) (row_old b s)
rows_level a b r s h = level_width (row_old a r) (row_old b s) (omega (arith, h.level, width-row_old a r, width-row_old b s))

-- B's text at a place, where it stands first or A has none
pub second_replaces : (before : Bool) (w v : Weave) (a : Tail) (n u : ℕ) → IsTail a → (before ≡ true) ⊎ (is_fresh a ≡ false) → 0 < n → Takes w v (stretch true 0 u) 0 u →
    Maps before w v a (Fresh n u) a (opened n)
second_replaces before w v a zero u i f p t = absurd (omega arith)
second_replaces before w v a (suc n) u i f p t = record {
  goes = λ r s h. t.goes (mapped counted before (row_old a r) (times counted (suc n) follows s)) ∙ cases before f r s h;
  is_normal = t.is_normal;
  is_tail = (i, omega arith);
  old = omega (arith, t.old);
  level = refl;
  lighter = omega arith;
}
  where
    cases : (before : Bool) → (before ≡ true) ⊎ (is_fresh a ≡ false) → (r s : Along_old) → Level a (Fresh (suc n) u) r s →
        woven w (stretch true 0 u ∷ mapped counted before (row_old a r) (times counted (suc n) follows s)) ≡ woven w (mapped counted before (row_old a r) (row_old (Fresh (suc n) u) s))
    cases true f r s h = second_text w u (row_old a r) (times counted n follows s)
        (level_width (row_old a r) (next 0 follows (times counted n follows s)) (omega (arith, h.level, width-row_old a r, width-row_old (Fresh (suc n) u) s)))
    cases false (inl e) r s h = cc
    cases false (inr e) r s h = second_text_after w u (row_old a r) (times counted n follows s)
        (level_width (row_old a r) (next 0 follows (times counted n follows s)) (omega (arith, h.level, width-row_old a r, width-row_old (Fresh (suc n) u) s)))
        (quiet-row_old a r e i h.ended_first)

pub second_inserts : (before : Bool) (w v : Weave) (a : Tail) (u : ℕ) → IsTail a → (before ≡ true) ⊎ (is_fresh a ≡ false) → 0 < u → Takes w v (single (Replace 0 u)) 0 u →
    Maps before w v a (Fresh 0 u) a (Kept 0)
second_inserts before w v a zero i f p t = absurd (omega arith)
second_inserts before w v a (suc u) i f p t = record {
  goes = λ r s h. t.goes (mapped counted before (row_old a r) s) ∙ cases before f r s h;
  is_normal = t.is_normal;
  is_tail = (i, tt);
  old = omega (arith, t.old);
  level = refl;
  lighter = omega arith;
}
  where
    cases : (before : Bool) → (before ≡ true) ⊎ (is_fresh a ≡ false) → (r s : Along_old) → Level a (Fresh 0 (suc u)) r s →
        woven w (single (Replace 0 (suc u)) ∷ mapped counted before (row_old a r) s) ≡ woven w (mapped counted before (row_old a r) (in_front counted (suc u) s))
    cases true f r s h = second_insertion w u (row_old a r) s (level_width (row_old a r) s (omega (arith, h.level, width-row_old a r)))
    cases false (inl e) r s h = cc
    cases false (inr e) r s h = second_insertion_after w u (row_old a r) s (level_width (row_old a r) s (omega (arith, h.level, width-row_old a r))) (quiet-row_old a r e i h.ended_first)

-- A's text at a place, where it stands first or B has none
pub first_replaces : (before : Bool) (w v : Weave) (b : Tail) (n t : ℕ) → IsTail b → (before ≡ false) ⊎ (is_fresh b ≡ false) → 0 < n →
    normal counted v.sections.items ≡ v.sections.items → old_done v ≡ old_done w + t → ((ps : List (Piece ℕ)) → woven v ps ≡ woven w (single (Keep t) ∷ ps)) →
    Maps before w v (Fresh n t) b (opened n) b
first_replaces before w v b zero t i f p o q g = absurd (omega arith)
first_replaces before w v b (suc n) t i f p o q g = record {
  goes = λ r s h. g (mapped counted before (times counted (suc n) follows r) (row_old b s)) ∙ cases before f r s h;
  is_normal = o;
  is_tail = (omega arith, i);
  old = omega (arith, q);
  level = refl;
  lighter = omega arith;
}
  where
    cases : (before : Bool) → (before ≡ false) ⊎ (is_fresh b ≡ false) → (r s : Along_old) → Level (Fresh (suc n) t) b r s →
        woven w (single (Keep t) ∷ mapped counted before (times counted (suc n) follows r) (row_old b s)) ≡ woven w (mapped counted before (row_old (Fresh (suc n) t) r) (row_old b s))
    cases false f r s h = first_text w t (times counted n follows r) (row_old b s)
        (level_width (next 0 follows (times counted n follows r)) (row_old b s) (omega (arith, h.level, width-row_old (Fresh (suc n) t) r, width-row_old b s)))
    cases true (inl e) r s h = cc
    cases true (inr e) r s h = first_text_before w t (times counted n follows r) (row_old b s)
        (level_width (next 0 follows (times counted n follows r)) (row_old b s) (omega (arith, h.level, width-row_old (Fresh (suc n) t) r, width-row_old b s)))
        (quiet-row_old b s e i h.ended_second)

pub first_inserts : (before : Bool) (w v : Weave) (b : Tail) (t : ℕ) → IsTail b → (before ≡ false) ⊎ (is_fresh b ≡ false) → 0 < t → Takes w v (single (Keep t)) t t →
    Maps before w v (Fresh 0 t) b (Kept 0) b
first_inserts before w v b zero i f p t = absurd (omega arith)
first_inserts before w v b (suc n) i f p t = record {
  goes = λ r s h. t.goes (mapped counted before r (row_old b s)) ∙ cases before f r s h;
  is_normal = t.is_normal;
  is_tail = (tt, i);
  old = omega (arith, t.old);
  level = refl;
  lighter = omega arith;
}
  where
    cases : (before : Bool) → (before ≡ false) ⊎ (is_fresh b ≡ false) → (r s : Along_old) → Level (Fresh 0 (suc n)) b r s →
        woven w (single (Keep (suc n)) ∷ mapped counted before r (row_old b s)) ≡ woven w (mapped counted before (in_front counted (suc n) r) (row_old b s))
    cases false f r s h = first_insertion w n r (row_old b s) (level_width r (row_old b s) (omega (arith, h.level, width-row_old b s)))
    cases true (inl e) r s h = cc
    cases true (inr e) r s h = first_insertion_before w n r (row_old b s) (level_width r (row_old b s) (omega (arith, h.level, width-row_old b s))) (quiet-row_old b s e i h.ended_second)

-- characters
pub both_keep_on : (before : Bool) (w v : Weave) (m n k : ℕ) → 0 < k → k ≤ m → k ≤ n → Takes w v (single (Keep k)) k k → Maps before w v (Kept m) (Kept n) (Kept (m - k)) (Kept (n - k))
both_keep_on before w v m n zero p l j t = absurd (omega arith)
both_keep_on before w v m n (suc k) p l j t = record {
  goes = λ r s h. t.goes (mapped counted before (times counted (m - suc k) stays r) (times counted (n - suc k) stays s)) ∙
      rw (times-stretch (suc k) m stays r l, times-stretch (suc k) n stays s j) (run_both w before k (times counted (m - suc k) stays r) (times counted (n - suc k) stays s));
  is_normal = t.is_normal;
  is_tail = (tt, tt);
  old = omega (arith, t.old);
  level = omega arith;
  lighter = omega (arith, weight_kept (m - suc k), weight_kept (n - suc k), kept_weighs m (omega arith), kept_weighs n (omega arith));
}

pub second_deletes : (before : Bool) (w v : Weave) (m n k : ℕ) → 0 < k → k ≤ m → k ≤ n → Takes w v (stretch false k 0) k 0 → Maps before w v (Kept m) (Opened n) (Kept (m - k)) (opened (n - k))
second_deletes before w v m n k p l j t = record {
  goes = λ r s h. rw (row_old-opened (n - k) s, times-stretch k m stays r l, times-stretch k n follows s j)
      (t.goes (mapped counted before (times counted (m - k) stays r) (times counted (n - k) follows s)) ∙ run_deleted w before k (times counted (m - k) stays r) (times counted (n - k) follows s));
  is_normal = t.is_normal;
  is_tail = (tt, is_tail-opened (n - k));
  old = omega (arith, t.old);
  level = rw (left_old-opened (n - k)) (omega arith);
  lighter = omega (arith, weight_kept (m - k), weight_le_one (n - k), kept_weighs m (omega arith));
}

pub first_deletes : (before : Bool) (w : Weave) (m n k : ℕ) → normal counted w.sections.items ≡ w.sections.items → 0 < k → k ≤ m → k ≤ n → Maps before w w (Opened m) (Kept n) (opened (m - k)) (Kept (n - k))
first_deletes before w m n k o p l j = record {
  goes = λ r s h. rw (row_old-opened (m - k) r, times-stretch k m follows r l, times-stretch k n stays s j)
      (run_gone w before k stays (times counted (m - k) follows r) (times counted (n - k) stays s) (inl refl));
  is_normal = o;
  is_tail = (is_tail-opened (m - k), tt);
  old = rw (still_new-opened (m - k)) refl;
  level = rw (left_old-opened (m - k)) (omega arith);
  lighter = rw (left_old-opened (m - k)) (omega (arith, weight_kept (n - k), weight_le_one (m - k), kept_weighs n (omega arith)));
}

pub both_delete_on : (before : Bool) (w : Weave) (m n k : ℕ) → normal counted w.sections.items ≡ w.sections.items → 0 < k → k ≤ m → k ≤ n → Maps before w w (Opened m) (Opened n) (opened (m - k)) (opened (n - k))
both_delete_on before w m n k o p l j = record {
  goes = λ r s h. rw (row_old-opened (m - k) r, row_old-opened (n - k) s, times-stretch k m follows r l, times-stretch k n follows s j)
      (run_gone w before k follows (times counted (m - k) follows r) (times counted (n - k) follows s) (inr refl));
  is_normal = o;
  is_tail = (is_tail-opened (m - k), is_tail-opened (n - k));
  old = rw (still_new-opened (m - k)) refl;
  level = rw (left_old-opened (m - k), left_old-opened (n - k)) (omega arith);
  lighter = rw (left_old-opened (m - k)) (omega (arith, weight_le_one (n - k), weight_le_one (m - k)));
}

-- the three kinds of step
second_stands : (before : Bool) (a b : Tail) → second_next before a b ≡ true → (before ≡ true) ⊎ (is_fresh a ≡ false)
second_stands true a b h = inl refl
second_stands false (Kept n) b h = inr refl
second_stands false (Opened n) b h = inr refl
second_stands false (Fresh n t) (Kept m) h = cc
second_stands false (Fresh n t) (Opened m) h = cc
second_stands false (Fresh n t) (Fresh m u) h = cc

pub second_text_step : (before : Bool) (w v : Weave) (a b : Tail) (n u : ℕ) → second_next before a b ≡ true → IsTail a → IsTail b → n ≡ left_old b → u ≡ still_new b →
    (n ≡ 0 → Takes w v (single (Replace 0 u)) 0 u) → (0 < n → Takes w v (stretch true 0 u) 0 u) → Maps before w v a b a (opened n)
second_text_step before w v a (Kept m) n u q i j e f h k = cc
second_text_step before w v a (Opened m) n u q i j e f h k = cc
second_text_step before w v a (Fresh zero t) n u q i j e f h k =
    rw e (rw f at (second_inserts before w v a u i (second_stands before a (Fresh zero t) q) (omega arith) (h e)))
second_text_step before w v a (Fresh (suc m) t) n u q i j e f h k =
    rw e (rw f at (second_replaces before w v a (suc m) u i (second_stands before a (Fresh (suc m) t) q) (omega arith) (k (omega arith))))

first_stands : (before : Bool) (a b : Tail) → second_next before a b ≡ false → is_fresh a ≡ true → (before ≡ false) ⊎ (is_fresh b ≡ false)
first_stands before a (Kept n) h f = inr refl
first_stands before a (Opened n) h f = inr refl
first_stands false a (Fresh n t) h f = inl refl
first_stands true a (Fresh n t) h f = cc

pub first_text_step : (before : Bool) (w v : Weave) (a b : Tail) (n t : ℕ) → second_next before a b ≡ false → is_fresh a ≡ true → IsTail a → IsTail b → n ≡ left_old a → t ≡ still_new a →
    normal counted w.sections.items ≡ w.sections.items → (t ≡ 0 → v ≡ w) → (0 < t → Takes w v (single (Keep t)) t t) → Maps before w v a b (opened n) b
first_text_step before w v (Kept m) b n t q d i j e f o h k = cc
first_text_step before w v (Opened m) b n t q d i j e f o h k = cc
first_text_step before w v (Fresh zero u) b n t q d i j e f o h k =
    rw e (rw f at (first_inserts before w v b t j (first_stands before (Fresh zero u) b q d) (omega arith) (k (omega arith))))
first_text_step before w v (Fresh (suc m) zero) b n t q d i j e f o h k =
    rw (e, h f) (first_replaces before w w b (suc m) 0 j (first_stands before (Fresh (suc m) zero) b q d) (omega arith) o (omega arith) (λ ps. refl))
first_text_step before w v (Fresh (suc m) (suc u)) b n t q d i j e f o h k =
    let s : Takes w v (single (Keep t)) t t = k (omega arith) in
    rw e (rw f at (first_replaces before w v b (suc m) t j (first_stands before (Fresh (suc m) (suc u)) b q d) (omega arith) s.is_normal s.old s.goes))

pub characters_step : (before : Bool) (w v : Weave) (a b : Tail) (k : ℕ) → is_fresh a ≡ false → is_fresh b ≡ false → normal counted w.sections.items ≡ w.sections.items →
    0 < k → k ≤ left_old a → k ≤ left_old b → (is_opened a ≡ true → v ≡ w) → (is_opened a ≡ false → is_opened b ≡ true → Takes w v (stretch false k 0) k 0) →
    (is_opened a ≡ false → is_opened b ≡ false → Takes w v (single (Keep k)) k k) → Maps before w v a b (beyond k a) (beyond k b)
characters_step before w v (Fresh n t) b k f g o p l j h d e = cc
characters_step before w v a (Fresh n t) k f g o p l j h d e = cc
characters_step before w v (Kept m) (Kept n) k f g o p l j h d e = both_keep_on before w v m n k p l j (e refl refl)
characters_step before w v (Kept m) (Opened n) k f g o p l j h d e = second_deletes before w v m n k p l j (d refl refl)
characters_step before w v (Opened m) (Kept n) k f g o p l j h d e = rw (h refl) (first_deletes before w m n k o p l j)
characters_step before w v (Opened m) (Opened n) k f g o p l j h d e = rw (h refl) (both_delete_on before w m n k o p l j)
