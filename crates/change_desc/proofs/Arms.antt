-- The arms of a step.
use Rattle.std.proofs.Common.{length, ◌≡◌, ℕ, zero, suc, ◌+◌, ◌-◌, ◌≤◌, ◌<◌, Bool, true, false, not, replicate, refl, sym, ap, ◌∙◌, arith}
use Rattle.change_desc.specs.declared.section.Section.TheVariants.{Keep, Replace}
use Rattle.change_desc.specs.declared.tail.Tail.{Tail}
use Rattle.change_desc.specs.declared.tail.Tail.TheVariants.{Kept, Fresh, Opened}
use Rattle.change_desc.specs.declared.weave.Weave.{Weave}
use Rattle.change_desc.specs.Sections.{counted, normal}
use Rattle.change_desc.specs.Columns.{width, Row, last, next, stays, follows, old, more, times, mores}
use Rattle.change_desc.specs.Pieces.{single, stretch}
use Rattle.change_desc.specs.Compose.{composed}
use Rattle.change_desc.specs.Tails.{row_new, row_old, is_fresh_new, is_fresh_old, opened, is_opened, is_deletion, is_insertion, left_new, left_old, still_old, still_new, present, IsTail}
use Rattle.change_desc.specs.Weaving.{CanStep, Steps, Takes}
use Rattle.change_desc.proofs.Applies.{width-times, width-in_front, width-mores, width-spell}
use Rattle.change_desc.proofs.Compositions.{Along_new, Along_old, alike, no_gap, open_old_leaves, open_new_stays, open_new_leaves, open_more_leaves, open_new_follows, keep_both, run_old_follows, run_more_stays, run_more_follows, delete_alone, insert_alone, delete_inside, insert_inside}

times-split : {C : Type 0} (k j : ℕ) (c : C) (r : Row ℕ C) → times counted (k + j) c r ≡ times counted k c (times counted j c r)
times-split zero j c r = let e : 0 + j ≡ j = omega arith in rw e refl
times-split (suc k) j c r = let e : suc k + j ≡ suc (k + j) = omega arith in rw e (ap (next 0 c) (times-split k j c r))

mores-split : (k j : ℕ) (r : Along_new) → mores counted (replicate (k + j) tt) r ≡ mores counted (replicate k tt) (mores counted (replicate j tt) r)
mores-split zero j r = let e : 0 + j ≡ j = omega arith in rw e refl
mores-split (suc k) j r = let e : suc k + j ≡ suc (k + j) = omega arith in rw e (ap (next 0 (more tt)) (mores-split k j r))

pub times-stretch : {C : Type 0} (k n : ℕ) (c : C) (r : Row ℕ C) → k ≤ n → times counted n c r ≡ times counted k c (times counted (n - k) c r)
times-stretch k n c r l = let e : n ≡ k + (n - k) = omega arith in ap (λ m. times counted m c r) e ∙ times-split k (n - k) c r

mores-stretch : (k n : ℕ) (r : Along_new) → k ≤ n → mores counted (replicate n tt) r ≡ mores counted (replicate k tt) (mores counted (replicate (n - k) tt) r)
mores-stretch k n r l = let e : n ≡ k + (n - k) = omega arith in ap (λ m. mores counted (replicate m tt) r) e ∙ mores-split k (n - k) r

row_new-opened : (n : ℕ) (r : Along_new) → row_new (opened n) r ≡ mores counted (replicate n tt) r
row_new-opened zero r = refl
row_new-opened (suc n) r = refl

pub row_old-opened : (n : ℕ) (s : Along_old) → row_old (opened n) s ≡ times counted n follows s
row_old-opened zero s = refl
row_old-opened (suc n) s = refl

pub is_tail-opened : (n : ℕ) → IsTail (opened n)
is_tail-opened zero = tt
is_tail-opened (suc n) = omega arith

left_new-opened : (n : ℕ) → left_new (opened n) ≡ n
left_new-opened zero = refl
left_new-opened (suc n) = refl

pub left_old-opened : (n : ℕ) → left_old (opened n) ≡ n
left_old-opened zero = refl
left_old-opened (suc n) = refl

still_old-opened : (n : ℕ) → still_old (opened n) ≡ 0
still_old-opened zero = refl
still_old-opened (suc n) = refl

pub still_new-opened : (n : ℕ) → still_new (opened n) ≡ 0
still_new-opened zero = refl
still_new-opened (suc n) = refl

present_le : (a : Tail) → present a ≤ 1
present_le (Kept zero) = omega arith
present_le (Kept (suc n)) = omega arith
present_le (Fresh n t) = omega arith
present_le (Opened n) = omega arith

present_some : (a : Tail) → 0 < left_new a + left_old a → present a ≡ 1
present_some (Kept zero) h = absurd (omega arith)
present_some (Kept (suc n)) h = refl
present_some (Fresh n t) h = refl
present_some (Opened n) h = refl

-- k characters that both keep
pub kept_kept : (w v : Weave) (m n k : ℕ) → 0 < k → k ≤ m → k ≤ n → Takes w v (single (Keep k)) k k → Steps w v (Kept m) (Kept n) (Kept (m - k)) (Kept (n - k))
kept_kept w v m n zero p l j t = absurd (omega arith)
kept_kept w v m n (suc k) p l j t = record {
  goes = λ r s h. t.goes (composed counted (times counted (m - suc k) old r) (times counted (n - suc k) stays s)) ∙
      rw (times-stretch (suc k) m old r l, times-stretch (suc k) n stays s j) (keep_both w k (times counted (m - suc k) old r) (times counted (n - suc k) stays s));
  is_normal = t.is_normal;
  is_tail = (tt, tt);
  old = omega (arith, t.old);
  new = omega (arith, t.new);
  level = omega arith;
  less = omega (arith, present_le (Kept (m - suc k)), present_le (Kept (n - suc k)), present_some (Kept m) (omega arith), present_some (Kept n) (omega arith));
}

-- one character before which a replacement of the second set begins
pub kept_fresh : (w v : Weave) (m n u : ℕ) → 0 < m → 0 < n → Takes w v (stretch true 1 u) 1 u → Steps w v (Kept m) (Fresh n u) (Kept (m - 1)) (opened (n - 1))
kept_fresh w v zero n u p q t = absurd (omega arith)
kept_fresh w v m zero u p q t = absurd (omega arith)
kept_fresh w v (suc m) (suc n) u p q t =
    let e : suc m - 1 ≡ m = omega arith in
    let f : suc n - 1 ≡ n = omega arith in
    record {
      goes = λ r s h. rw (e, f, row_old-opened n s) (t.goes (composed counted (times counted m old r) (times counted n follows s)) ∙ open_old_leaves w u (times counted m old r) (times counted n follows s));
      is_normal = t.is_normal;
      is_tail = (tt, rw f (is_tail-opened n));
      old = omega (arith, t.old);
      new = rw (f, still_new-opened n) (omega (arith, t.new));
      level = rw (f, left_old-opened n) (omega arith);
      less = rw (e, f) (omega (arith, present_le (Kept m), present_le (opened n)));
    }

pub kept_opened : (w v : Weave) (m n k : ℕ) → 0 < k → k ≤ m → k ≤ n → Takes w v (stretch false k 0) k 0 → Steps w v (Kept m) (Opened n) (Kept (m - k)) (opened (n - k))
kept_opened w v m n k p l j t = record {
  goes = λ r s h. rw (row_old-opened (n - k) s, times-stretch k m old r l, times-stretch k n follows s j)
      (t.goes (composed counted (times counted (m - k) old r) (times counted (n - k) follows s)) ∙ run_old_follows w k (times counted (m - k) old r) (times counted (n - k) follows s));
  is_normal = t.is_normal;
  is_tail = (tt, is_tail-opened (n - k));
  old = omega (arith, t.old);
  new = rw (still_new-opened (n - k)) (omega (arith, t.new));
  level = rw (left_old-opened (n - k)) (omega arith);
  less = omega (arith, present_le (Kept (m - k)), present_le (opened (n - k)), present_some (Kept m) (omega arith));
}

pub fresh_kept : (w v : Weave) (c t n : ℕ) → 0 < t → 0 < n → Takes w v (stretch true c 1) c 1 → Steps w v (Fresh c t) (Kept n) (opened (t - 1)) (Kept (n - 1))
fresh_kept w v c zero n p q k = absurd (omega arith)
fresh_kept w v c t zero p q k = absurd (omega arith)
fresh_kept w v c (suc t) (suc n) p q k =
    let e : suc t - 1 ≡ t = omega arith in
    let f : suc n - 1 ≡ n = omega arith in
    record {
      goes = λ r s h. rw (e, f, row_new-opened t r) (k.goes (composed counted (mores counted (replicate t tt) r) (times counted n stays s)) ∙ open_new_stays w c (mores counted (replicate t tt) r) (times counted n stays s));
      is_normal = k.is_normal;
      is_tail = (rw e (is_tail-opened t), tt);
      old = rw (e, still_old-opened t) (omega (arith, k.old));
      new = omega (arith, k.new);
      level = rw (e, left_new-opened t) (omega arith);
      less = rw (e, f, left_new-opened t) (omega (arith, present_le (opened t), present_le (Kept n)));
    }

pub fresh_fresh : (w v : Weave) (c t n u : ℕ) → 0 < t → 0 < n → Takes w v (stretch true c u) c u → Steps w v (Fresh c t) (Fresh n u) (opened (t - 1)) (opened (n - 1))
fresh_fresh w v c zero n u p q k = absurd (omega arith)
fresh_fresh w v c t zero u p q k = absurd (omega arith)
fresh_fresh w v c (suc t) (suc n) u p q k =
    let e : suc t - 1 ≡ t = omega arith in
    let f : suc n - 1 ≡ n = omega arith in
    record {
      goes = λ r s h. rw (e, f, row_new-opened t r, row_old-opened n s) (k.goes (composed counted (mores counted (replicate t tt) r) (times counted n follows s)) ∙ open_new_leaves w c u (mores counted (replicate t tt) r) (times counted n follows s));
      is_normal = k.is_normal;
      is_tail = (rw e (is_tail-opened t), rw f (is_tail-opened n));
      old = rw (e, still_old-opened t) (omega (arith, k.old));
      new = rw (f, still_new-opened n) (omega (arith, k.new));
      level = rw (e, f, left_new-opened t, left_old-opened n) (omega arith);
      less = rw (e, f, left_new-opened t) (omega (arith, present_le (opened t), present_le (opened n)));
    }

pub fresh_opened : (w v : Weave) (c t n : ℕ) → 0 < t → 0 < n → Takes w v (stretch false c 0) c 0 → Steps w v (Fresh c t) (Opened n) (opened (t - 1)) (opened (n - 1))
fresh_opened w v c zero n p q k = absurd (omega arith)
fresh_opened w v c t zero p q k = absurd (omega arith)
fresh_opened w v c (suc t) (suc n) p q k =
    let e : suc t - 1 ≡ t = omega arith in
    let f : suc n - 1 ≡ n = omega arith in
    record {
      goes = λ r s h. rw (e, f, row_new-opened t r, row_old-opened n s) (k.goes (composed counted (mores counted (replicate t tt) r) (times counted n follows s)) ∙ open_new_follows w c (mores counted (replicate t tt) r) (times counted n follows s));
      is_normal = k.is_normal;
      is_tail = (rw e (is_tail-opened t), rw f (is_tail-opened n));
      old = rw (e, still_old-opened t) (omega (arith, k.old));
      new = rw (f, still_new-opened n) (omega (arith, k.new));
      level = rw (e, f, left_new-opened t, left_old-opened n) (omega arith);
      less = rw (e, f, left_new-opened t) (omega (arith, present_le (opened t), present_le (opened n)));
    }

pub opened_kept : (w v : Weave) (m n k : ℕ) → 0 < k → k ≤ m → k ≤ n → Takes w v (stretch false 0 k) 0 k → Steps w v (Opened m) (Kept n) (opened (m - k)) (Kept (n - k))
opened_kept w v m n k p l j t = record {
  goes = λ r s h. rw (row_new-opened (m - k) r, mores-stretch k m r l, times-stretch k n stays s j)
      (t.goes (composed counted (mores counted (replicate (m - k) tt) r) (times counted (n - k) stays s)) ∙ run_more_stays w k (mores counted (replicate (m - k) tt) r) (times counted (n - k) stays s));
  is_normal = t.is_normal;
  is_tail = (is_tail-opened (m - k), tt);
  old = rw (still_old-opened (m - k)) (omega (arith, t.old));
  new = omega (arith, t.new);
  level = rw (left_new-opened (m - k)) (omega arith);
  less = rw (left_new-opened (m - k)) (omega (arith, present_le (Kept (n - k)), present_le (opened (m - k)), present_some (Kept n) (omega arith)));
}

pub opened_fresh : (w v : Weave) (t n u : ℕ) → 0 < t → 0 < n → Takes w v (stretch false 0 u) 0 u → Steps w v (Opened t) (Fresh n u) (opened (t - 1)) (opened (n - 1))
opened_fresh w v zero n u p q k = absurd (omega arith)
opened_fresh w v t zero u p q k = absurd (omega arith)
opened_fresh w v (suc t) (suc n) u p q k =
    let e : suc t - 1 ≡ t = omega arith in
    let f : suc n - 1 ≡ n = omega arith in
    record {
      goes = λ r s h. rw (e, f, row_new-opened t r, row_old-opened n s) (k.goes (composed counted (mores counted (replicate t tt) r) (times counted n follows s)) ∙ open_more_leaves w u (mores counted (replicate t tt) r) (times counted n follows s));
      is_normal = k.is_normal;
      is_tail = (rw e (is_tail-opened t), rw f (is_tail-opened n));
      old = rw (e, still_old-opened t) (omega (arith, k.old));
      new = rw (f, still_new-opened n) (omega (arith, k.new));
      level = rw (e, f, left_new-opened t, left_old-opened n) (omega arith);
      less = rw (e, f, left_new-opened t) (omega (arith, present_le (opened t), present_le (opened n)));
    }

pub opened_opened : (w : Weave) (m n k : ℕ) → normal counted w.sections.items ≡ w.sections.items → 0 < k → k ≤ m → k ≤ n → Steps w w (Opened m) (Opened n) (opened (m - k)) (opened (n - k))
opened_opened w m n k i p l j = record {
  goes = λ r s h. rw (row_new-opened (m - k) r, row_old-opened (n - k) s, mores-stretch k m r l, times-stretch k n follows s j)
      (run_more_follows w k (mores counted (replicate (m - k) tt) r) (times counted (n - k) follows s));
  is_normal = i;
  is_tail = (is_tail-opened (m - k), is_tail-opened (n - k));
  old = rw (still_old-opened (m - k)) (omega arith);
  new = rw (still_new-opened (n - k)) (omega arith);
  level = rw (left_new-opened (m - k), left_old-opened (n - k)) (omega arith);
  less = rw (left_new-opened (m - k)) (omega (arith, present_le (opened (m - k)), present_le (opened (n - k))));
}

-- gaps
alike_width : (r : Along_new) (s : Along_old) → width r ≡ width s → alike r s
alike_width (last n) (last t) e = tt
alike_width (last n) (next t y s) e = absurd (omega arith)
alike_width (next n x r) (last t) e = absurd (omega arith)
alike_width (next n x r) (next t y s) e = tt

pub width-row_old : (b : Tail) (s : Along_old) → width (row_old b s) ≡ left_old b + width s
width-row_old (Kept n) s = width-times counted n stays s
width-row_old (Fresh zero t) s = width-in_front counted t s ∙ omega arith
width-row_old (Fresh (suc n) t) s = omega (arith, width-times counted n follows s)
width-row_old (Opened n) s = width-times counted n follows s

length-replicate : (n : ℕ) → length (replicate n (tt {0})) ≡ n
length-replicate zero = refl
length-replicate (suc n) = ap suc (length-replicate n)

width-row_new : (a : Tail) (r : Along_new) → width (row_new a r) ≡ left_new a + width r
width-row_new (Kept n) r = width-times counted n old r
width-row_new (Fresh n t) r = omega (arith, width-spell counted n (replicate t tt) r, length-replicate t)
width-row_new (Opened n) r = omega (arith, width-mores counted (replicate n tt) r, length-replicate n)

fresh-row_old : (b : Tail) (s : Along_old) → is_opened b ≡ false → is_fresh_old s ≡ true → is_fresh_old (row_old b s) ≡ true
fresh-row_old (Kept zero) s o f = f
fresh-row_old (Kept (suc n)) s o f = refl
fresh-row_old (Fresh zero t) (last u) o f = refl
fresh-row_old (Fresh zero t) (next u y s) o f = f
fresh-row_old (Fresh (suc n) t) s o f = refl
fresh-row_old (Opened n) s o f = cc

opened-row_old : (b : Tail) (s : Along_old) → is_opened b ≡ true → IsTail b → is_fresh_old (row_old b s) ≡ false
opened-row_old (Kept n) s o f = cc
opened-row_old (Fresh n t) s o f = cc
opened-row_old (Opened zero) s o f = absurd (omega arith)
opened-row_old (Opened (suc n)) s o f = refl

pub delete_single : (w v : Weave) (n : ℕ) (b : Tail) → 0 < n → is_opened b ≡ false → IsTail b → Takes w v (single (Replace n 0)) n 0 → Steps w v (Fresh n 0) b (Kept 0) b
delete_single w v zero b p o i t = absurd (omega arith)
delete_single w v (suc n) b p o i t = record {
  goes = λ r s h. t.goes (composed counted r (row_old b s)) ∙
      delete_alone w n r (row_old b s) (alike_width r (row_old b s) (omega (arith, h.level, width-row_old b s))) h.fresh_new (fresh-row_old b s o h.fresh_old);
  is_normal = t.is_normal;
  is_tail = (tt, i);
  old = omega (arith, t.old);
  new = omega (arith, t.new);
  level = omega arith;
  less = omega arith;
}

pub delete_part : (w v : Weave) (n : ℕ) (b : Tail) → is_opened b ≡ true → IsTail b → Takes w v (stretch false n 0) n 0 → Steps w v (Fresh n 0) b (Kept 0) b
delete_part w v n b o i t = record {
  goes = λ r s h. t.goes (composed counted r (row_old b s)) ∙
      delete_inside w n r (row_old b s) (alike_width r (row_old b s) (omega (arith, h.level, width-row_old b s))) (opened-row_old b s o i);
  is_normal = t.is_normal;
  is_tail = (tt, i);
  old = omega (arith, t.old);
  new = omega (arith, t.new);
  level = omega arith;
  less = omega arith;
}

-- a tail of the first set that is no deletion
abbrev pub NoDeletion : Tail → Type 0
NoDeletion (Kept n) = Unit {0}
NoDeletion (Fresh n t) = 0 < t
NoDeletion (Opened n) = 0 < n

no_gap-row_new : (a : Tail) (r : Along_new) → NoDeletion a → (a ≡ Kept 0 → r ≡ last 0) → no_gap (row_new a r)
no_gap-row_new (Kept zero) r d e = rw (e refl) refl
no_gap-row_new (Kept (suc n)) r d e = refl
no_gap-row_new (Fresh n zero) r d e = absurd (omega arith)
no_gap-row_new (Fresh n (suc t)) r d e = refl
no_gap-row_new (Opened zero) r d e = absurd (omega arith)
no_gap-row_new (Opened (suc n)) r d e = refl

fresh-row_new : (a : Tail) (r : Along_new) → NoDeletion a → is_opened a ≡ false → is_fresh_new r ≡ true → is_fresh_new (row_new a r) ≡ true
fresh-row_new (Kept zero) r d o f = f
fresh-row_new (Kept (suc n)) r d o f = refl
fresh-row_new (Fresh n zero) r d o f = absurd (omega arith)
fresh-row_new (Fresh n (suc t)) r d o f = refl
fresh-row_new (Opened n) r d o f = cc

opened-row_new : (a : Tail) (r : Along_new) → is_opened a ≡ true → IsTail a → is_fresh_new (row_new a r) ≡ false
opened-row_new (Kept n) r o f = cc
opened-row_new (Fresh n t) r o f = cc
opened-row_new (Opened zero) r o f = absurd (omega arith)
opened-row_new (Opened (suc n)) r o f = refl

pub insert_single : (w v : Weave) (u : ℕ) (a : Tail) → 0 < u → NoDeletion a → is_opened a ≡ false → IsTail a → Takes w v (single (Replace 0 u)) 0 u → Steps w v a (Fresh 0 u) a (Kept 0)
insert_single w v zero a p d o i t = absurd (omega arith)
insert_single w v (suc u) a p d o i t = record {
  goes = λ r s h. t.goes (composed counted (row_new a r) s) ∙
      insert_alone w u (row_new a r) s (alike_width (row_new a r) s (omega (arith, h.level, width-row_new a r))) (no_gap-row_new a r d h.ended) (fresh-row_new a r d o h.fresh_new) h.fresh_old;
  is_normal = t.is_normal;
  is_tail = (i, tt);
  old = omega (arith, t.old);
  new = omega (arith, t.new);
  level = omega arith;
  less = omega arith;
}

pub insert_part : (w v : Weave) (u : ℕ) (a : Tail) → is_opened a ≡ true → IsTail a → Takes w v (stretch false 0 u) 0 u → Steps w v a (Fresh 0 u) a (Kept 0)
insert_part w v u a o i t = record {
  goes = λ r s h. t.goes (composed counted (row_new a r) s) ∙
      insert_inside w u (row_new a r) s (alike_width (row_new a r) s (omega (arith, h.level, width-row_new a r))) (opened-row_new a r o i);
  is_normal = t.is_normal;
  is_tail = (i, tt);
  old = omega (arith, t.old);
  new = omega (arith, t.new);
  level = omega arith;
  less = omega arith;
}

-- which arm is taken
pub deletion_is : (a : Tail) → is_deletion a ≡ true → a ≡ Fresh (still_old a) 0
deletion_is (Kept n) h = cc
deletion_is (Fresh n zero) h = refl
deletion_is (Fresh n (suc t)) h = cc
deletion_is (Opened n) h = cc

pub insertion_is : (b : Tail) → is_insertion b ≡ true → b ≡ Fresh 0 (still_new b)
insertion_is (Kept n) h = cc
insertion_is (Fresh zero t) h = refl
insertion_is (Fresh (suc n) t) h = cc
insertion_is (Opened n) h = cc

pub no_deletion : (a : Tail) → is_deletion a ≡ false → IsTail a → NoDeletion a
no_deletion (Kept n) h i = tt
no_deletion (Fresh n zero) h i = cc
no_deletion (Fresh n (suc t)) h i = omega arith
no_deletion (Opened n) h i = i

-- where neither is a gap, both have characters between
forward_left : (a b : Tail) → is_deletion a ≡ false → is_insertion b ≡ false → IsTail a → IsTail b → CanStep a b → 0 < left_new a
forward_left (Kept zero) (Kept n) d e i j h = omega (arith, h.some, h.end_first refl)
forward_left (Kept zero) (Fresh zero t) d e i j h = cc
forward_left (Kept zero) (Fresh (suc n) t) d e i j h = absurd (omega (arith, h.end_first refl))
forward_left (Kept zero) (Opened n) d e i j h = absurd (omega (arith, h.end_first refl))
forward_left (Kept (suc m)) b d e i j h = omega arith
forward_left (Fresh n zero) b d e i j h = cc
forward_left (Fresh n (suc t)) b d e i j h = omega arith
forward_left (Opened n) b d e i j h = i

forward_right : (a b : Tail) → 0 < left_new a → is_insertion b ≡ false → IsTail b → CanStep a b → 0 < left_old b
forward_right a (Kept zero) l e j h = absurd (omega (arith, h.end_second refl))
forward_right a (Kept (suc n)) l e j h = omega arith
forward_right a (Fresh zero t) l e j h = cc
forward_right a (Fresh (suc n) t) l e j h = omega arith
forward_right a (Opened n) l e j h = j

pub forward : (a b : Tail) → is_deletion a ≡ false → is_insertion b ≡ false → IsTail a → IsTail b → CanStep a b → (0 < left_new a) × (0 < left_old b)
forward a b d e i j h =
    let l : 0 < left_new a = forward_left a b d e i j h in
    (l, forward_right a b l e j h)

-- a gap by itself or inside a replacement
pub delete_gap : (w v : Weave) (a b : Tail) (o : Bool) (n : ℕ) → is_deletion a ≡ true → IsTail a → IsTail b → o ≡ is_opened b → n ≡ still_old a →
    (not o ≡ true → Takes w v (single (Replace n 0)) n 0) → (not o ≡ false → Takes w v (stretch false n 0) n 0) → Steps w v a b (Kept 0) b
delete_gap w v (Fresh m zero) b false n d i j e f h k = rw (← f) (delete_single w v n b (omega arith) (sym e) j (h refl))
delete_gap w v (Fresh m zero) b true n d i j e f h k = rw (← f) (delete_part w v n b (sym e) j (k refl))
delete_gap w v (Fresh m (suc t)) b o n d i j e f h k = cc
delete_gap w v (Kept m) b o n d i j e f h k = cc
delete_gap w v (Opened m) b o n d i j e f h k = cc

pub insert_gap : (w v : Weave) (a b : Tail) (o : Bool) (u : ℕ) → is_insertion b ≡ true → is_deletion a ≡ false → IsTail a → IsTail b → o ≡ is_opened a → u ≡ still_new b →
    (not o ≡ true → Takes w v (single (Replace 0 u)) 0 u) → (not o ≡ false → Takes w v (stretch false 0 u) 0 u) → Steps w v a b a (Kept 0)
insert_gap w v a (Fresh zero t) false u d g i j e f h k = rw (← f) (insert_single w v u a (omega arith) (no_deletion a g i) (sym e) i (h refl))
insert_gap w v a (Fresh zero t) true u d g i j e f h k = rw (← f) (insert_part w v u a (sym e) i (k refl))
insert_gap w v a (Fresh (suc n) t) o u d g i j e f h k = cc
insert_gap w v a (Kept m) o u d g i j e f h k = cc
insert_gap w v a (Opened m) o u d g i j e f h k = cc
