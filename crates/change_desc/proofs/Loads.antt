-- The next section of a walk.
use Rattle.std.proofs.Common.{◌≡◌, ℕ, zero, suc, ◌+◌, ◌≤◌, ◌<◌, true, false, List, [], ◌∷◌, replicate, length, get_or, drop, refl, sym, ap, ◌∙◌, arith}
use Rattle.std.proofs.lemmas.List.{drop_more, drop_all}
use Rattle.change_desc.specs.declared.section.Section.{Section}
use Rattle.change_desc.specs.declared.section.Section.TheVariants.{Keep, Replace}
use Rattle.change_desc.specs.declared.tail.Tail.{Tail}
use Rattle.change_desc.specs.declared.tail.Tail.TheVariants.{Kept, Fresh, Opened}
use Rattle.change_desc.specs.Sections.{counted, is_blank, normal, old_of, new_of, old_size, new_size}
use Rattle.change_desc.specs.Columns.{Row, last, next, Fate, Origin, old, along_new, along_old, width, in_front}
use Rattle.change_desc.specs.Tails.{row_new, row_old, left_new, left_old, still_old, still_new, present, weight, is_spent, IsTail, Loads, tail_of, is_fresh_new, is_fresh_old}
use Rattle.change_desc.specs.Weaving.{Ready}
use Rattle.change_desc.proofs.Applies.{width-times, width-spell, width-along_old}
use Rattle.change_desc.proofs.Normal.{counted_laws, InOrder, in_order}

not_blank-read : (s : List (Section ℕ)) (i : ℕ) (x : Section ℕ) → InOrder counted counted_laws s → i < length s → x ≡ get_or s i x → is_blank counted x ≡ false
not_blank-read [] i x o l e = absurd (omega arith)
not_blank-read (y ∷ s) zero x o l e = rw e o.0
not_blank-read (y ∷ s) (suc i) x o l e = not_blank-read s i x o.2 (omega arith) e

is_tail-of : (x : Section ℕ) → is_blank counted x ≡ false → IsTail (tail_of x) × (tail_of x ≡ Kept 0 → Unit {0}) × (present (tail_of x) ≡ 1)
is_tail-of (Keep zero) h = cc
is_tail-of (Keep (suc n)) h = (tt, λ e. tt, refl)
is_tail-of (Replace zero zero) h = cc
is_tail-of (Replace zero (suc t)) h = (omega arith, λ e. tt, refl)
is_tail-of (Replace (suc n) t) h = (omega arith, λ e. tt, refl)

weight_le : (p : Tail) → weight p ≤ 2
weight_le (Kept zero) = omega arith
weight_le (Kept (suc n)) = omega arith
weight_le (Fresh n t) = omega arith
weight_le (Opened n) = omega arith

-- a section that comes is as good as its tail before the others
row_new-of : (x : Section ℕ) (s : List (Section ℕ)) → row_new (tail_of x) (along_new counted s) ≡ along_new counted (x ∷ s)
row_new-of (Keep n) s = refl
row_new-of (Replace n t) s = refl

row_old-of : (x : Section ℕ) (s : List (Section ℕ)) → row_old (tail_of x) (along_old counted s) ≡ along_old counted (x ∷ s)
row_old-of (Keep n) s = refl
row_old-of (Replace zero t) s = refl
row_old-of (Replace (suc n) t) s = refl

left-of : (x : Section ℕ) → (left_old (tail_of x) ≡ old_of x) × (left_new (tail_of x) ≡ new_of counted x) × (still_old (tail_of x) ≡ old_of x) × (still_new (tail_of x) ≡ new_of counted x)
left-of (Keep n) = (refl, refl, refl, refl)
left-of (Replace n t) = (refl, refl, refl, refl)

pub loads_next : (s : List (Section ℕ)) (p : Tail) (i : ℕ) (x : Section ℕ) → normal counted s ≡ s → i < length s → x ≡ get_or s i x → p ≡ Kept 0 → Loads s p (tail_of x) i (i + 1)
loads_next s p i x o l e z =
    let b : is_blank counted x ≡ false = not_blank-read s i x (in_order counted counted_laws s o) l e in
    let d : drop i s ≡ x ∷ drop (i + 1) s = drop_more s i x l ∙ ap (λ y. y ∷ drop (i + 1) s) (sym e) in
    let q : present (tail_of x) ≡ 1 = (is_tail-of x b).2 in
    rw z
    (record {
      row_new = rw d (row_new-of x (drop (i + 1) s));
      row_old = rw d (row_old-of x (drop (i + 1) s));
      is_tail = (is_tail-of x b).0;
      within = omega arith;
      spent = λ k. absurd (spent_not (tail_of x) q k);
      old = omega (arith, ap old_size d, (left-of x).0);
      new = omega (arith, ap (new_size counted) d, (left-of x).1);
      still_old = omega (arith, ap old_size d, (left-of x).2);
      still_new = omega (arith, ap (new_size counted) d, (left-of x).3);
      less = omega (arith, q);
      lighter = omega (arith, weight_le (tail_of x));
    })
  where
    spent_not : (p : Tail) → present p ≡ 1 → p ≡ Kept 0 → ⊥
    spent_not (Kept zero) h k = cc
    spent_not (Kept (suc n)) h k = cc
    spent_not (Fresh n t) h k = cc
    spent_not (Opened n) h k = cc

spent-is : (p : Tail) → p ≡ Kept 0 → is_spent p ≡ true
spent-is p h = ap is_spent h

pub is_spent-is : (p : Tail) → is_spent p ≡ true → p ≡ Kept 0
is_spent-is (Kept zero) h = refl
is_spent-is (Kept (suc n)) h = cc
is_spent-is (Fresh n t) h = cc
is_spent-is (Opened n) h = cc

pub loads_same : (s : List (Section ℕ)) (p : Tail) (i : ℕ) → IsTail p → i ≤ length s → (is_spent p ≡ true → length s ≤ i) → Loads s p p i i
loads_same s p i h l k = record {
  row_new = refl;
  row_old = refl;
  is_tail = h;
  within = l;
  spent = λ e. omega (arith, k (spent-is p e));
  old = refl;
  new = refl;
  still_old = refl;
  still_new = refl;
  less = refl;
  lighter = omega arith;
}

length-replicate : (n : ℕ) → length (replicate n (tt {0})) ≡ n
length-replicate zero = refl
length-replicate (suc n) = ap suc (length-replicate n)

width-along_new : (s : List (Section ℕ)) → width (along_new counted s) ≡ new_size counted s
width-along_new [] = refl
width-along_new (Keep n ∷ s) = omega (arith, width-times counted n old (along_new counted s), width-along_new s)
width-along_new (Replace n t ∷ s) = omega (arith, width-spell counted n (replicate t tt) (along_new counted s), length-replicate t, width-along_new s)

fresh-along_new : (s : List (Section ℕ)) → is_fresh_new (along_new counted s) ≡ true
fresh-along_new [] = refl
fresh-along_new (Keep zero ∷ s) = fresh-along_new s
fresh-along_new (Keep (suc n) ∷ s) = refl
fresh-along_new (Replace n zero ∷ s) = in_front_of (along_new counted s) (fresh-along_new s)
  where
    in_front_of : (r : Row ℕ (Origin (Unit {0}))) → is_fresh_new r ≡ true → is_fresh_new (in_front counted n r) ≡ true
    in_front_of (last m) h = refl
    in_front_of (next m x r) h = h
fresh-along_new (Replace n (suc t) ∷ s) = refl

fresh-along_old : (s : List (Section ℕ)) → is_fresh_old (along_old counted s) ≡ true
fresh-along_old [] = refl
fresh-along_old (Keep zero ∷ s) = fresh-along_old s
fresh-along_old (Keep (suc n) ∷ s) = refl
fresh-along_old (Replace zero t ∷ s) = in_front_of (along_old counted s) (fresh-along_old s)
  where
    in_front_of : (r : Row ℕ (Fate ℕ)) → is_fresh_old r ≡ true → is_fresh_old (in_front counted t r) ≡ true
    in_front_of (last m) h = refl
    in_front_of (next m x r) h = h
fresh-along_old (Replace (suc n) t ∷ s) = refl

pub ready : (first second : List (Section ℕ)) (a b : Tail) (i j : ℕ) → (a ≡ Kept 0 → i ≡ length first) →
    left_new a + new_size counted (drop i first) ≡ left_old b + old_size (drop j second) → Ready a b (along_new counted (drop i first)) (along_old counted (drop j second))
ready first second a b i j h l = record {
  fresh_new = fresh-along_new (drop i first);
  fresh_old = fresh-along_old (drop j second);
  level = omega (arith, width-along_new (drop i first), width-along_old counted (drop j second));
  ended = λ e. ap (along_new counted) (drop_all i first (omega (arith, h e)));
}
