-- The length of what two sets come to, step by step.
use Rattle.std.proofs.Common.{◌≡◌, ℕ, zero, suc, ◌+◌, ◌-◌, ◌≤◌, ◌<◌, min, Bool, true, false, List, [], ◌∷◌, ◌++◌, refl, sym, ap, ◌∙◌, arith, zero-add}
use Rattle.change_desc.specs.declared.section.Section.{Section}
use Rattle.change_desc.specs.declared.section.Section.TheVariants.{Keep, Replace}
use Rattle.change_desc.specs.declared.tail.Tail.{Tail}
use Rattle.change_desc.specs.declared.tail.Tail.TheVariants.{Kept, Fresh, Opened}
use Rattle.change_desc.specs.declared.weave.Weave.{Weave}
use Rattle.change_desc.specs.Sections.{counted, is_blank, normal, old_of, new_of, new_size}
use Rattle.change_desc.specs.Columns.{last, next, stays, leaves, follows, in_front, times, along_old}
use Rattle.change_desc.specs.Pieces.{single, stretch, closed, gather}
use Rattle.change_desc.specs.Map.{mapped, map_over}
use Rattle.change_desc.specs.Tails.{row_old, left_old, still_new, opened, is_fresh, beyond, IsTail}
use Rattle.change_desc.specs.Weaving.{Takes, new_done}
use Rattle.change_desc.specs.MapSteps.{CanMap, pieces_new, merged_len, Measures, Maps, second_next}
use Rattle.change_desc.proofs.Weaves.{new_size-normal, takes_single, takes_start, takes_on}
use Rattle.change_desc.proofs.Compositions.{Along_old}
use Rattle.change_desc.proofs.MapArms.{second_text_step, first_text_step, characters_step}
use Rattle.change_desc.proofs.MapLengths.{new_size-gather, new_size-woven, column_new, ends_new}
use Rattle.change_desc.proofs.Normal.{counted_laws}

-- a weave to which nothing was done, and one with sections and an open Replace
abbrev nothing : Weave
nothing = record { sections = record { items = []; capacity = 0 }; count = 0; len = 0 }

abbrev done : List (Section ℕ) → ℕ → ℕ → Weave
done s n t = record { sections = record { items = s; capacity = 0 }; count = n; len = t }

-- what comes of it by one piece
by_single : (x : Section ℕ) → is_blank counted x ≡ false → (v : Weave) × Takes nothing v (single x) (old_of x) (new_of counted x)
by_single x b =
    let v = done (normal counted (normal counted (Replace 0 0 ∷ []) ++ x ∷ [])) 0 0 in
    (v, takes_single nothing v x b refl refl refl)

by_start : (u : ℕ) → (v : Weave) × Takes nothing v (stretch true 0 u) 0 u
by_start u =
    let v = done (normal counted (Replace 0 0 ∷ [])) 0 u in
    (v, takes_start nothing v 0 u refl refl refl)

by_going_on : (k : ℕ) → (v : Weave) × Takes nothing v (stretch false k 0) k 0
by_going_on k =
    let v = done [] k 0 in
    (v, takes_on nothing v k 0 refl refl (sym (zero-add k)) refl)

measures-maps : (v : Weave) (n : ℕ) (a b c d : Tail) → Maps false nothing v a b c d → new_done v ≡ n → Measures a b c d n
measures-maps v n a b c d m e = record {
  goes = λ r s h.
      omega (
        arith,
        ap (new_size counted) (m.goes r s h),
        new_size-woven v (mapped counted false (row_old c r) (row_old d s)),
        new_size-woven nothing (mapped counted false (row_old a r) (row_old b s)),
        e,
      );
  is_tail = m.is_tail;
  level = m.level;
  lighter = m.lighter;
}

-- the second set's text
pub measures_second : (a b : Tail) → second_next false a b ≡ true → IsTail a → IsTail b → Measures a b a (opened (left_old b)) (still_new b)
measures_second a (Kept n) e p q = cc
measures_second a (Opened n) e p q = cc
measures_second a (Fresh zero zero) e p q = absurd (omega (arith, q))
measures_second a (Fresh zero (suc u)) e p q =
    let t = by_single (Replace 0 (suc u)) refl in
    measures-maps t.0 (suc u) a (Fresh 0 (suc u)) a (opened 0)
    (second_text_step false nothing t.0 a (Fresh 0 (suc u)) 0 (suc u) e p q refl refl (λ h. t.1) (λ h. absurd (omega (arith, h))))
    (omega (arith, t.1.new))
measures_second a (Fresh (suc n) u) e p q =
    let t = by_start u in
    measures-maps t.0 u a (Fresh (suc n) u) a (opened (suc n))
    (second_text_step false nothing t.0 a (Fresh (suc n) u) (suc n) u e p q refl refl (λ h. absurd (omega (arith, h))) (λ h. t.1))
    (omega (arith, t.1.new))

-- the first set's text
pub measures_first : (a b : Tail) → second_next false a b ≡ false → is_fresh a ≡ true → IsTail a → IsTail b → Measures a b (opened (left_old a)) b (still_new a)
measures_first (Kept n) b e f p q = cc
measures_first (Opened n) b e f p q = cc
measures_first (Fresh n zero) b e f p q =
    measures-maps nothing 0 (Fresh n 0) b (opened n) b
    (first_text_step false nothing nothing (Fresh n 0) b n 0 e f p q refl refl refl (λ h. refl) (λ h. absurd (omega (arith, h)))) refl
measures_first (Fresh n (suc t)) b e f p q =
    let k = by_single (Keep (suc t)) refl in
    measures-maps k.0 (suc t) (Fresh n (suc t)) b (opened n) b
    (first_text_step false nothing k.0 (Fresh n (suc t)) b n (suc t) e f p q refl refl refl (λ h. absurd (omega (arith, h))) (λ h. k.1))
    (omega (arith, k.1.new))

-- characters
pub measures_characters : (a b : Tail) (k : ℕ) → is_fresh a ≡ false → is_fresh b ≡ false → 0 < k → k ≡ min (left_old a) (left_old b) →
    Measures a b (beyond k a) (beyond k b) (min (still_new a) (still_new b))
measures_characters (Fresh n t) b k f g p e = cc
measures_characters a (Fresh n t) k f g p e = cc
measures_characters (Kept m) (Kept n) zero f g p e = absurd (omega (arith, p))
measures_characters (Kept m) (Kept n) (suc k) f g p e =
    let t = by_single (Keep (suc k)) refl in
    measures-maps t.0 (min m n) (Kept m) (Kept n) (Kept (m - suc k)) (Kept (n - suc k))
    (characters_step false nothing t.0 (Kept m) (Kept n) (suc k) f g refl p (omega (arith, e)) (omega (arith, e)) (λ h. cc) (λ h i. cc) (λ h i. t.1))
    (omega (arith, t.1.new, e))
measures_characters (Kept m) (Opened n) k f g p e =
    let t = by_going_on k in
    measures-maps t.0 (min m 0) (Kept m) (Opened n) (Kept (m - k)) (opened (n - k))
    (characters_step false nothing t.0 (Kept m) (Opened n) k f g refl p (omega (arith, e)) (omega (arith, e)) (λ h. cc) (λ h i. t.1) (λ h i. cc))
    (omega (arith, t.1.new))
measures_characters (Opened m) (Kept n) k f g p e =
    measures-maps nothing (min 0 n) (Opened m) (Kept n) (opened (m - k)) (Kept (n - k))
    (characters_step false nothing nothing (Opened m) (Kept n) k f g refl p (omega (arith, e)) (omega (arith, e)) (λ h. refl) (λ h i. cc) (λ h i. cc))
    (omega arith)
measures_characters (Opened m) (Opened n) k f g p e =
    measures-maps nothing (min 0 0) (Opened m) (Opened n) (opened (m - k)) (opened (n - k))
    (characters_step false nothing nothing (Opened m) (Opened n) k f g refl p (omega (arith, e)) (omega (arith, e)) (λ h. refl) (λ h i. cc) (λ h i. cc))
    (omega arith)

-- how long it is of rows from their start: the new text of the mapped set, whichever texts stand first
pieces-before : (r s : Along_old) → pieces_new (mapped counted true r s) ≡ merged_len r s
pieces-before (last i) (last j) = omega (arith, ends_new true i j, ends_new false i j)
pieces-before (last i) (next j y s) = refl
pieces-before (next i x r) (last j) = refl
pieces-before (next i x r) (next j y s) = omega (arith, column_new true i x r j y s, column_new false i x r j y s, pieces-before r s)

pub new_size-map_over : (second first : List (Section ℕ)) (before : Bool) →
    new_size counted (map_over counted second first before) ≡ merged_len (along_old counted first) (along_old counted second)
new_size-map_over second first false =
    let ps = mapped counted false (along_old counted first) (along_old counted second) in
    new_size-normal counted counted_laws (closed counted (gather counted ps)) ∙ new_size-gather ps
new_size-map_over second first true =
    let ps = mapped counted true (along_old counted first) (along_old counted second) in
    new_size-normal counted counted_laws (closed counted (gather counted ps)) ∙ (new_size-gather ps ∙ pieces-before (along_old counted first) (along_old counted second))

-- it is at most as long as both new texts together
row_texts : Along_old → ℕ
row_texts (last i) = i
row_texts (next i stays r) = i + suc (row_texts r)
row_texts (next i (leaves t) r) = i + (t + row_texts r)
row_texts (next i follows r) = i + row_texts r

merged_len-le : (r s : Along_old) → merged_len r s ≤ row_texts r + row_texts s
unfolding row_texts
merged_len-le (last i) (last j) = omega (arith, ends_new false i j)
merged_len-le (last i) (next j y s) = omega arith
merged_len-le (next i x r) (last j) = omega arith
merged_len-le (next i stays r) (next j stays s) = omega (arith, column_new false i stays r j stays s, merged_len-le r s)
merged_len-le (next i stays r) (next j (leaves u) s) = omega (arith, column_new false i stays r j (leaves u) s, merged_len-le r s)
merged_len-le (next i stays r) (next j follows s) = omega (arith, column_new false i stays r j follows s, merged_len-le r s)
merged_len-le (next i (leaves t) r) (next j stays s) = omega (arith, column_new false i (leaves t) r j stays s, merged_len-le r s)
merged_len-le (next i (leaves t) r) (next j (leaves u) s) = omega (arith, column_new false i (leaves t) r j (leaves u) s, merged_len-le r s)
merged_len-le (next i (leaves t) r) (next j follows s) = omega (arith, column_new false i (leaves t) r j follows s, merged_len-le r s)
merged_len-le (next i follows r) (next j stays s) = omega (arith, column_new false i follows r j stays s, merged_len-le r s)
merged_len-le (next i follows r) (next j (leaves u) s) = omega (arith, column_new false i follows r j (leaves u) s, merged_len-le r s)
merged_len-le (next i follows r) (next j follows s) = omega (arith, column_new false i follows r j follows s, merged_len-le r s)

row_texts-stays : (n : ℕ) (r : Along_old) → row_texts (times counted n stays r) ≡ n + row_texts r
unfolding row_texts
row_texts-stays zero r = omega arith
row_texts-stays (suc n) r = omega (arith, row_texts-stays n r)

row_texts-follows : (n : ℕ) (r : Along_old) → row_texts (times counted n follows r) ≡ row_texts r
unfolding row_texts
row_texts-follows zero r = refl
row_texts-follows (suc n) r = omega (arith, row_texts-follows n r)

row_texts-prefix : (t : ℕ) (r : Along_old) → row_texts (in_front counted t r) ≡ t + row_texts r
unfolding row_texts
row_texts-prefix t (last i) = refl
row_texts-prefix t (next i stays r) = omega arith
row_texts-prefix t (next i (leaves u) r) = omega arith
row_texts-prefix t (next i follows r) = omega arith

row_texts-along : (s : List (Section ℕ)) → row_texts (along_old counted s) ≡ new_size counted s
unfolding row_texts
row_texts-along [] = refl
row_texts-along (Keep n ∷ s) = omega (arith, row_texts-stays n (along_old counted s), row_texts-along s)
row_texts-along (Replace zero t ∷ s) = omega (arith, row_texts-prefix t (along_old counted s), row_texts-along s)
row_texts-along (Replace (suc n) t ∷ s) = omega (arith, row_texts-follows n (along_old counted s), row_texts-along s)

pub merged_len-sets : (a b : List (Section ℕ)) → merged_len (along_old counted a) (along_old counted b) ≤ new_size counted a + new_size counted b
merged_len-sets a b = omega (arith, merged_len-le (along_old counted a) (along_old counted b), row_texts-along a, row_texts-along b)

-- the least of what two tails have left, where both have some
pub some_left : (a b : Tail) → is_fresh a ≡ false → is_fresh b ≡ false → IsTail a → IsTail b → CanMap a b → 0 < min (left_old a) (left_old b)
some_left (Fresh n t) b f g p q m = cc
some_left a (Fresh n t) f g p q m = cc
some_left (Opened x) (Opened y) f g p q m = omega (arith, p, q)
some_left (Opened x) (Kept zero) f g p q m = absurd (omega (arith, m.end_second refl, p))
some_left (Opened x) (Kept (suc y)) f g p q m = omega (arith, p)
some_left (Kept zero) (Opened y) f g p q m = absurd (omega (arith, m.end_first refl, q))
some_left (Kept (suc x)) (Opened y) f g p q m = omega (arith, q)
some_left (Kept zero) (Kept zero) f g p q m = absurd (omega (arith, m.some))
some_left (Kept zero) (Kept (suc y)) f g p q m = absurd (omega (arith, m.end_first refl))
some_left (Kept (suc x)) (Kept zero) f g p q m = absurd (omega (arith, m.end_second refl))
some_left (Kept (suc x)) (Kept (suc y)) f g p q m = omega arith

pub second_fresh : (a b : Tail) → second_next false a b ≡ false → is_fresh a ≡ false → is_fresh b ≡ false
second_fresh (Kept n) (Fresh m t) e f = cc
second_fresh (Opened n) (Fresh m t) e f = cc
second_fresh (Fresh n t) (Fresh m u) e f = cc
second_fresh a (Kept m) e f = refl
second_fresh a (Opened m) e f = refl
