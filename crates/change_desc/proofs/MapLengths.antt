-- How long the new text of a mapping is, so that each sum on the way fits.
use Rattle.std.proofs.Common.{◌≡◌, ℕ, zero, suc, ◌+◌, ◌^◌, ◌≤◌, ◌<◌, min, Bool, true, false, not, cond, ◌&&◌, ◌||◌, List, [], ◌∷◌, ◌++◌, length, drop, refl, ap, ◌∙◌, arith}
use Rattle.std.proofs.lemmas.List.{drop_all}
use Rattle.change_desc.specs.declared.section.Section.{Section}
use Rattle.change_desc.specs.declared.section.Section.TheVariants.{Keep, Replace}
use Rattle.change_desc.specs.declared.tail.Tail.{Tail}
use Rattle.change_desc.specs.declared.tail.Tail.TheVariants.{Kept, Fresh, Opened}
use Rattle.change_desc.specs.declared.weave.Weave.{Weave}
use Rattle.change_desc.specs.Sections.{counted, old_size, new_size, IsSet}
use Rattle.change_desc.specs.Columns.{last, next, Fate, stays, leaves, follows, in_front, times, along_old}
use Rattle.change_desc.specs.Pieces.{Piece, single, stretch, closed, gather}
use Rattle.change_desc.specs.Compose.{text_of}
use Rattle.change_desc.specs.Map.{ordered, inserted, character, text_size, mapped, map_over}
use Rattle.change_desc.specs.Tails.{row_old, left_old, still_new, is_fresh}
use Rattle.change_desc.specs.Weaving.{woven, new_done}
use Rattle.change_desc.specs.MapSteps.{pieces_new, next_len, Level}
use Rattle.change_desc.proofs.Normal.{counted_laws, normal-normal}
use Rattle.change_desc.proofs.Applies.{width-along_old}
use Rattle.change_desc.proofs.Weaves.{new_size-normal, new_size-append}
use Rattle.change_desc.proofs.Merges.{old_size-map_over}
use Rattle.change_desc.proofs.Compositions.{Along_old}
use Rattle.change_desc.proofs.Mappings.{level}
use Rattle.change_desc.proofs.MapArms.{rows_level}

pub new_size-gather : (ps : List (Piece ℕ)) → new_size counted (closed counted (gather counted ps)) ≡ pieces_new ps
new_size-gather [] = refl
new_size-gather (single (Keep zero) ∷ ps) = omega (arith, new_size-gather ps)
new_size-gather (single (Keep (suc n)) ∷ ps) = omega (arith, new_size-gather ps)
new_size-gather (single (Replace zero zero) ∷ ps) = omega (arith, new_size-gather ps)
new_size-gather (single (Replace zero (suc t)) ∷ ps) = omega (arith, new_size-gather ps)
new_size-gather (single (Replace (suc n) t) ∷ ps) = omega (arith, new_size-gather ps)
new_size-gather (stretch true n t ∷ ps) = omega (arith, new_size-gather ps)
new_size-gather (stretch false n t ∷ ps) = omega (arith, new_size-gather ps)

pub new_size-woven : (w : Weave) (ps : List (Piece ℕ)) → new_size counted (woven w ps) ≡ new_done w + pieces_new ps
new_size-woven w ps =
    new_size-normal counted counted_laws (w.sections.items ++ closed counted (gather counted (stretch false w.count w.len ∷ ps))) ∙
    omega (arith, new_size-append w.sections.items (closed counted (gather counted (stretch false w.count w.len ∷ ps))), new_size-gather (stretch false w.count w.len ∷ ps))

pub pieces_new-append : (ps qs : List (Piece ℕ)) → pieces_new (ps ++ qs) ≡ pieces_new ps + pieces_new qs
pieces_new-append [] qs = omega arith
pieces_new-append (single x ∷ ps) qs = omega (arith, pieces_new-append ps qs)
pieces_new-append (stretch b n t ∷ ps) qs = omega (arith, pieces_new-append ps qs)

pieces_new-ordered : (before : Bool) (n j : ℕ) (y : Fate ℕ) (ps : List (Piece ℕ)) →
    pieces_new (ordered before (single (Keep n) ∷ []) (inserted counted j y) ++ ps) ≡ n + (j + (text_of counted y + pieces_new ps))
pieces_new-ordered false n j stays ps = omega arith
pieces_new-ordered false n j (leaves t) ps = omega arith
pieces_new-ordered false n j follows ps = omega arith
pieces_new-ordered true n j stays ps = omega arith
pieces_new-ordered true n j (leaves t) ps = omega arith
pieces_new-ordered true n j follows ps = omega arith

pub column_new : (before : Bool) (i : ℕ) (x : Fate ℕ) (r : Along_old) (j : ℕ) (y : Fate ℕ) (s : Along_old) →
    pieces_new (mapped counted before (next i x r) (next j y s)) ≡ i + text_size x + (j + (text_of counted y + (pieces_new (character counted x y) + pieces_new (mapped counted before r s))))
column_new before i x r j y s =
    pieces_new-ordered before (i + text_size x) j y (character counted x y ++ mapped counted before r s) ∙
    ap (λ n. i + text_size x + (j + (text_of counted y + n))) (pieces_new-append (character counted x y) (mapped counted before r s))

pub ends_new : (before : Bool) (i j : ℕ) → pieces_new (mapped counted before (last i) (last j)) ≡ i + j
ends_new false i j = omega arith
ends_new true i j = omega arith

second_len : (before : Bool) (u : ℕ) (r s : Along_old) → level r s → u ≤ pieces_new (mapped counted before r (in_front counted u s))
second_len before u (last i) (last j) a = omega (arith, ends_new before i (u + j))
second_len before u (last i) (next j y s) a = absurd a
second_len before u (next i x r) (last j) a = absurd a
second_len before u (next i x r) (next j y s) a = omega (arith, column_new before i x r (u + j) y s)

second_leaves : (before : Bool) (u : ℕ) (r s : Along_old) → level r (next 0 (leaves u) s) → u ≤ pieces_new (mapped counted before r (next 0 (leaves u) s))
second_leaves before u (last i) s a = absurd a
second_leaves before u (next i x r) s a = omega (arith, column_new before i x r 0 (leaves u) s)

first_len : (before : Bool) (t : ℕ) (r s : Along_old) → level r s → t ≤ pieces_new (mapped counted before (in_front counted t r) s)
first_len before t (last i) (last j) a = omega (arith, ends_new before (t + i) j)
first_len before t (last i) (next j y s) a = absurd a
first_len before t (next i x r) (last j) a = absurd a
first_len before t (next i x r) (next j y s) a = omega (arith, column_new before (t + i) x r j y s)

first_leaves : (before : Bool) (t : ℕ) (r s : Along_old) → level (next 0 (leaves t) r) s → t ≤ pieces_new (mapped counted before (next 0 (leaves t) r) s)
first_leaves before t r (last j) a = absurd a
first_leaves before t r (next j y s) a = omega (arith, column_new before 0 (leaves t) r j y s)

both_len : (before : Bool) (m n : ℕ) (r s : Along_old) → min m n ≤ pieces_new (mapped counted before (times counted m stays r) (times counted n stays s))
both_len before zero n r s = omega arith
both_len before (suc m) zero r s = omega arith
both_len before (suc m) (suc n) r s = omega (arith, both_len before m n r s, column_new before 0 stays (times counted m stays r) 0 stays (times counted n stays s))

next_second : (before : Bool) (a b : Tail) (r s : Along_old) → Level a b r s → is_fresh b ≡ true → still_new b ≤ pieces_new (mapped counted before (row_old a r) (row_old b s))
next_second before a (Kept n) r s h f = cc
next_second before a (Opened n) r s h f = cc
next_second before a (Fresh zero u) r s h f = second_len before u (row_old a r) s (in_front_level (row_old a r) s (rows_level a (Fresh zero u) r s h))
  where
    in_front_level : (r s : Along_old) → level r (in_front counted u s) → level r s
    in_front_level (last i) (last j) a = tt
    in_front_level (last i) (next j y s) a = absurd a
    in_front_level (next i x r) (last j) a = absurd a
    in_front_level (next i x r) (next j y s) a = tt
next_second before a (Fresh (suc n) u) r s h f = second_leaves before u (row_old a r) (times counted n follows s) (rows_level a (Fresh (suc n) u) r s h)

next_first : (before : Bool) (a b : Tail) (r s : Along_old) → Level a b r s → is_fresh a ≡ true → still_new a ≤ pieces_new (mapped counted before (row_old a r) (row_old b s))
next_first before (Kept n) b r s h f = cc
next_first before (Opened n) b r s h f = cc
next_first before (Fresh zero t) b r s h f = first_len before t r (row_old b s) (in_front_level r (row_old b s) (rows_level (Fresh zero t) b r s h))
  where
    in_front_level : (r s : Along_old) → level (in_front counted t r) s → level r s
    in_front_level (last i) (last j) a = tt
    in_front_level (last i) (next j y s) a = absurd a
    in_front_level (next i x r) (last j) a = absurd a
    in_front_level (next i x r) (next j y s) a = tt
next_first before (Fresh (suc n) t) b r s h f = first_leaves before t (times counted n follows r) (row_old b s) (rows_level (Fresh (suc n) t) b r s h)

next_both : (before : Bool) (a b : Tail) (r s : Along_old) → is_fresh a ≡ false → is_fresh b ≡ false → min (still_new a) (still_new b) ≤ pieces_new (mapped counted before (row_old a r) (row_old b s))
next_both before (Fresh n t) b r s f g = cc
next_both before a (Fresh n t) r s f g = cc
next_both before (Kept m) (Kept n) r s f g = both_len before m n r s
next_both before (Kept m) (Opened n) r s f g = omega arith
next_both before (Opened m) b r s f g = omega arith

next_len-le : (before : Bool) (a b : Tail) (r s : Along_old) → Level a b r s → next_len before a b ≤ pieces_new (mapped counted before (row_old a r) (row_old b s))
next_len-le before a b r s h = cases (is_fresh b) refl (is_fresh a) refl before
  where
    cases : (f : Bool) → is_fresh b ≡ f → (g : Bool) → is_fresh a ≡ g → (before : Bool) →
        cond (f && (before || not g)) (still_new b) (cond g (still_new a) (min (still_new a) (still_new b))) ≤ pieces_new (mapped counted before (row_old a r) (row_old b s))
    cases true f true g true = next_second true a b r s h f
    cases true f true g false = next_first false a b r s h g
    cases true f false g true = next_second true a b r s h f
    cases true f false g false = next_second false a b r s h f
    cases false f true g before = next_first before a b r s h g
    cases false f false g before = next_both before a b r s g f

-- what is done and what comes next fit where all does
pub next_fits : (before : Bool) (w : Weave) (a b : Tail) (r s : Along_old) (all : List (Section ℕ)) → Level a b r s →
    woven w (mapped counted before (row_old a r) (row_old b s)) ≡ all → new_done w + next_len before a b ≤ new_size counted all
next_fits before w a b r s all h e =
    omega (arith, next_len-le before a b r s h, new_size-woven w (mapped counted before (row_old a r) (row_old b s)), ap (new_size counted) e)

pub done_fits : (w : Weave) (ps : List (Piece ℕ)) (all : List (Section ℕ)) → woven w ps ≡ all → new_done w ≤ new_size counted all
done_fits w ps all e = omega (arith, new_size-woven w ps, ap (new_size counted) e)

pub level_of : (first second : List (Section ℕ)) (a b : Tail) (i j : ℕ) → (a ≡ Kept 0 → i ≡ length first) → (b ≡ Kept 0 → j ≡ length second) →
    left_old a + old_size (drop i first) ≡ left_old b + old_size (drop j second) → Level a b (along_old counted (drop i first)) (along_old counted (drop j second))
level_of first second a b i j h k l = record {
  level = omega (arith, width-along_old counted (drop i first), width-along_old counted (drop j second));
  ended_first = λ e. ap (along_old counted) (drop_all i first (omega (arith, h e)));
  ended_second = λ e. ap (along_old counted) (drop_all j second (omega (arith, k e)));
}

pub is_set-map_over : (first second : List (Section ℕ)) (before : Bool) → IsSet counted first → old_size first ≡ old_size second →
    new_size counted (map_over counted second first before) < 2 ^ 32 → IsSet counted (map_over counted second first before)
is_set-map_over first second before h e f = record {
  is_normal = normal-normal counted counted_laws (closed counted (gather counted (mapped counted before (along_old counted first) (along_old counted second))));
  old_fits = omega (arith, old_size-map_over counted second first before e, h.new_fits);
  new_fits = f;
}
