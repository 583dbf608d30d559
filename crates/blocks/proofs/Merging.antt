-- One range of lines further in the blocks of several lines.
use Rattle.std.proofs.Common.{◌≡◌, ℕ, ◌+◌, ◌<◌, ◌≤◌, Bool, true, false, ◌||◌, List, [], ◌∷◌, ◌++◌, length, get_or, drop, refl, sym, ap, ◌∙◌, arith}
use Rattle.std.specs.List.{list_any}
use Rattle.std.proofs.lemmas.List.{drop_more}
use Rattle.blocks.specs.Joins.{AreJoins, AreRanges, Follows}
use Rattle.blocks.specs.declared.joins.Join.{Join}
use Rattle.blocks.specs.declared.line_range.LineRange.{LineRange}

-- the last join
pub last_is : (long number last : ℕ) (done : List Join) (j : Join) → AreJoins long number last (done ++ j ∷ []) → number ≤ last → (j.number ≤ j.last) × (j.last ≤ long)
last_is long number last [] j joins low =
    let f = joins.0 in
    let later = f.later in
    let numbered = f.numbered in
    let some = f.some in
    (omega (arith, later, numbered, some, low), f.within)
last_is long number last (x ∷ xs) j joins low =
    let f = joins.0 in
    let later = f.later in
    let numbered = f.numbered in
    let some = f.some in
    last_is long x.number x.last xs j joins.1 (omega (arith, later, numbered, some, low))

-- the last join with more lines
pub grow_last : (long number last : ℕ) (done : List Join) (j k : Join) → AreJoins long number last (done ++ j ∷ []) → k.number ≡ j.number → k.first ≡ j.first → j.last ≤ k.last → k.last ≤ long → AreJoins long number last (done ++ k ∷ [])
grow_last long number last [] j k joins same first more within =
    let f = joins.0 in
    let later = f.later in
    let numbered = f.numbered in
    let some = f.some in
    (record { later = omega (arith, later, first); numbered = omega (arith, numbered, first, same); some = omega (arith, some, first, more); within = within }, tt)
grow_last long number last (x ∷ xs) j k joins same first more within = (joins.0, grow_last long x.number x.last xs j k joins.1 same first more within)

-- a further join after the last one
pub push_last : (long number last : ℕ) (done : List Join) (j k : Join) → AreJoins long number last (done ++ j ∷ []) → Follows long j.number j.last k → AreJoins long number last ((done ++ j ∷ []) ++ k ∷ [])
push_last long number last [] j k joins follows = (joins.0, (follows, tt))
push_last long number last (x ∷ xs) j k joins follows = (joins.0, push_last long x.number x.last xs j k joins.1 follows)

pub drop_item : {X : Type 0} (xs : List X) (i : ℕ) (x : X) → i < length xs → x ≡ get_or xs i x → drop i xs ≡ x ∷ drop (i + 1) xs
drop_item {X} xs i x inside is = drop_more xs i x inside ∙ ap (λ (y : X). y ∷ drop (i + 1) xs) (sym is)

pub next_range : (long n : ℕ) (r : LineRange) (left rest : List LineRange) → left ≡ r ∷ rest → AreRanges long n left → (n ≤ r.first) × (r.first < r.last) × (r.last ≤ long) × AreRanges long r.first rest
next_range long n r left rest taken ranges = rw taken at ranges

pub lower : (long n m : ℕ) (rs : List LineRange) → m ≤ n → AreRanges long n rs → AreRanges long m rs
lower long n m [] order ranges = tt
lower long n m (r ∷ rs) order ranges = let here = ranges.0 in (omega (arith, here, order), ranges.1, ranges.2, ranges.3)

pub any_step : {X : Type 0} (q : X → Bool) (a b all : Bool) (r : X) (left rest : List X) → left ≡ r ∷ rest → b ≡ (a || q r) → (a || list_any q left) ≡ all → (b || list_any q rest) ≡ all
any_step {X} q a b all r left rest taken is goes = or_step a (q r) (list_any q rest) b is ∙ (rw taken at goes)
  where
    or_step : (a x y b : Bool) → b ≡ (a || x) → (b || y) ≡ (a || (x || y))
    or_step true x y b e = rw e refl
    or_step false x y b e = rw e refl

pub any_end : {X : Type 0} (q : X → Bool) (a all : Bool) (left : List X) → left ≡ [] → (a || list_any q left) ≡ all → a ≡ all
any_end {X} q a all left none goes = or_false a ∙ (rw none at goes)
  where
    or_false : (a : Bool) → a ≡ (a || false)
    or_false true = refl
    or_false false = refl
