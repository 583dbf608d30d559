-- Lists that have the newest items of a chain, and lists that need no cut.
use Rattle.std.proofs.Common.{◌≡◌, ℕ, zero, suc, ◌+◌, ◌≤◌, Bool, true, false, List, [], ◌∷◌, length, take, refl, ap, arith}
use Rattle.std.specs.Prelude.{cond, leb}
use Rattle.std.proofs.lemmas.Bool.{and_parts, and_from, leb-true, le-leb}
use Rattle.std.proofs.lemmas.List.Sums.{count_by-le-length, sum_by-cons}
use Rattle.history.specs.declared.item.Item.{Item}
use Rattle.history.specs.declared.item.Item.TheVariants.{Change, Select}
use Rattle.history.specs.Items.{change_count, is_change, keep_changes, keep_selects, most_selects}
use Rattle.history.specs.PrivateCounts.{IsCut, first_row, rows_fit}

-- how many Changes there are with one more item
counts-more : (item : Item) (items : List Item) → change_count (item ∷ items) ≡ cond (is_change item) 1 0 + change_count items
counts-more item items = sum_by-cons (λ x. cond (is_change x) 1 0) item items

one-most : (b : Bool) → cond b 1 0 ≤ 1
one-most true = omega arith
one-most false = omega arith

-- with one more item
pub take-more : (item : Item) (items : List Item) (len more : ℕ) → more ≡ len + 1 → take more (item ∷ items) ≡ item ∷ take len items
take-more item items len more e = let n : more ≡ suc len = omega (arith, e) in ap (λ k. take k (item ∷ items)) n

pub more-cut : (item : Item) (items : List Item) (len more count : ℕ) → more ≡ len + 1 → IsCut items len count → IsCut (item ∷ items) more (count + cond (is_change item) 1 0)
more-cut item items len more count e c = record {
  few = let f = c.few in omega (arith, e, f);
  changes = let k = c.changes in let m = counts-more item (take len items) in let n = ap change_count (take-more item items len more e) in omega (arith, k, m, n);
  few_changes = let f = c.few_changes in let m = one-most (is_change item) in omega (arith, e, f, m);
}

-- a list with few Changes is kept whole
pub few-kept : (count : ℕ) (items : List Item) → change_count items ≤ count → keep_changes count items ≡ items
few-kept count [] h = refl
few-kept count (Select s ∷ items) h = ap (λ xs. Select s ∷ xs) (few-kept count items (let m = counts-more (Select s) items in omega (arith, h, m)))
few-kept zero (Change c ∷ items) h = absurd (let m = counts-more (Change c) items in omega (arith, h, m))
few-kept (suc count) (Change c ∷ items) h = ap (λ xs. Change c ∷ xs) (few-kept count items (let m = counts-more (Change c) items in omega (arith, h, m)))

-- the kept Changes are the newest items
pub kept-shorter : (count : ℕ) (items : List Item) → length (keep_changes count items) ≤ length items
kept-shorter count [] = omega arith
kept-shorter count (Select s ∷ items) = omega (arith, kept-shorter count items)
kept-shorter zero (Change c ∷ items) = omega arith
kept-shorter (suc count) (Change c ∷ items) = omega (arith, kept-shorter count items)

pub kept-newest : (count : ℕ) (items : List Item) → take (length (keep_changes count items)) items ≡ keep_changes count items
kept-newest count [] = refl
kept-newest count (Select s ∷ items) = ap (λ xs. Select s ∷ xs) (kept-newest count items)
kept-newest zero (Change c ∷ items) = refl
kept-newest (suc count) (Change c ∷ items) = ap (λ xs. Change c ∷ xs) (kept-newest count items)

pub kept-counts : (count : ℕ) (items : List Item) → count ≤ change_count items → change_count (keep_changes count items) ≡ count
kept-counts count [] h = let z : count ≤ 0 = h in omega (arith, z)
kept-counts count (Select s ∷ items) h =
    let m = counts-more (Select s) items in
    let n = counts-more (Select s) (keep_changes count items) in
    let k = kept-counts count items (omega (arith, h, m)) in
    omega (arith, n, k)
kept-counts zero (Change c ∷ items) h = refl
kept-counts (suc count) (Change c ∷ items) h =
    let m = counts-more (Change c) items in
    let n = counts-more (Change c) (keep_changes count items) in
    let k = kept-counts count items (omega (arith, h, m)) in
    omega (arith, n, k)

-- where all items are Changes, so many of them
pub all-changes : (count : ℕ) (items : List Item) → length items ≡ change_count items → count ≤ change_count items → length (keep_changes count items) ≡ count
all-changes count items e h =
    let kept = keep_changes count items in
    let k = kept-counts count items h in
    let m = kept-rest count items in
    let n = count_by-le-length is_change kept in
    omega (arith, e, k, m, n)
  where
    -- what goes has at most as many Changes as items
    kept-rest : (count : ℕ) (items : List Item) → length (keep_changes count items) + change_count items ≤ length items + change_count (keep_changes count items)
    kept-rest count [] = omega arith
    kept-rest count (Select s ∷ items) =
        let m = counts-more (Select s) items in
        let n = counts-more (Select s) (keep_changes count items) in
        omega (arith, kept-rest count items, m, n)
    kept-rest zero (Change c ∷ items) = let m = count_by-le-length is_change (Change c ∷ items) in omega (arith, m)
    kept-rest (suc count) (Change c ∷ items) =
        let m = counts-more (Change c) items in
        let n = counts-more (Change c) (keep_changes count items) in
        omega (arith, kept-rest count items, m, n)

-- the newest of items whose rows are short
row-cut : (n : ℕ) (items : List Item) → first_row (take n items) ≤ first_row items
row-cut zero items = omega arith
row-cut (suc n) [] = omega arith
row-cut (suc n) (Change c ∷ items) = omega arith
row-cut (suc n) (Select s ∷ items) = omega (arith, row-cut n items)

pub rows-cut : (n : ℕ) (items : List Item) → rows_fit items ≡ true → rows_fit (take n items) ≡ true
rows-cut zero items h = refl
rows-cut (suc n) [] h = refl
rows-cut (suc n) (Change c ∷ items) h = rows-cut n items h
rows-cut (suc n) (Select s ∷ items) h =
    let p : (leb (first_row items + 1) most_selects ≡ true) × (rows_fit items ≡ true) = and_parts (leb (first_row items + 1) most_selects) (rows_fit items) h in
    let short : first_row items + 1 ≤ most_selects = leb-true (first_row items + 1) most_selects p.0 in
    let r = row-cut n items in
    and_from (leb (first_row (take n items) + 1) most_selects) (rows_fit (take n items)) (le-leb (first_row (take n items) + 1) most_selects (omega (arith, short, r))) (rows-cut n items p.1)

-- the first row of a list whose rows are short
row-short : (items : List Item) → rows_fit items ≡ true → first_row items ≤ most_selects
row-short [] h = omega arith
row-short (Change c ∷ items) h = omega arith
row-short (Select s ∷ items) h = leb-true (first_row items + 1) most_selects (and_parts (leb (first_row items + 1) most_selects) (rows_fit items) h).0

-- a list whose rows are short is kept whole where its first row finds room
room-kept : (room : ℕ) (items : List Item) → rows_fit items ≡ true → first_row items ≤ room → keep_selects room items ≡ items
room-kept room [] h k = refl
room-kept room (Change c ∷ items) h k = ap (λ xs. Change c ∷ xs) (room-kept most_selects items h (row-short items h))
room-kept zero (Select s ∷ items) h k = absurd (omega (arith, k))
room-kept (suc room) (Select s ∷ items) h k =
    ap (λ xs. Select s ∷ xs) (room-kept room items (and_parts (leb (first_row items + 1) most_selects) (rows_fit items) h).1 (omega (arith, k)))

pub rows-kept : (items : List Item) → rows_fit items ≡ true → keep_selects most_selects items ≡ items
rows-kept items h = room-kept most_selects items h (row-short items h)
