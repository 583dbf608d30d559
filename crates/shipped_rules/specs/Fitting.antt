-- The answers of the shipped rules are of their output shapes, and comparers are sound.
use Rattle.std.specs.Prelude.{◌≡◌, ℕ, zero, suc, ◌≤◌, ◌<◌, ◌+◌, Bool, true, false, ◌&&◌, cond, ltb, leb, ℤ, pos, negsuc, ◌+ℤ◌, int_le, int_lt, nat_le, List, [], ◌∷◌, ◌++◌, map, fold, filter_map, length, All, Option, Some, None, refl, option_map, IfSome, slice_get}
use Rattle.std.specs.Int.{int_max, int_min, saturate_signed, w64}
use Rattle.std.specs.Option.{option_and_then, unwrap_or}
use Rattle.std.specs.List.{AllByRecursion, cons_option}
use Rattle.std.proofs.lemmas.Int.{ints}
use Rattle.std.proofs.lemmas.Bool.Decides.{nat_tests}
use Rattle.kept_effects.specs.MappedValues.{two_numbers}
use Rattle.std.proofs.Common.{arith, sym, ◌∙◌, ap, subst}
use Rattle.std.proofs.lemmas.Grind.{common_steps}
use Rattle.std.proofs.lemmas.List.Elements.{recursion_from_All, All-from_recursion, All-nil, All-cons}
use Rattle.cm_plain.specs.Datum.{Datum, unit, boolean, number, text, list, data_of, depth}
use Rattle.cm_plain.specs.Form.{Form, any, booleans, numbers, texts, one_of, lists, ranges, layers, history, holds, hold}
use Rattle.cm_plain.specs.Plain.{datum_of}
use Rattle.cm_plain.specs.declared.plain.Plain.{Plain as PlainData}
use Rattle.cm_plain.specs.declared.plain.Plain.TheVariants as plain
use Rattle.transaction.specs.Numbers.{IsNumber}
use Rattle.values.specs.declared.val.Val.{Val}
use Rattle.values.specs.declared.val.Val.TheVariants.{Plain, Ranges, Layers, History}
use Rattle.values.specs.InRange.{IsInRange}
use Rattle.shipped_rules.specs.InRange.{Fits, both}
use Rattle.values.specs.Views.{AreDeps, DepsView, IsInside, IsShort, IsTransaction, TransactionView}
use Rattle.line_tree.specs.Text.{max_len}
use Rattle.line_tree.specs.Lines.{line_texts, lines_of, numbered, is_break}
use Rattle.selection.specs.declared.range.Range.{Range}
use Rattle.selection.specs.Selections.{SelectionView, LieIn}
use Rattle.std.specs.List.{onto_first}
use Rattle.values.specs.Reading.{any_int, plus, sum_of, int, nothing, item, plain_or_unit, first_plain, first_read, value_of, number_in, items_in}
use Rattle.values.specs.Combining.{combine, combine_input, combine_output, list_of_inputs, first_or, greatest, greatest_of, line_ends, int_or, sum_of_inputs, bounds, bounds_of, list_of_two, pair_in}
use Rattle.values.specs.Equality.{equal, equal-is}
use Rattle.values.specs.Comparing.{compare, is_scalar}
use Rattle.values.specs.Creating.{create, create_output}
use Rattle.values.specs.Updating.{update, update_shape, last_or, plain_values, number_or_zero, stepped, history_input, history_bounds}
use Rattle.values.specs.Computing.{compute, compute_output, number_read, length_or_zero, head_of}
use Rattle.values.specs.ListComputing.{compute_list, list_output, line_lengths, first_items}
use Rattle.change_desc.specs.Ranges.{changes_nothing}
use Rattle.history.specs.Inputs.{StepView}

-- each list is one of any items
hold-any : (ds : List Datum) → hold (data_of ds) any ≡ true
hold-any [] = refl
hold-any (d ∷ ds) = hold-any ds

-- a number within bounds
abbrev within : ℤ → ℤ → ℤ → Bool
within lo hi z = int_le lo z && int_le z hi

-- a whole number that is a stopped sum lies within the 64 bits
stopped-int : (z : ℤ) → holds (number (saturate_signed w64 z)) any_int ≡ true
stopped-int (pos n) = grind (arith, nat_tests, ints)
stopped-int (negsuc n) = grind (arith, nat_tests, ints)

plus-int : (a b : ℤ) → holds (number (plus a b)) any_int ≡ true
plus-int a b = stopped-int (a +ℤ b)

sum-int : (z : ℤ) (zs : List ℤ) → holds (number z) any_int ≡ true → holds (number (fold plus z zs)) any_int ≡ true
sum-int z [] h = h
sum-int z (w ∷ ws) h = sum-int (plus z w) ws (plus-int z w)

first-of : (f : Form) (other : Val) (vs : List Val) → Fits f other → AllByRecursion (Fits f) vs → Fits f (first_or other vs)
first-of f other [] o a = o
first-of f other (v ∷ vs) o a = a.0

-- of two numbers within bounds either is
either : (lo hi : ℤ) (b : Bool) (x y : ℤ) → within lo hi x ≡ true → within lo hi y ≡ true → within lo hi (cond b x y) ≡ true
either lo hi true x y h k = h
either lo hi false x y h k = k

abbrev EachWithin : ℤ → ℤ → List ℤ → Type 0
EachWithin lo hi [] = Unit {0}
EachWithin lo hi (z ∷ zs) = (within lo hi z ≡ true) × EachWithin lo hi zs

max-within : (lo hi z : ℤ) (zs : List ℤ) → within lo hi z ≡ true → EachWithin lo hi zs → within lo hi (fold int_max z zs) ≡ true
max-within lo hi z [] h a = h
max-within lo hi z (w ∷ ws) h a = max-within lo hi (int_max z w) ws (either lo hi (int_lt w z) z w h a.0) a.1

min-within : (lo hi z : ℤ) (zs : List ℤ) → within lo hi z ≡ true → EachWithin lo hi zs → within lo hi (fold int_min z zs) ≡ true
min-within lo hi z [] h a = h
min-within lo hi z (w ∷ ws) h a = min-within lo hi (int_min z w) ws (either lo hi (int_lt w z) w z a.0 h) a.1

numbers-within : (lo hi : ℤ) (vs : List Val) → AllByRecursion (Fits (numbers lo hi)) vs → EachWithin lo hi (filter_map number_in vs)
numbers-within lo hi [] a = tt
numbers-within lo hi (Plain plain.Unit ∷ vs) a = numbers-within lo hi vs a.1
numbers-within lo hi (Plain (plain.Bool b) ∷ vs) a = numbers-within lo hi vs a.1
numbers-within lo hi (Plain (plain.Int z) ∷ vs) a = (a.0, numbers-within lo hi vs a.1)
numbers-within lo hi (Plain (plain.Text cs) ∷ vs) a = numbers-within lo hi vs a.1
numbers-within lo hi (Plain (plain.List ds) ∷ vs) a = numbers-within lo hi vs a.1
numbers-within lo hi (Ranges r ∷ vs) a = numbers-within lo hi vs a.1
numbers-within lo hi (Layers r ∷ vs) a = numbers-within lo hi vs a.1
numbers-within lo hi (History r ∷ vs) a = numbers-within lo hi vs a.1

greatest-within : (lo hi : ℤ) (zs : List ℤ) → within lo hi (pos 0) ≡ true → EachWithin lo hi zs → Fits (numbers lo hi) (int_or (pos 0) (greatest_of zs))
greatest-within lo hi [] h a = h
greatest-within lo hi (z ∷ zs) h a = max-within lo hi z zs a.0 a.1

first-word : (vs : List Val) → AllByRecursion (Fits line_ends) vs → Fits any (first_or nothing vs)
first-word [] a = refl
first-word (Plain p ∷ vs) a = refl
first-word (Ranges r ∷ vs) a = cc
first-word (Layers r ∷ vs) a = cc
first-word (History r ∷ vs) a = cc

-- a small number is one of 64 bits
small-int : (k : ℕ) (z : ℤ) → k ≤ 100000 → (low : ℕ) → within (pos low) (pos k) z ≡ true → holds (number z) any_int ≡ true
small-int k (pos n) b low h = grind (arith, nat_tests, ints)
small-int k (negsuc n) b low h = cc

-- a list of numbers that are in range is one of numbers
listed-ints : (lo hi : ℤ) (vs : List Val) → AllByRecursion (Fits (numbers lo hi)) vs → AllByRecursion IsInRange vs → hold (data_of (map (λ v. item (plain_or_unit v)) vs)) any_int ≡ true
listed-ints lo hi [] a r = refl
listed-ints lo hi (Plain plain.Unit ∷ vs) a r = cc
listed-ints lo hi (Plain (plain.Bool c) ∷ vs) a r = cc
listed-ints lo hi (Plain (plain.Int z) ∷ vs) a r = let e : holds (number z) any_int ≡ true = r.0 in let q : hold (data_of (map (λ v. item (plain_or_unit v)) vs)) any_int ≡ true = listed-ints lo hi vs a.1 r.1 in cc
listed-ints lo hi (Plain (plain.Text cs) ∷ vs) a r = cc
listed-ints lo hi (Plain (plain.List ds) ∷ vs) a r = cc
listed-ints lo hi (Ranges q ∷ vs) a r = cc
listed-ints lo hi (Layers q ∷ vs) a r = cc
listed-ints lo hi (History q ∷ vs) a r = cc

abbrev ArePair : ℤ × ℤ → Type 0
ArePair q = (within (pos 0) (pos 100000) q.0 ≡ true) × (within (pos 0) (pos 100000) q.1 ≡ true)

pair-within : (p : PlainData) → holds (datum_of p) (lists (numbers (pos 0) (pos 100000))) ≡ true → IfSome (two_numbers p) ArePair
pair-within (plain.List (number a ∷ number b ∷ [])) h =
    let k = both (within (pos 0) (pos 100000) a) (within (pos 0) (pos 100000) b && true) h in (k.0, (both (within (pos 0) (pos 100000) b) true k.1).0)
pair-within p h = tt

with-pair : (o : Option (ℤ × ℤ)) (qs : List (ℤ × ℤ)) → IfSome o ArePair → AllByRecursion ArePair qs → AllByRecursion ArePair (cons_option o qs)
with-pair None qs h a = a
with-pair (Some q) qs h a = (h, a)

pairs-within : (vs : List Val) → AllByRecursion (Fits (lists (numbers (pos 0) (pos 100000)))) vs → AllByRecursion ArePair (filter_map pair_in vs)
pairs-within [] a = tt
pairs-within (Plain p ∷ vs) a = with-pair (two_numbers p) (filter_map pair_in vs) (pair-within p a.0) (pairs-within vs a.1)
pairs-within (Ranges r ∷ vs) a = cc
pairs-within (Layers r ∷ vs) a = cc
pairs-within (History r ∷ vs) a = cc

firsts : (qs : List (ℤ × ℤ)) → AllByRecursion ArePair qs → EachWithin (pos 0) (pos 100000) (map (λ q. q.0) qs)
firsts [] a = tt
firsts (q ∷ qs) a = (a.0.0, firsts qs a.1)

seconds : (qs : List (ℤ × ℤ)) → AllByRecursion ArePair qs → EachWithin (pos 0) (pos 100000) (map (λ q. q.1) qs)
seconds [] a = tt
seconds (q ∷ qs) a = (a.0.1, seconds qs a.1)

two-ints : (x y : ℤ) → within (pos 0) (pos 100000) x ≡ true → within (pos 0) (pos 100000) y ≡ true → Fits (lists any_int) (list_of_two x y)
two-ints x y h k = let e : holds (number x) any_int ≡ true = small-int 100000 x (omega arith) 0 h in let f : holds (number y) any_int ≡ true = small-int 100000 y (omega arith) 0 k in cc

pairs-fit : (qs : List (ℤ × ℤ)) → AllByRecursion ArePair qs → Fits (lists any_int) (bounds_of qs)
pairs-fit [] a = refl
pairs-fit (q ∷ qs) a =
    two-ints (fold int_max q.0 (map (λ q. q.0) qs)) (fold int_min q.1 (map (λ q. q.1) qs))
    (max-within (pos 0) (pos 100000) q.0 (map (λ q. q.0) qs) a.0.0 (firsts qs a.1))
    (min-within (pos 0) (pos 100000) q.1 (map (λ q. q.1) qs) a.0.1 (seconds qs a.1))

bounds-fit : (vs : List Val) → AllByRecursion (Fits (lists (numbers (pos 0) (pos 100000)))) vs → Fits (lists any_int) (bounds vs)
bounds-fit vs a = pairs-fit (filter_map pair_in vs) (pairs-within vs a)

pub combine-fits : (guards filters extenders n : ℕ) (vs : List Val) → IsNumber 13 n → AllByRecursion (Fits (combine_input guards filters extenders n)) vs → AllByRecursion IsInRange vs → Fits (combine_output n) (combine n vs)
combine-fits guards filters extenders zero vs is a r = absurd (omega (arith, is.low))
combine-fits guards filters extenders (suc zero) vs is a r = hold-any (map (λ v. item (plain_or_unit v)) vs)
combine-fits guards filters extenders (suc (suc zero)) vs is a r = first-of any nothing vs refl a
combine-fits guards filters extenders (suc (suc (suc zero))) vs is a r = refl
combine-fits guards filters extenders (suc (suc (suc (suc zero)))) vs is a r = greatest-within (negsuc 9223372036854775807) (pos 9223372036854775807) (filter_map number_in vs) refl (numbers-within (negsuc 9223372036854775807) (pos 9223372036854775807) vs a)
combine-fits guards filters extenders (suc (suc (suc (suc (suc zero))))) vs is a r = sum-int (pos 0) (filter_map number_in vs) refl
combine-fits guards filters extenders (suc (suc (suc (suc (suc (suc zero)))))) vs is a r = refl
combine-fits guards filters extenders (suc (suc (suc (suc (suc (suc (suc zero))))))) vs is a r = first-of (numbers (pos 1) (pos 16)) (int (pos 4)) vs refl a
combine-fits guards filters extenders (suc (suc (suc (suc (suc (suc (suc (suc zero)))))))) vs is a r = first-word vs a
combine-fits guards filters extenders (suc (suc (suc (suc (suc (suc (suc (suc (suc zero))))))))) vs is a r = listed-ints (pos 1) (pos guards) vs a r
combine-fits guards filters extenders (suc (suc (suc (suc (suc (suc (suc (suc (suc (suc zero)))))))))) vs is a r = listed-ints (pos 1) (pos filters) vs a r
combine-fits guards filters extenders (suc (suc (suc (suc (suc (suc (suc (suc (suc (suc (suc zero))))))))))) vs is a r = listed-ints (pos 1) (pos extenders) vs a r
combine-fits guards filters extenders (suc (suc (suc (suc (suc (suc (suc (suc (suc (suc (suc (suc zero)))))))))))) vs is a r = bounds-fit vs a
combine-fits guards filters extenders (suc (suc (suc (suc (suc (suc (suc (suc (suc (suc (suc (suc (suc zero))))))))))))) vs is a r = first-of booleans (Plain (plain.Bool false)) vs refl a
combine-fits guards filters extenders (suc (suc (suc (suc (suc (suc (suc (suc (suc (suc (suc (suc (suc (suc n)))))))))))))) vs is a r = absurd (omega (arith, is.high))

scalars-sound : (b : Bool) (old new : Val) → (b && equal old new) ≡ true → old ≡ new
scalars-sound true old new e = (equal-is old new).0 e
scalars-sound false old new e = cc

pub compare-sound : (n : ℕ) (old new : Val) → IsNumber 3 n → compare n old new ≡ true → old ≡ new
compare-sound zero old new is e = absurd (omega (arith, is.low))
compare-sound (suc zero) old new is e = (equal-is old new).0 e
compare-sound (suc (suc zero)) old new is e = cc
compare-sound (suc (suc (suc zero))) old new is e = scalars-sound (is_scalar old) old new e
compare-sound (suc (suc (suc (suc n)))) old new is e = absurd (omega (arith, is.high))

-- a value of plain data is any
plain-any : (p : PlainData) → Fits any (Plain p)
plain-any p = refl

-- lengths of documents within the limit are whole numbers of 64 bits
length-int : (n : ℕ) → n ≤ 16777217 → holds (number (pos n)) any_int ≡ true
length-int n h = grind (arith, nat_tests, ints)

document-fits : (d : Option (List ℕ)) → IsShort d → Fits any_int (length_or_zero (option_map length d))
document-fits None h = refl
document-fits (Some cs) h = length-int (length cs) (omega (arith, h))

onto-le : (x : ℕ) (ls : List (List ℕ)) (n : ℕ) → length ls ≤ n → 1 ≤ n → length (onto_first x ls) ≤ n
onto-le x [] n h k = k
onto-le x (l ∷ ls) n h k = h

split-le : (b : Bool) (x : ℕ) (ls : List (List ℕ)) (n : ℕ) → length ls ≤ n → 1 ≤ n → length (cond b ([] ∷ ls) (onto_first x ls)) ≤ n + 1
split-le true x ls n h k = omega (arith, h)
split-le false x ls n h k = let e : length (onto_first x ls) ≤ n = onto-le x ls n h k in omega (arith, e)

pub lines-le : (cs : List ℕ) → length (line_texts cs) ≤ length cs + 1
lines-le [] = omega arith
lines-le (c ∷ cs) = let e : length (cond (is_break c) ([] ∷ line_texts cs) (onto_first c (line_texts cs))) ≤ length cs + 1 + 1 = split-le (is_break c) c (line_texts cs) (length cs + 1) (lines-le cs) (omega arith) in omega (arith, e)

numbered-length : (n from : ℕ) (ls : List (List ℕ)) → length (numbered n from ls) ≡ length ls
numbered-length n from [] = refl
numbered-length n from (l ∷ ls) = let e : length (numbered (n + 1) (from + length l + 1) ls) ≡ length ls = numbered-length (n + 1) (from + length l + 1) ls in omega (arith, e)

pub lines_of-length : (cs : List ℕ) → length (lines_of cs) ≡ length (line_texts cs)
lines_of-length cs = numbered-length 1 0 (line_texts cs)

lines-fit : (d : Option (List ℕ)) → IsShort d → Fits any_int (length_or_zero (option_map (λ document. length (line_texts document)) d))
lines-fit None h = refl
lines-fit (Some cs) h = length-int (length (line_texts cs)) (omega (arith, h, lines-le cs))

head-fits : (len : ℕ) (ranges : List Range) (i : ℕ) → len ≤ max_len → LieIn len ranges → Fits any_int (length_or_zero (option_map (λ (range : Range). range.head) (slice_get ranges i)))
head-fits len [] i b h = refl
head-fits len (r ∷ rs) zero b h = length-int r.head (omega (arith, b, h.0))
head-fits len (r ∷ rs) (suc i) b h = head-fits len rs i b h.1

main-fits : (d : Option (List ℕ)) (s : Option SelectionView) → IsShort d → IsInside d s → Fits any_int (length_or_zero (option_and_then (λ document. option_and_then head_of s) d))
main-fits None s h k = refl
main-fits (Some cs) None h k = refl
main-fits (Some cs) (Some s) h k = head-fits (length cs) s.ranges s.main h k

pub compute-fits : (n : ℕ) (deps : DepsView) → IsNumber 6 n → AreDeps deps → Fits (compute_output n) (compute n deps)
compute-fits zero deps is a = absurd (omega (arith, is.low))
compute-fits (suc zero) deps is a = document-fits deps.document a.short
compute-fits (suc (suc zero)) deps is a = lines-fit deps.document a.short
compute-fits (suc (suc (suc zero))) deps is a = main-fits deps.document deps.selection a.short a.inside
compute-fits (suc (suc (suc (suc zero)))) deps is a = refl
compute-fits (suc (suc (suc (suc (suc zero))))) deps is a = sum-int (pos 0) (filter_map number_read deps.values) refl
compute-fits (suc (suc (suc (suc (suc (suc zero)))))) deps is a = refl
compute-fits (suc (suc (suc (suc (suc (suc (suc n))))))) deps is a = absurd (omega (arith, is.high))

pub create-fits : (n : ℕ) (deps : DepsView) → IsNumber 7 n → AreDeps deps → Fits (create_output n) (create n deps)
create-fits zero deps is a = absurd (omega (arith, is.low))
create-fits (suc zero) deps is a = refl
create-fits (suc (suc zero)) deps is a = refl
create-fits (suc (suc (suc zero))) deps is a = compute-fits 1 deps (record { low = omega arith; high = omega arith }) a
create-fits (suc (suc (suc (suc zero)))) deps is a = refl
create-fits (suc (suc (suc (suc (suc zero))))) deps is a = refl
create-fits (suc (suc (suc (suc (suc (suc zero)))))) deps is a = refl
create-fits (suc (suc (suc (suc (suc (suc (suc zero))))))) deps is a = refl
create-fits (suc (suc (suc (suc (suc (suc (suc (suc n)))))))) deps is a = absurd (omega (arith, is.high))

last-plain : (v : Val) (ps : List PlainData) → Fits any v → Fits any (last_or v ps)
last-plain v [] h = h
last-plain v (p ∷ ps) h = last-plain (Plain p) ps refl

counted-fits : (b : Bool) (old : Val) (z : ℤ) → Fits any_int old → Fits any_int (cond b old (int (plus z (pos 1))))
counted-fits true old z h = h
counted-fits false old z h = plus-int z (pos 1)

stepped-fits : (old : Val) (input : StepView) → Fits history old → Fits history (stepped old input)
stepped-fits (History h) input k = refl
stepped-fits (Plain p) input k = k
stepped-fits (Ranges r) input k = k
stepped-fits (Layers r) input k = k

pub update-fits : (n : ℕ) (old : Val) (t : TransactionView) (deps : DepsView) → IsNumber 8 n → Fits (update_shape n) old → IsTransaction t → AreDeps deps → Fits (update_shape n) (update n old t deps)
update-fits zero old t deps is h i a = absurd (omega (arith, is.low))
update-fits (suc zero) old t deps is h i a = h
update-fits (suc (suc zero)) old t deps is h i a = counted-fits (changes_nothing t.changes) old (number_or_zero old) h
update-fits (suc (suc (suc zero))) old t deps is h i a = last-plain old (plain_values t.effects) h
update-fits (suc (suc (suc (suc zero)))) old t deps is h i a = refl
update-fits (suc (suc (suc (suc (suc zero))))) old t deps is h i a = refl
update-fits (suc (suc (suc (suc (suc (suc zero)))))) old t deps is h i a = stepped-fits old (history_input t (history_bounds deps)) h
update-fits (suc (suc (suc (suc (suc (suc (suc zero))))))) old t deps is h i a = hold-any (items_in old ++ map item (plain_values t.effects))
update-fits (suc (suc (suc (suc (suc (suc (suc (suc zero)))))))) old t deps is h i a = refl
update-fits (suc (suc (suc (suc (suc (suc (suc (suc (suc n))))))))) old t deps is h i a = absurd (omega (arith, is.high))

-- each line is at most as long as the text
longer : (m n : ℕ) (ls : List (List ℕ)) → m ≤ n → AllByRecursion (λ l. length l ≤ m) ls → AllByRecursion (λ l. length l ≤ n) ls
longer m n [] h a = tt
longer m n (l ∷ ls) h a = (omega (arith, h, a.0), longer m n ls h a.1)

onto-short : (x n : ℕ) (ls : List (List ℕ)) → AllByRecursion (λ l. length l ≤ n) ls → AllByRecursion (λ l. length l ≤ n + 1) (onto_first x ls)
onto-short x n [] a = (omega arith, tt)
onto-short x n (l ∷ ls) a = (omega (arith, a.0), longer n (n + 1) ls (omega arith) a.1)

split-short : (b : Bool) (x n : ℕ) (ls : List (List ℕ)) → AllByRecursion (λ l. length l ≤ n) ls → AllByRecursion (λ l. length l ≤ n + 1) (cond b ([] ∷ ls) (onto_first x ls))
split-short true x n ls a = (omega arith, longer n (n + 1) ls (omega arith) a)
split-short false x n ls a = onto-short x n ls a

lines-short : (cs : List ℕ) → AllByRecursion (λ l. length l ≤ length cs) (line_texts cs)
lines-short [] = (omega arith, tt)
lines-short (c ∷ cs) = longer (length cs + 1) (length (c ∷ cs)) (line_texts (c ∷ cs)) (omega arith) (split-short (is_break c) c (length cs) (line_texts cs) (lines-short cs))

lengths-fit : (n : ℕ) (ls : List (List ℕ)) → n ≤ max_len → AllByRecursion (λ l. length l ≤ n) ls → AllByRecursion (Fits any_int) (map (λ line. int (pos (length line))) ls)
lengths-fit n [] h a = tt
lengths-fit n (l ∷ ls) h a = (length-int (length l) (omega (arith, h, a.0)), lengths-fit n ls h a.1)

line-lengths-fit : (d : Option (List ℕ)) → IsShort d → AllByRecursion (Fits any_int) (map (λ line. int (pos (length line))) (unwrap_or (option_map line_texts d) []))
line-lengths-fit None h = tt
line-lengths-fit (Some cs) h = lengths-fit (length cs) (line_texts cs) h (lines-short cs)

items-fit : (ds : List Datum) → AllByRecursion (Fits any) (map (λ d. Plain (value_of d)) ds)
items-fit [] = tt
items-fit (d ∷ ds) = (refl, items-fit ds)

pub list-fits : (n : ℕ) (deps : DepsView) → IsNumber 2 n → AreDeps deps → AllByRecursion (Fits (list_output n)) (compute_list n deps)
list-fits zero deps is a = absurd (omega (arith, is.low))
list-fits (suc zero) deps is a = line-lengths-fit deps.document a.short
list-fits (suc (suc zero)) deps is a = items-fit (items_in (unwrap_or (first_read deps) nothing))
list-fits (suc (suc (suc n))) deps is a = absurd (omega (arith, is.high))
