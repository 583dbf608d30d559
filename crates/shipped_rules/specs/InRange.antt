-- The answers of the shipped rules are in range.
use Rattle.std.specs.Prelude.{◌≡◌, ℕ, zero, suc, ◌≤◌, ◌<◌, Bool, true, false, ◌&&◌, cond, ltb, leb, nat_lt, nat_le, pos, List, [], ◌∷◌, ◌++◌, map, fold, filter, filter_map, length, Option, Some, None, refl, option_map, IfSome, slice_get}
use Rattle.std.specs.Option.{option_and_then, option_flatten, unwrap_or}
use Rattle.std.specs.List.{AllByRecursion, cons_option, list_all}
use Rattle.std.proofs.Common.{arith, sym, ◌∙◌, ap, subst}
use Rattle.std.proofs.lemmas.Bool.Decides.{nat_tests}
use Rattle.line_tree.specs.Text.{max_len}
use Rattle.change_desc.specs.Sections.{counted, spelled, lengths, new_size}
use Rattle.change_desc.proofs.Merges.{new_size-lengths}
use Rattle.change_set.proofs.Sizes.{length-apply}
use Rattle.cm_plain.specs.Datum.{Datum, unit, boolean, number, text, list, Data, no_data, datum, data_of, items_of, depth, max_depth}
use Rattle.cm_plain.specs.Form.{Form, lists, hold}
use Rattle.cm_plain.specs.Plain.{datum_of}
use Rattle.cm_plain.specs.declared.plain.Plain.{Plain as PlainData}
use Rattle.cm_plain.specs.declared.plain.Plain.TheVariants as plain
use Rattle.stable_order.specs.StableSort.{insert_by, stable_sort}
use Rattle.range_set.specs.declared.ranged.Ranged.{Ranged}
use Rattle.range_set.specs.Order.{before}
use Rattle.range_set.specs.Mapping.{map_ranges}
use Rattle.range_set.proofs.Each.{Within, within}
use Rattle.range_set.proofs.Sets.{map_in}
use Rattle.decoration.specs.declared.deco.Deco.{Deco}
use Rattle.decoration.specs.Places.{is_line_start}
use Rattle.decoration.specs.Sides.{deco_rules}
use Rattle.decoration.proofs.LineStarts.{no_line_start}
use Rattle.transaction.specs.Numbers.{IsNumber}
use Rattle.history.specs.Inputs.{StepView}
use Rattle.values.specs.declared.val.Val.{Val}
use Rattle.values.specs.declared.val.Val.TheVariants.{Plain, Ranges, Layers, History}
use Rattle.values.specs.declared.shown_effect.ShownEffect.{ShownEffect}
use Rattle.values.specs.InRange.{AreInRange, IsInRange, IsShownInRange, data_in_range, datum_in_range, ends_in_range, is_i64, max_u32, set_in_range}
use Rattle.values.specs.Vals.{is_of, plain_of}
use Rattle.values.specs.Views.{AreDeps, DepsView, IsShort, IsTransaction, TransactionView}
use Rattle.values.specs.Reading.{any_int, first_plain, first_read, int, item, items_in, nothing, number_in, place_in, places_in, plain_or_unit, ranges_in, value_of}
use Rattle.values.specs.Combining.{combine, combine_output, first_or, pair_in}
use Rattle.values.specs.Computing.{compute, compute_output}
use Rattle.values.specs.ListComputing.{compute_list, list_output}
use Rattle.values.specs.Creating.{create, create_output}
use Rattle.values.specs.Updating.{DecoRanges, history_bounds, history_input, is_unit, kept_within, last_or, line_at, line_of, bold_line, mapped_set, mark_between, mark_of, plain_values, reversed, stepped, update, update_shape, with_range, with_ranges}

-- a value of a shape, whatever its numbers are
abbrev pub Fits : Form → Val → Type 0
Fits f v = is_of f v ≡ true

pub both : (a b : Bool) → (a && b) ≡ true → (a ≡ true) × (b ≡ true)
both true b h = (refl, h)
both false b h = cc

and-true : (a b : Bool) → a ≡ true → b ≡ true → (a && b) ≡ true
and-true true b h k = k
and-true false b h k = cc

-- whole numbers of 64 bits are in range, and so are lists of them
int-range : (v : Val) → Fits any_int v → IsInRange v
int-range (Plain plain.Unit) h = refl
int-range (Plain (plain.Bool b)) h = refl
int-range (Plain (plain.Int z)) h = h
int-range (Plain (plain.Text cs)) h = refl
int-range (Plain (plain.List ds)) h = cc
int-range (Ranges r) h = cc
int-range (Layers r) h = cc
int-range (History r) h = refl

ints-range : (ds : List Datum) → hold (data_of ds) any_int ≡ true → data_in_range (data_of ds) ≡ true
ints-range [] h = refl
ints-range (unit ∷ ds) h = cc
ints-range (boolean b ∷ ds) h = cc
ints-range (number z ∷ ds) h = let k = both (is_i64 z) (hold (data_of ds) any_int) h in and-true (is_i64 z) (data_in_range (data_of ds)) k.0 (ints-range ds k.1)
ints-range (text cs ∷ ds) h = cc
ints-range (list es ∷ ds) h = cc

int-list-range : (v : Val) → Fits (lists any_int) v → IsInRange v
int-list-range (Plain plain.Unit) h = refl
int-list-range (Plain (plain.Bool b)) h = refl
int-list-range (Plain (plain.Int z)) h = cc
int-list-range (Plain (plain.Text cs)) h = refl
int-list-range (Plain (plain.List ds)) h = ints-range ds h
int-list-range (Ranges r) h = cc
int-list-range (Layers r) h = cc
int-list-range (History r) h = refl

all-ints-range : (vs : List Val) → AllByRecursion (Fits any_int) vs → AllByRecursion IsInRange vs
all-ints-range [] a = tt
all-ints-range (v ∷ vs) a = (int-range v a.0, all-ints-range vs a.1)

-- plain data in range
abbrev IsPlainInRange : PlainData → Type 0
IsPlainInRange p = datum_in_range (datum_of p) ≡ true

item-range : (p : PlainData) → IsPlainInRange p → datum_in_range (item p) ≡ true
item-range p h = elim (ltb (depth (datum_of p)) max_depth) as (λ b. datum_in_range (cond b (datum_of p) unit) ≡ true) [ true ↦ h | false ↦ refl ]

plain-range : (v : Val) → IsInRange v → IsPlainInRange (plain_or_unit v)
plain-range (Plain p) h = h
plain-range (Ranges r) h = refl
plain-range (Layers r) h = refl
plain-range (History r) h = refl

items-range : (vs : List Val) → AllByRecursion IsInRange vs → data_in_range (data_of (map (λ v. item (plain_or_unit v)) vs)) ≡ true
items-range [] a = refl
items-range (v ∷ vs) a =
    and-true (datum_in_range (item (plain_or_unit v))) (data_in_range (data_of (map (λ v. item (plain_or_unit v)) vs)))
    (item-range (plain_or_unit v) (plain-range v a.0)) (items-range vs a.1)

first-range : (other : Val) (vs : List Val) → IsInRange other → AllByRecursion IsInRange vs → IsInRange (first_or other vs)
first-range other [] o a = o
first-range other (v ∷ vs) o a = a.0

set-range : (v : Val) → IsInRange v → set_in_range (ranges_in v) ≡ true
set-range (Plain p) h = refl
set-range (Ranges r) h = h
set-range (Layers r) h = refl
set-range (History r) h = refl

layers-range : (vs : List Val) → AllByRecursion IsInRange vs → list_all set_in_range (map ranges_in vs) ≡ true
layers-range [] a = refl
layers-range (v ∷ vs) a = and-true (set_in_range (ranges_in v)) (list_all set_in_range (map ranges_in vs)) (set-range v a.0) (layers-range vs a.1)

pub combine-range : (n : ℕ) (vs : List Val) → IsNumber 13 n → AllByRecursion IsInRange vs → Fits (combine_output n) (combine n vs) → IsInRange (combine n vs)
combine-range zero vs is a h = absurd (omega (arith, is.low))
combine-range (suc zero) vs is a h = items-range vs a
combine-range (suc (suc zero)) vs is a h = first-range nothing vs refl a
combine-range (suc (suc (suc zero))) vs is a h = refl
combine-range (suc (suc (suc (suc zero)))) vs is a h = int-range (combine 4 vs) h
combine-range (suc (suc (suc (suc (suc zero))))) vs is a h = int-range (combine 5 vs) h
combine-range (suc (suc (suc (suc (suc (suc zero)))))) vs is a h = layers-range vs a
combine-range (suc (suc (suc (suc (suc (suc (suc zero))))))) vs is a h = first-range (int (pos 4)) vs refl a
combine-range (suc (suc (suc (suc (suc (suc (suc (suc zero)))))))) vs is a h = first-range nothing vs refl a
combine-range (suc (suc (suc (suc (suc (suc (suc (suc (suc zero))))))))) vs is a h = items-range vs a
combine-range (suc (suc (suc (suc (suc (suc (suc (suc (suc (suc zero)))))))))) vs is a h = items-range vs a
combine-range (suc (suc (suc (suc (suc (suc (suc (suc (suc (suc (suc zero))))))))))) vs is a h = items-range vs a
combine-range (suc (suc (suc (suc (suc (suc (suc (suc (suc (suc (suc (suc zero)))))))))))) vs is a h = int-list-range (combine 12 vs) h
combine-range (suc (suc (suc (suc (suc (suc (suc (suc (suc (suc (suc (suc (suc zero))))))))))))) vs is a h = first-range (Plain (plain.Bool false)) vs refl a
combine-range (suc (suc (suc (suc (suc (suc (suc (suc (suc (suc (suc (suc (suc (suc n)))))))))))))) vs is a h = absurd (omega (arith, is.high))

first-read-range : (vs : List (Option Val)) → AreInRange vs → IsInRange (unwrap_or (option_flatten (slice_get vs 0)) nothing)
first-read-range [] a = refl
first-read-range (None ∷ vs) a = refl
first-read-range (Some v ∷ vs) a = a.0

first-plain-range : (deps : DepsView) → AreDeps deps → IsInRange (first_plain deps)
first-plain-range deps a = plain-range (unwrap_or (first_read deps) nothing) (first-read-range deps.values a.in_range)

pub compute-range : (n : ℕ) (deps : DepsView) → IsNumber 6 n → AreDeps deps → Fits (compute_output n) (compute n deps) → IsInRange (compute n deps)
compute-range zero deps is a h = absurd (omega (arith, is.low))
compute-range (suc zero) deps is a h = int-range (compute 1 deps) h
compute-range (suc (suc zero)) deps is a h = int-range (compute 2 deps) h
compute-range (suc (suc (suc zero))) deps is a h = int-range (compute 3 deps) h
compute-range (suc (suc (suc (suc zero)))) deps is a h = first-plain-range deps a
compute-range (suc (suc (suc (suc (suc zero))))) deps is a h = int-range (compute 5 deps) h
compute-range (suc (suc (suc (suc (suc (suc zero)))))) deps is a h = set-range (unwrap_or (first_read deps) nothing) (first-read-range deps.values a.in_range)
compute-range (suc (suc (suc (suc (suc (suc (suc n))))))) deps is a h = absurd (omega (arith, is.high))

data-items : (ds : Data) → data_of (items_of ds) ≡ ds
data-items no_data = refl
data-items (datum d ds) = ap (datum d) (data-items ds)

value-range : (d : Datum) → datum_in_range d ≡ true → IsInRange (Plain (value_of d))
value-range unit h = refl
value-range (boolean b) h = refl
value-range (number z) h = h
value-range (text cs) h = refl
value-range (list ds) h = subst (λ x. data_in_range x ≡ true) (sym (data-items ds)) h

values-range : (ds : List Datum) → data_in_range (data_of ds) ≡ true → AllByRecursion IsInRange (map (λ d. Plain (value_of d)) ds)
values-range [] h = tt
values-range (d ∷ ds) h = let k = both (datum_in_range d) (data_in_range (data_of ds)) h in (value-range d k.0, values-range ds k.1)

items_in-range : (v : Val) → IsInRange v → data_in_range (data_of (items_in v)) ≡ true
items_in-range (Plain plain.Unit) h = refl
items_in-range (Plain (plain.Bool b)) h = refl
items_in-range (Plain (plain.Int z)) h = refl
items_in-range (Plain (plain.Text cs)) h = refl
items_in-range (Plain (plain.List ds)) h = h
items_in-range (Ranges r) h = refl
items_in-range (Layers r) h = refl
items_in-range (History r) h = refl

pub list-range : (n : ℕ) (deps : DepsView) → IsNumber 2 n → AreDeps deps → AllByRecursion (Fits (list_output n)) (compute_list n deps) → AllByRecursion IsInRange (compute_list n deps)
list-range zero deps is a h = absurd (omega (arith, is.low))
list-range (suc zero) deps is a h = all-ints-range (compute_list 1 deps) h
list-range (suc (suc zero)) deps is a h =
    let first = unwrap_or (first_read deps) nothing in values-range (items_in first) (items_in-range first (first-read-range deps.values a.in_range))
list-range (suc (suc (suc n))) deps is a h = absurd (omega (arith, is.high))

pub create-range : (n : ℕ) (deps : DepsView) → IsNumber 7 n → AreDeps deps → Fits (create_output n) (create n deps) → IsInRange (create n deps)
create-range zero deps is a h = absurd (omega (arith, is.low))
create-range (suc zero) deps is a h = refl
create-range (suc (suc zero)) deps is a h = refl
create-range (suc (suc (suc zero))) deps is a h = int-range (create 3 deps) h
create-range (suc (suc (suc (suc zero)))) deps is a h = refl
create-range (suc (suc (suc (suc (suc zero))))) deps is a h = refl
create-range (suc (suc (suc (suc (suc (suc zero)))))) deps is a h = refl
create-range (suc (suc (suc (suc (suc (suc (suc zero))))))) deps is a h = first-plain-range deps a
create-range (suc (suc (suc (suc (suc (suc (suc (suc n)))))))) deps is a h = absurd (omega (arith, is.high))

-- the plain values of effects
with-plain : (v : Val) (ps : List PlainData) → IsInRange v → AllByRecursion IsPlainInRange ps → AllByRecursion IsPlainInRange (cons_option (plain_of v) ps)
with-plain (Plain p) ps h a = (h, a)
with-plain (Ranges r) ps h a = a
with-plain (Layers r) ps h a = a
with-plain (History r) ps h a = a

plain_values-range : (es : List ShownEffect) → AllByRecursion IsShownInRange es → AllByRecursion IsPlainInRange (plain_values es)
plain_values-range [] a = tt
plain_values-range (e ∷ es) a = with-plain e.value (plain_values es) a.0.value (plain_values-range es a.1)

last-range : (old : Val) (ps : List PlainData) → IsInRange old → AllByRecursion IsPlainInRange ps → IsInRange (last_or old ps)
last-range old [] h a = h
last-range old (p ∷ ps) h a = last-range (Plain p) ps a.0 a.1

append-range : (ds es : List Datum) → data_in_range (data_of ds) ≡ true → data_in_range (data_of es) ≡ true → data_in_range (data_of (ds ++ es)) ≡ true
append-range [] es h k = k
append-range (d ∷ ds) es h k =
    let l = both (datum_in_range d) (data_in_range (data_of ds)) h in and-true (datum_in_range d) (data_in_range (data_of (ds ++ es))) l.0 (append-range ds es l.1 k)

plain-items-range : (ps : List PlainData) → AllByRecursion IsPlainInRange ps → data_in_range (data_of (map item ps)) ≡ true
plain-items-range [] a = refl
plain-items-range (p ∷ ps) a = and-true (datum_in_range (item p)) (data_in_range (data_of (map item ps))) (item-range p a.0) (plain-items-range ps a.1)

-- sets of ranges
short-ends : (r : Ranged Deco) → (r.from ≤ max_len) × (r.to ≤ max_len) → ends_in_range r ≡ true
short-ends r h =
    let l : r.from ≤ max_len = h.0 in let m : r.to ≤ max_len = h.1 in
    and-true (leb r.from max_u32) (leb r.to max_u32) (grind (arith, nat_tests)) (grind (arith, nat_tests))

within-range : (n : ℕ) (rs : DecoRanges) → n ≤ max_len → Within n rs → set_in_range rs ≡ true
within-range n [] l w = refl
within-range n (r ∷ rs) l w = and-true (ends_in_range r) (set_in_range rs) (short-ends r (omega (arith, l, w.0.0), omega (arith, l, w.0.1))) (within-range n rs l w.1)

mapped-range : (t : TransactionView) → IsTransaction t → (rs : DecoRanges) → set_in_range (mapped_set t rs) ≡ true
mapped-range t i rs =
    let d = lengths spelled t.changes in
    let size : new_size counted d ≡ length t.document = new_size-lengths spelled t.changes ∙ sym (length-apply t.changes t.start i.starts) ∙ ap length (sym i.document) in
    within-range (new_size counted d) (mapped_set t rs) (omega (arith, size, i.new_short))
    (within (new_size counted d) (mapped_set t rs) (map_in deco_rules d (kept_within (length t.start) rs)))

insert-range : (r : Ranged Deco) (rs : DecoRanges) → ends_in_range r ≡ true → set_in_range rs ≡ true → set_in_range (insert_by (before deco_rules) r rs) ≡ true
insert-range r [] h k = and-true (ends_in_range r) true h refl
insert-range r (q ∷ rs) h k =
    let l = both (ends_in_range q) (set_in_range rs) k in
    elim (before deco_rules q r) as (λ b. set_in_range (cond b (q ∷ insert_by (before deco_rules) r rs) (r ∷ q ∷ rs)) ≡ true)
    [ true ↦ and-true (ends_in_range q) (set_in_range (insert_by (before deco_rules) r rs)) l.0 (insert-range r rs h l.1) | false ↦ and-true (ends_in_range r) (set_in_range (q ∷ rs)) h k ]

sort-range : (rs : DecoRanges) → set_in_range rs ≡ true → set_in_range (stable_sort (before deco_rules) rs) ≡ true
sort-range [] h = refl
sort-range (r ∷ rs) h = let k = both (ends_in_range r) (set_in_range rs) h in insert-range r (stable_sort (before deco_rules) rs) k.0 (sort-range rs k.1)

one-more : (r : Ranged Deco) (rs : DecoRanges) → ends_in_range r ≡ true → set_in_range rs ≡ true → set_in_range (rs ++ r ∷ []) ≡ true
one-more r [] h k = and-true (ends_in_range r) true h refl
one-more r (q ∷ rs) h k = let l = both (ends_in_range q) (set_in_range rs) k in and-true (ends_in_range q) (set_in_range (rs ++ r ∷ [])) l.0 (one-more r rs h l.1)

abbrev AreEndsInRange : Ranged Deco → Type 0
AreEndsInRange r = ends_in_range r ≡ true

filter-range : (p : Ranged Deco → Bool) (rs : DecoRanges) → set_in_range rs ≡ true → set_in_range (filter p rs) ≡ true
filter-range p [] h = refl
filter-range p (r ∷ rs) h =
    let k = both (ends_in_range r) (set_in_range rs) h in
    elim (p r) as (λ b. set_in_range (cond b (r ∷ filter p rs) (filter p rs)) ≡ true)
    [ true ↦ and-true (ends_in_range r) (set_in_range (filter p rs)) k.0 (filter-range p rs k.1) | false ↦ filter-range p rs k.1 ]

added-range : (rs qs : DecoRanges) → set_in_range rs ≡ true → AllByRecursion AreEndsInRange qs → set_in_range (fold with_range rs qs) ≡ true
added-range rs [] h a = h
added-range rs (q ∷ qs) h a =
    added-range (with_range rs q) qs
    (sort-range (filter (λ r. true) rs ++ q ∷ []) (one-more q (filter (λ r. true) rs) a.0 (filter-range (λ r. true) rs h))) a.1

with-made : (o : Option (Ranged Deco)) (qs : DecoRanges) → IfSome o AreEndsInRange → AllByRecursion AreEndsInRange qs → AllByRecursion AreEndsInRange (cons_option o qs)
with-made None qs h a = a
with-made (Some q) qs h a = (h, a)

made-range : (made : ShownEffect → Option (Ranged Deco)) → ((e : ShownEffect) → IfSome (made e) AreEndsInRange) → (es : List ShownEffect) → AllByRecursion AreEndsInRange (filter_map made es)
made-range made h [] = tt
made-range made h (e ∷ es) = with-made (made e) (filter_map made es) (h e) (made-range made h es)

marked-range : (made : ShownEffect → Option (Ranged Deco)) → ((e : ShownEffect) → IfSome (made e) AreEndsInRange) → (rs : DecoRanges) → set_in_range rs ≡ true → (es : List ShownEffect) → set_in_range (with_ranges made rs es) ≡ true
marked-range made h rs k es = added-range rs (filter_map made es) k (made-range made h es)

-- the marks and the line decorations that effects make
mark-range : (len from to : ℕ) → len ≤ max_len → (b : Bool) → (nat_lt from to && nat_le to len) ≡ b → IfSome (cond b (Some (record { from = from; to = to; value = reversed })) None) AreEndsInRange
mark-range len from to l true e =
    let k = both (nat_lt from to) (nat_le to len) e in let c : nat_lt from to ≡ true = k.0 in let d : nat_le to len ≡ true = k.1 in
    short-ends (record { from = from; to = to; value = reversed }) (grind (arith, nat_tests), grind (arith, nat_tests))
mark-range len from to l false e = tt

mark_of-range : (len : ℕ) → len ≤ max_len → (e : ShownEffect) → IfSome (mark_of len e) AreEndsInRange
mark_of-range len l e = at (option_and_then places_in (pair_in e.value))
  where
    at : (o : Option (ℕ × ℕ)) → IfSome (option_and_then (mark_between len) o) AreEndsInRange
    at None = tt
    at (Some (from, to)) = mark-range len from to l (nat_lt from to && nat_le to len) refl

emptied-range : (b : Bool) (rs : DecoRanges) → set_in_range rs ≡ true → set_in_range (cond b [] rs) ≡ true
emptied-range true rs h = refl
emptied-range false rs h = h

not-past : (cs : List ℕ) (place : ℕ) → is_line_start cs place ≡ true → place ≤ length cs
not-past cs place h = at (ltb (length cs) place) refl
  where
    at : (b : Bool) → ltb (length cs) place ≡ b → place ≤ length cs
    at true e = let k : is_line_start cs place ≡ false = no_line_start cs place (grind (arith, nat_tests)) in absurd (cc)
    at false e = grind (arith, nat_tests)

bold-range : (cs : List ℕ) (place : ℕ) → length cs ≤ max_len → (b : Bool) → is_line_start cs place ≡ b → IfSome (cond b (Some (bold_line place)) None) AreEndsInRange
bold-range cs place l true e = let k = not-past cs place e in short-ends (bold_line place) (omega (arith, l, k), omega (arith, l, k))
bold-range cs place l false e = tt

line_of-range : (d : Option (List ℕ)) → IsShort d → (e : ShownEffect) → IfSome (line_of d e) AreEndsInRange
line_of-range None l e = tt
line_of-range (Some cs) l e = at (option_and_then place_in (number_in e.value))
  where
    at : (o : Option ℕ) → IfSome (option_and_then (line_at cs) o) AreEndsInRange
    at None = tt
    at (Some place) = bold-range cs place l (is_line_start cs place) refl

stepped-range : (old : Val) (input : StepView) → IsInRange old → IsInRange (stepped old input)
stepped-range (History h) input k = refl
stepped-range (Plain p) input k = k
stepped-range (Ranges r) input k = k
stepped-range (Layers r) input k = k

pub update-range : (n : ℕ) (old : Val) (t : TransactionView) (deps : DepsView) → IsNumber 8 n → IsInRange old → IsTransaction t → AreDeps deps → Fits (update_shape n) (update n old t deps) → IsInRange (update n old t deps)
update-range zero old t deps is h i a f = absurd (omega (arith, is.low))
update-range (suc zero) old t deps is h i a f = h
update-range (suc (suc zero)) old t deps is h i a f = int-range (update 2 old t deps) f
update-range (suc (suc (suc zero))) old t deps is h i a f = last-range old (plain_values t.effects) h (plain_values-range t.effects i.effects)
update-range (suc (suc (suc (suc zero)))) old t deps is h i a f =
    marked-range (mark_of (length t.document)) (mark_of-range (length t.document) i.new_short)
    _ (emptied-range _ (mapped_set t (ranges_in old)) (mapped-range t i (ranges_in old))) t.effects
update-range (suc (suc (suc (suc (suc zero))))) old t deps is h i a f =
    marked-range (line_of deps.document) (line_of-range deps.document a.short) (mapped_set t (ranges_in old)) (mapped-range t i (ranges_in old)) t.effects
update-range (suc (suc (suc (suc (suc (suc zero)))))) old t deps is h i a f = stepped-range old (history_input t (history_bounds deps)) h
update-range (suc (suc (suc (suc (suc (suc (suc zero))))))) old t deps is h i a f =
    append-range (items_in old) (map item (plain_values t.effects)) (items_in-range old h) (plain-items-range (plain_values t.effects) (plain_values-range t.effects i.effects))
update-range (suc (suc (suc (suc (suc (suc (suc (suc zero)))))))) old t deps is h i a f = first-plain-range deps a
update-range (suc (suc (suc (suc (suc (suc (suc (suc (suc n))))))))) old t deps is h i a f = absurd (omega (arith, is.high))
