-- The numbers that a facet's value lists.
use Rattle.std.proofs.Common.{◌≡◌, ℕ, ◌-◌, ◌<◌, Bool, true, false, cond, ◌&&◌, ltb, ℤ, pos, negsuc, List, [], ◌∷◌, All, filter_map, reverse, Option, Some, None, length, refl, sym, subst, arith}
use Rattle.std.proofs.lemmas.Bool.Decides.{nat_tests}
use Rattle.std.proofs.lemmas.List.{get_or-reverse, length-reverse}
use Rattle.std.proofs.lemmas.List.Elements.{All-nil, All-cons, All-from_get_or}
use Rattle.std.specs.List.{cons_option}
use Rattle.cm_plain.specs.Datum.{Datum, unit, boolean, number, text, list, data_of}
use Rattle.cm_plain.specs.Form.{numbers, hold, holds, lists}
use Rattle.cm_plain.specs.declared.plain.Plain.{Plain as PlainData}
use Rattle.cm_plain.specs.declared.plain.Plain.TheVariants as plain
use Rattle.transaction.specs.Numbers.{IsNumber}
use Rattle.values.specs.declared.val.Val.{Val}
use Rattle.values.specs.declared.val.Val.TheVariants.{Plain, Ranges, Layers, History}
use Rattle.values.specs.Reading.{place_in}
use Rattle.filters.specs.Facets.{ListsNumbers, rule_number, rule_numbers}

both-true : (a b : Bool) → (a && b) ≡ true → (a ≡ true) × (b ≡ true)
both-true true b h = (refl, h)
both-true false b h = cc

-- a whole number among those of a sort, before others
number-more : (count n : ℕ) (ns : List ℕ) → holds (number (pos n)) (numbers (pos 1) (pos count)) ≡ true → All (IsNumber count) ns →
    All (IsNumber count) (cons_option (place_in (pos n)) ns)
number-more count n ns h k = cases (ltb n 4294967296)
  where
    cases : (b : Bool) → All (IsNumber count) (cons_option (cond b (Some n) None) ns)
    cases true = All-cons (IsNumber count) n ns (record { low = grind (arith, nat_tests); high = grind (arith, nat_tests) }) k
    cases false = k

items-known : (count : ℕ) (ds : List Datum) → hold (data_of ds) (numbers (pos 1) (pos count)) ≡ true → All (IsNumber count) (filter_map rule_number ds)
items-known count [] h = All-nil (IsNumber count)
items-known count (number (pos n) ∷ ds) h =
    let e = both-true (holds (number (pos n)) (numbers (pos 1) (pos count))) (hold (data_of ds) (numbers (pos 1) (pos count))) h in
    number-more count n (filter_map rule_number ds) e.0 (items-known count ds e.1)
items-known count (number (negsuc n) ∷ ds) h = cc
items-known count (unit ∷ ds) h = cc
items-known count (boolean b ∷ ds) h = cc
items-known count (text cs ∷ ds) h = cc
items-known count (list es ∷ ds) h = cc

pub numbers-known : (count : ℕ) (v : Val) (ns : List ℕ) → ns ≡ rule_numbers v → ListsNumbers count v → All (IsNumber count) ns
numbers-known count v ns e h = subst (All (IsNumber count)) (sym e) (known v h)
  where
    known : (v : Val) → ListsNumbers count v → All (IsNumber count) (rule_numbers v)
    known (Plain (plain.List ds)) h = items-known count ds h
    known (Plain plain.Unit) h = cc
    known (Plain (plain.Bool b)) h = cc
    known (Plain (plain.Int z)) h = cc
    known (Plain (plain.Text s)) h = cc
    known (Ranges rs) h = cc
    known (Layers ls) h = cc
    known (History hs) h = cc

pub reversed-known : (count : ℕ) (ns ms : List ℕ) → ms ≡ reverse ns → All (IsNumber count) ns → All (IsNumber count) ms
reversed-known count ns ms e h = subst (All (IsNumber count)) (sym e) (All-from_get_or (IsNumber count) (reverse ns) 0 (λ k lt.
    let l : length (reverse ns) ≡ length ns = length-reverse ns in
    let n : k < length ns = omega arith in
    rw (get_or-reverse ns k 0 n) (h (length ns - 1 - k) 0 (omega arith))))
