-- Taking the items of a list one after the other, as a loop does.
use Rattle.std.proofs.Common.{◌≡◌, ℕ, ◌+◌, ◌<◌, ◌≤◌, length, drop, get_or, List, [], ◌∷◌, ◌++◌, Result, Ok, Err, refl, sym, ap, ◌∙◌, append_assoc}
use Rattle.std.proofs.lemmas.List.{append-nil, drop_more, drop_all}
use Rattle.script.specs.declared.refusal.Refusal.{Refusal}
use Rattle.script.specs.declared.refusal.LineError.{LineError}
use Rattle.script.specs.declared.refusal.LineError.TheVariants as errors
use Rattle.script.specs.Reading.{◌>>=◌, Fails}
use Rattle.names.specs.Names.{each_of}

-- what was taken before, and what is still taken
abbrev pub with_prefix : {A : Type 0} → List A → Result (List A) Refusal → Result (List A) Refusal
with_prefix front rest = rest >>= λ xs. Ok (front ++ xs)

abbrev pub onto : {A : Type 0} → Result A Refusal → Result (List A) Refusal → Result (List A) Refusal
onto first others = first >>= λ x. others >>= λ xs. Ok (x ∷ xs)

regroup : {A : Type 0} (front : List A) (x : A) (others : Result (List A) Refusal) → with_prefix front (others >>= λ xs. Ok (x ∷ xs)) ≡ with_prefix (front ++ x ∷ []) others
regroup front x (Ok xs) = ap Ok (sym (append_assoc front (x ∷ []) xs))
regroup front x (Err r) = refl

-- one more item was taken of those that are left
pub goes_on_with : {X A : Type 0} (read : X → Result A Refusal) (front : List A) (x : A) (value : X) (left rest : List X) (total : Result (List A) Refusal) → left ≡ value ∷ rest
    → read value ≡ Ok x → with_prefix front (each_of read left) ≡ total → with_prefix (front ++ x ∷ []) (each_of read rest) ≡ total
goes_on_with read front x value left rest total is e so_far =
    let others = each_of read rest in
    sym (regroup front x others) ∙ ap (λ f. with_prefix front (onto f others)) (sym e) ∙ ap (λ v. with_prefix front (each_of read v)) (sym is) ∙ so_far

failed : {A : Type 0} (e : LineError) (front : List A) (first : Result A Refusal) (others total : Result (List A) Refusal) → Fails e first → with_prefix front (onto first others) ≡ total → Fails e total
failed errors.NoMemory front first others total fails so_far = tt
failed (errors.Refused r) front first others total fails so_far = sym so_far ∙ ap (λ f. with_prefix front (onto f others)) fails

-- the first of the items that are left is refused
pub ends_with : {X A : Type 0} (read : X → Result A Refusal) (e : LineError) (front : List A) (value : X) (left rest : List X) (total : Result (List A) Refusal) → left ≡ value ∷ rest
    → Fails e (read value) → with_prefix front (each_of read left) ≡ total → Fails e total
ends_with read e front value left rest total is fails so_far =
    failed e front (read value) (each_of read rest) total fails (ap (λ v. with_prefix front (each_of read v)) (sym is) ∙ so_far)

-- no items are left
pub is_done_with : {X A : Type 0} (read : X → Result A Refusal) (front : List A) (left : List X) (total : Result (List A) Refusal) → left ≡ [] → with_prefix front (each_of read left) ≡ total → total ≡ Ok front
is_done_with read front left total is so_far =
    let none : each_of read left ≡ Ok [] = ap (each_of read) is in
    sym so_far ∙ ap (with_prefix front) none ∙ ap Ok (append-nil front)

-- the item at the index, and those after it
at_index : {X : Type 0} (values : List X) (i : ℕ) (value : X) → i < length values → value ≡ get_or values i value → drop i values ≡ value ∷ drop (i + 1) values
at_index values i value h is = drop_more values i value h ∙ ap (λ v. v ∷ drop (i + 1) values) (sym is)

-- the same by the index of the item
pub goes_on : {X A : Type 0} (read : X → Result A Refusal) (front : List A) (x : A) (values : List X) (i : ℕ) (value : X) (total : Result (List A) Refusal) → i < length values → value ≡ get_or values i value
    → read value ≡ Ok x → with_prefix front (each_of read (drop i values)) ≡ total → with_prefix (front ++ x ∷ []) (each_of read (drop (i + 1) values)) ≡ total
goes_on read front x values i value total h is e so_far = goes_on_with read front x value (drop i values) (drop (i + 1) values) total (at_index values i value h is) e so_far

pub ends : {X A : Type 0} (read : X → Result A Refusal) (e : LineError) (front : List A) (values : List X) (i : ℕ) (value : X) (total : Result (List A) Refusal) → i < length values → value ≡ get_or values i value
    → Fails e (read value) → with_prefix front (each_of read (drop i values)) ≡ total → Fails e total
ends read e front values i value total h is fails so_far = ends_with read e front value (drop i values) (drop (i + 1) values) total (at_index values i value h is) fails so_far

pub is_done : {X A : Type 0} (read : X → Result A Refusal) (front : List A) (values : List X) (i : ℕ) (total : Result (List A) Refusal) → length values ≤ i → with_prefix front (each_of read (drop i values)) ≡ total → total ≡ Ok front
is_done read front values i total h so_far = is_done_with read front (drop i values) total (drop_all i values h) so_far
