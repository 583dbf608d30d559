-- Items of lists that rules make, and pairs of numbers, one more at a time.
use Rattle.std.specs.Prelude.{◌≡◌, ◌<◌, max, ltb, cond, Bool, true, false, ℤ, pos, List, [], ◌∷◌, ◌++◌, map, fold, Option, Some, None, refl}
use Rattle.std.specs.Int.{int_max, int_min}
use Rattle.std.proofs.Common.{arith, ap}
use Rattle.std.proofs.lemmas.Bool.Decides.{nat_tests}
use Rattle.std.proofs.lemmas.Grind.{common_steps}
use Rattle.std.proofs.lemmas.List.Sums.{fold-append}
use Rattle.cm_plain.specs.Datum.{Datum, unit, depth, deepest, data_of, max_depth}
use Rattle.cm_plain.specs.Plain.{datum_of}
use Rattle.cm_plain.specs.declared.plain.Plain.{Plain as PlainData}
use Rattle.values.specs.declared.val.Val.{Val}
use Rattle.values.specs.Reading.{item, plain_or_unit}
use Rattle.values.specs.Combining.{bounds_of, list_of_two}

-- none is of the greatest depth
abbrev pub AreItems : List Datum → Type 0
AreItems ds = deepest (data_of ds) < max_depth

shallow : (b : Bool) (d : Datum) → ltb (depth d) max_depth ≡ b → depth (cond b d unit) < max_depth
shallow true d h = grind (arith, nat_tests)
shallow false d h = omega arith

pub item-shallow : (p : PlainData) → depth (item p) < max_depth
item-shallow p = shallow (ltb (depth (datum_of p)) max_depth) (datum_of p) refl

pub items-shallow : (vs : List Val) → AreItems (map (λ v. item (plain_or_unit v)) vs)
items-shallow [] = omega arith
items-shallow (v ∷ vs) = omega (arith, item-shallow (plain_or_unit v), items-shallow vs)

abbrev pub narrower_of : Option (ℤ × ℤ) → ℤ × ℤ → Option (ℤ × ℤ)
narrower_of (Some before) q = Some (int_max before.0 q.0, int_min before.1 q.1)
narrower_of None q = Some q

-- the greatest first and the least second number of some pairs, if there are any
abbrev pub narrowest : List (ℤ × ℤ) → Option (ℤ × ℤ)
narrowest [] = None
narrowest (p ∷ ps) = Some (fold int_max p.0 (map (λ q. q.0) ps), fold int_min p.1 (map (λ q. q.1) ps))

-- the bounds of pairs
abbrev pub bounds_or : Option (ℤ × ℤ) → Val
bounds_or (Some q) = list_of_two q.0 q.1
bounds_or None = list_of_two (pos 100) (pos 500)

firsts-push : (z : ℤ) (ps : List (ℤ × ℤ)) (q : ℤ × ℤ) → fold int_max z (map (λ q. q.0) (ps ++ q ∷ [])) ≡ int_max (fold int_max z (map (λ q. q.0) ps)) q.0
firsts-push z [] q = refl
firsts-push z (p ∷ ps) q = firsts-push (int_max z p.0) ps q

seconds-push : (z : ℤ) (ps : List (ℤ × ℤ)) (q : ℤ × ℤ) → fold int_min z (map (λ q. q.1) (ps ++ q ∷ [])) ≡ int_min (fold int_min z (map (λ q. q.1) ps)) q.1
seconds-push z [] q = refl
seconds-push z (p ∷ ps) q = seconds-push (int_min z p.1) ps q

pub narrowest-push : (ps : List (ℤ × ℤ)) (q : ℤ × ℤ) → narrowest (ps ++ q ∷ []) ≡ narrower_of (narrowest ps) q
narrowest-push [] q = refl
narrowest-push (p ∷ ps) q = let e = firsts-push p.0 ps q in let f = seconds-push p.1 ps q in cc

pub bounds-narrowest : (ps : List (ℤ × ℤ)) → bounds_of ps ≡ bounds_or (narrowest ps)
bounds-narrowest [] = refl
bounds-narrowest (p ∷ ps) = refl

-- items of one list after those of another
pub items-append : (ds es : List Datum) → AreItems ds → AreItems es → AreItems (ds ++ es)
items-append [] es h k = k
items-append (d ∷ ds) es h k = let e : AreItems ds = omega (arith, h) in omega (arith, h, items-append ds es e k)

pub plains-shallow : (ps : List PlainData) → AreItems (map item ps)
plains-shallow [] = omega arith
plains-shallow (p ∷ ps) = omega (arith, item-shallow p, plains-shallow ps)
