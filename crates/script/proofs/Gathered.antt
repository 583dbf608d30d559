-- Reading the values of a list one after the other, as a loop does.
use Rattle.std.proofs.Common.{◌≡◌, IfOk, IsOk, IsErr, Result, Ok, Err, ℕ, ◌+◌, ◌<◌, ◌≤◌, length, drop, get_or, map, List, [], ◌∷◌, ◌++◌, Option, Some, None, option_map, option_and_then, refl, sym, ap, ◌∙◌}
use Rattle.std.proofs.lemmas.List.{drop_more, drop_all}
use Rattle.std.specs.Result.{result_ok}
use Rattle.std.proofs.lemmas.Bool.{le-leb, lt-leb}
use Rattle.cm_plain.specs.Datum.{Data, no_data, datum, list, data_of, depth, max_depth}
use Rattle.cm_plain.specs.Plain.{datum_of}
use Rattle.cm_plain.specs.declared.plain.Plain.{Plain}
use Rattle.cm_plain.specs.declared.plain.Plain.TheVariants.{List as Values}
use Rattle.cm_plain.specs.declared.plain.TooDeep.{TooDeep}
use Rattle.serde_json.specs.View.{view, items_view}
use Rattle.serde_json.specs.declared.value.Value.{Value}
use Rattle.script.specs.Values.{value_of, values_of, with_first, unless_deep}

-- what was read before, and what is still read
abbrev pub joined : List Plain → Data → Data
joined [] rest = rest
joined (p ∷ ps) rest = datum (datum_of p) (joined ps rest)

abbrev pub onto : List Plain → Option Data → Option Data
onto ps rest = option_map (joined ps) rest

joined_more : (ps : List Plain) (p : Plain) (rest : Data) → joined ps (datum (datum_of p) rest) ≡ joined (ps ++ p ∷ []) rest
joined_more [] p rest = refl
joined_more (q ∷ ps) p rest = ap (datum (datum_of q)) (joined_more ps p rest)

onto_more : (ps : List Plain) (p : Plain) (rest : Option Data) → onto ps (option_map (datum (datum_of p)) rest) ≡ onto (ps ++ p ∷ []) rest
onto_more ps p None = refl
onto_more ps p (Some rest) = ap Some (joined_more ps p rest)

joined_all : (ps : List Plain) → joined ps no_data ≡ data_of (map datum_of ps)
joined_all [] = refl
joined_all (p ∷ ps) = ap (datum (datum_of p)) (joined_all ps)

-- the item at the index, and those after it
at_item : (values : List Value) (i : ℕ) (value : Value) → i < length values → value ≡ get_or values i value
    → values_of (items_view (drop i values)) ≡ with_first (value_of (view value)) (values_of (items_view (drop (i + 1) values)))
at_item values i value h is = ap (λ vs. values_of (items_view vs)) (drop_more values i value h ∙ ap (λ v. v ∷ drop (i + 1) values) (sym is))

-- one more item was read
pub goes_on : (ps : List Plain) (p : Plain) (values : List Value) (i : ℕ) (value : Value) (total : Option Data) → i < length values → value ≡ get_or values i value
    → Some (datum_of p) ≡ value_of (view value) → onto ps (values_of (items_view (drop i values))) ≡ total
    → onto (ps ++ p ∷ []) (values_of (items_view (drop (i + 1) values))) ≡ total
goes_on ps p values i value total h is e so_far =
    let others = values_of (items_view (drop (i + 1) values)) in
    sym (onto_more ps p others) ∙ ap (λ f. onto ps (with_first f others)) e ∙ ap (onto ps) (sym (at_item values i value h is)) ∙ so_far

-- the item is no value
pub ends : (ps : List Plain) (values : List Value) (i : ℕ) (value : Value) (total : Option Data) → i < length values → value ≡ get_or values i value
    → None ≡ value_of (view value) → onto ps (values_of (items_view (drop i values))) ≡ total → None ≡ total
ends ps values i value total h is e so_far =
    let others = values_of (items_view (drop (i + 1) values)) in
    ap (λ f. onto ps (with_first f others)) e ∙ ap (onto ps) (sym (at_item values i value h is)) ∙ so_far

-- all items were read
pub is_done : (ps : List Plain) (values : List Value) (i : ℕ) (total : Option Data) → length values ≤ i
    → onto ps (values_of (items_view (drop i values))) ≡ total → total ≡ Some (data_of (map datum_of ps))
is_done ps values i total h so_far =
    sym so_far ∙ ap (λ vs. onto ps (values_of (items_view vs))) (drop_all i values h) ∙ ap Some (joined_all ps)

-- a list was made of them, or is too deep
pub made : (r : Result Plain TooDeep) (ps : List Plain) (total : Option Data) → IfOk r (λ p. p ≡ Values (map datum_of ps))
    → (IsOk r → depth (list (data_of (map datum_of ps))) ≤ max_depth) → (IsErr r → max_depth < depth (list (data_of (map datum_of ps))))
    → total ≡ Some (data_of (map datum_of ps)) → option_map datum_of (result_ok r) ≡ option_and_then unless_deep total
made (Ok p) ps total is fits deep e = rw (is, e, le-leb _ _ (fits refl)) refl
made (Err error) ps total is fits deep e = rw (e, lt-leb _ _ (deep refl)) refl
