-- The items of a list of plain data: they are less deep than the list, and are written one after the other.
use Rattle.std.proofs.Common.{◌≡◌, ◌<◌, ◌≤◌, ◌∙◌, ℕ, zero, suc, List, [], ◌∷◌, length, map, take, take_all, get_or, refl, sym, ap, arith}
use Rattle.cm_plain.specs.Datum.{Datum, data_of, depth, deepest}
use Rattle.cm_plain.specs.Plain.{datum_of}
use Rattle.cm_plain.specs.declared.plain.Plain.{Plain}
use Rattle.serde_json.specs.Data.{item}
use Rattle.serde_json.specs.View.{items_of, items_view, view}
use Rattle.serde_json.specs.declared.value.Value.{Value}
use Rattle.replies.specs.Shown.{plain_data, plain_items}

pub item_depth : (ps : List Plain) (i : ℕ) (p : Plain) → i < length ps → depth (datum_of (get_or ps i p)) ≤ deepest (data_of (map datum_of ps))
item_depth [] i p h = absurd (omega arith)
item_depth (q ∷ ps) zero p h = omega arith
item_depth (q ∷ ps) (suc i) p h = let e = item_depth ps i p (omega arith) in omega (arith, e)

one_by_one : (ps : List Plain) → plain_items (data_of (map datum_of ps)) ≡ items_of (map (λ p. plain_data (datum_of p)) ps)
one_by_one [] = refl
one_by_one (p ∷ ps) = ap (item (plain_data (datum_of p))) (one_by_one ps)

-- all items were written
pub all_written : (values : List Value) (ps : List Plain) (i : ℕ) (ds : List Datum) → length ps ≤ i → map view values ≡ map (λ p. plain_data (datum_of p)) (take i ps)
    → map datum_of ps ≡ ds → items_view values ≡ plain_items (data_of ds)
all_written values ps i ds h written is =
    ap items_of (written ∙ ap (map (λ p. plain_data (datum_of p))) (take_all i ps h)) ∙ sym (one_by_one ps) ∙ ap (λ xs. plain_items (data_of xs)) is
