-- Names as a map keeps them.
use Rattle.std.proofs.Common.{◌≡◌, ℕ, zero, suc, take, ◌+◌, ◌≤◌, List, [], ◌∷◌, map, drop, length, cond, Bool, true, false, Some, None, slice_get, refl, sym, ap, ◌∙◌, is_some, true≢false}
use Rattle.std.proofs.lemmas.List.{drop_more, drop_all}
use Rattle.std.proofs.lemmas.Option.{get_or_from_slice_get, slice_get_within}
use Rattle.std.specs.Global.{Vec}
use Rattle.std.specs.Map.{lookup}
use Rattle.std.specs.Str.{bytes_eq}
use Rattle.indexmap.specs.IndexMap.{insert_entry}
use Rattle.names.specs.declared.named.Named.{Named}
use Rattle.names.specs.Names.{has_id, meaning_of, name_of, with_name}
use Rattle.registry.specs.declared.id_sort.IdSort.{IdSort}

abbrev pub Key : Type 0
Key = Vec ℕ

abbrev pub text_of : Key → List ℕ
text_of k = k.items

abbrev pub seen : List (Key × Named) → List (List ℕ × Named)
seen es = map (λ e. (text_of e.0, e.1)) es

-- what a name stands for is what the map finds
pub looked_up : (name : List ℕ) (es : List (Key × Named)) → lookup (λ k. bytes_eq name (text_of k)) es ≡ meaning_of name (seen es)
looked_up name [] = refl
looked_up name (e ∷ es) = ap (λ rest. cond (bytes_eq name (text_of e.0)) (Some e.1) rest) (looked_up name es)

-- a name that isn't there goes last
pub added : (key : Key) (thing : Named) (es : List (Key × Named)) → meaning_of (text_of key) (seen es) ≡ None
    → seen (insert_entry (λ a b. bytes_eq (text_of a) (text_of b)) es key thing) ≡ with_name (seen es) (text_of key) thing
added key thing [] h = refl
added key thing (e ∷ es) h = by (λ none. added key thing es none) (bytes_eq (text_of key) (text_of e.0)) refl h where
  by : (meaning_of (text_of key) (seen es) ≡ None → seen (insert_entry (λ a b. bytes_eq (text_of a) (text_of b)) es key thing) ≡ with_name (seen es) (text_of key) thing)
      → (b : Bool) → bytes_eq (text_of key) (text_of e.0) ≡ b → cond (bytes_eq (text_of key) (text_of e.0)) (Some e.1) (meaning_of (text_of key) (seen es)) ≡ None
      → seen (cond (bytes_eq (text_of key) (text_of e.0)) ((e.0, thing) ∷ es) (e ∷ insert_entry (λ a b. bytes_eq (text_of a) (text_of b)) es key thing)) ≡ with_name (seen (e ∷ es)) (text_of key) thing
  by later true is none = absurd (true≢false (ap is_some (sym (ap (λ b. cond b (Some e.1) (meaning_of (text_of key) (seen es))) is) ∙ none)))
  by later false is none =
      ap (λ b. seen (cond b ((e.0, thing) ∷ es) (e ∷ insert_entry (λ a b. bytes_eq (text_of a) (text_of b)) es key thing))) is
      ∙ ap (λ rest. (text_of e.0, e.1) ∷ rest) (later (sym (ap (λ b. cond b (Some e.1) (meaning_of (text_of key) (seen es))) is) ∙ none))

-- the entry at a place, and those after it
at_place : (es : List (Key × Named)) (place : ℕ) (e : Key × Named) → slice_get es place ≡ Some e → drop place es ≡ e ∷ drop (place + 1) es
at_place es place e is =
    drop_more es place e (slice_get_within es place e is) ∙ ap (λ x. x ∷ drop (place + 1) es) (get_or_from_slice_get es place e e is)

-- an entry of this id has the first name of those that are left
pub is_here : (sort : IdSort) (id : ℕ) (es : List (Key × Named)) (place : ℕ) (e : Key × Named) → slice_get es place ≡ Some e → has_id sort id e.1 ≡ true → name_of sort id (seen (drop place es)) ≡ Some (text_of e.0)
is_here sort id es place e is has = ap (λ l. name_of sort id (seen l)) (at_place es place e is) ∙ ap (λ b. cond b (Some (text_of e.0)) (name_of sort id (seen (drop (place + 1) es)))) has

-- of another id it has none
pub is_later : (sort : IdSort) (id : ℕ) (es : List (Key × Named)) (place : ℕ) (e : Key × Named) → slice_get es place ≡ Some e → has_id sort id e.1 ≡ false → name_of sort id (seen (drop place es)) ≡ name_of sort id (seen (drop (place + 1) es))
is_later sort id es place e is has = ap (λ l. name_of sort id (seen l)) (at_place es place e is) ∙ ap (λ b. cond b (Some (text_of e.0)) (name_of sort id (seen (drop (place + 1) es)))) has

pub is_nowhere : (sort : IdSort) (id : ℕ) (es : List (Key × Named)) (place : ℕ) → length es ≤ place → name_of sort id (seen (drop place es)) ≡ None
is_nowhere sort id es place h = ap (λ l. name_of sort id (seen l)) (drop_all place es h)

-- the first names are those of the first entries
pub shortened : (count : ℕ) (es : List (Key × Named)) → seen (take count es) ≡ take count (seen es)
shortened zero [] = refl
shortened zero (e ∷ es) = refl
shortened (suc count) [] = refl
shortened (suc count) (e ∷ es) = ap (λ rest. (text_of e.0, e.1) ∷ rest) (shortened count es)
