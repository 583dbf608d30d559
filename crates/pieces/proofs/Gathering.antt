-- One item further where each item adds what a function gives.
use Rattle.std.proofs.Common.{◌≡◌, ℕ, ◌+◌, ◌<◌, List, [], ◌∷◌, ◌++◌, flat_map, length, drop, get_or, sym, ap, ◌∙◌, append_assoc, append-nil}
use Rattle.std.proofs.lemmas.List.{drop_more}
use Rattle.std.proofs.lemmas.List.Concat.{flat_map-cons}

pub gather_step : {X Y : Type 0} (f : X → List Y) (x : X) (left rest : List X) (done more all : List Y) → left ≡ x ∷ rest → more ≡ done ++ f x → done ++ flat_map f left ≡ all → more ++ flat_map f rest ≡ all
gather_step f x left rest done more all taken adds goes =
    rw adds (append_assoc done (f x) _ ∙ (ap (λ ys. done ++ ys) (sym (flat_map-cons f x rest)) ∙ (rw taken at goes)))

pub gather_end : {X Y : Type 0} (f : X → List Y) (left : List X) (done all : List Y) → left ≡ [] → done ++ flat_map f left ≡ all → done ≡ all
gather_end f left done all none goes = sym (append-nil done) ∙ (rw none at goes)

-- the next of a list's items, and those after it
pub drop_item : {X : Type 0} (xs : List X) (i : ℕ) (x : X) → i < length xs → x ≡ get_or xs i x → drop i xs ≡ x ∷ drop (i + 1) xs
drop_item {X} xs i x inside is = drop_more xs i x inside ∙ ap (λ (y : X). y ∷ drop (i + 1) xs) (sym is)
