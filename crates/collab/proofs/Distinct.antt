-- Names none of which stands among those before it are distinct.
use Rattle.std.proofs.Common.{◌≡◌, ℕ, zero, suc, Bool, true, false, cond, ◌||◌, List, [], ◌∷◌, ◌++◌, Some, None, slice_get, bytes_eq, refl, sym, ap, subst, ◌∙◌}
use Rattle.std.specs.List.{list_any}
use Rattle.collab.specs.Worlds.{AreDistinct, taken_name}
use Rattle.collab.proofs.Names.{name_test}

abbrev Name : Type 0
Name = List ℕ

free : (name : Name) (others names : List Name) → taken_name others (name ∷ names) ≡ None →
    (list_any (bytes_eq name) others ≡ false) × (taken_name (others ++ name ∷ []) names ≡ None)
free name others names h = cases (list_any (bytes_eq name) others) refl h
  where
    cases : (b : Bool) → list_any (bytes_eq name) others ≡ b → cond b (Some name) (taken_name (others ++ name ∷ []) names) ≡ None →
        (list_any (bytes_eq name) others ≡ false) × (taken_name (others ++ name ∷ []) names ≡ None)
    cases true e f = cc
    cases false e f = (e, f)

-- a name that is not among names and one more is not among them, and is not that one
among-less : (name other : Name) (others : List Name) → list_any (bytes_eq name) (others ++ other ∷ []) ≡ false → list_any (bytes_eq name) others ≡ false
among-less name other [] h = refl
among-less name other (x ∷ others) h = cases (bytes_eq name x) h (among-less name other others)
  where
    cases : (b : Bool) → (b || list_any (bytes_eq name) (others ++ other ∷ [])) ≡ false →
        (list_any (bytes_eq name) (others ++ other ∷ []) ≡ false → list_any (bytes_eq name) others ≡ false) → (b || list_any (bytes_eq name) others) ≡ false
    cases true e f = cc
    cases false e f = f e

among-last : (name : Name) (others : List Name) → list_any (bytes_eq name) (others ++ name ∷ []) ≡ true
among-last name [] = ap (λ b. b || false) (name_test name name refl)
among-last name (x ∷ others) = cases (bytes_eq name x) (among-last name others)
  where
    cases : (b : Bool) → list_any (bytes_eq name) (others ++ name ∷ []) ≡ true → (b || list_any (bytes_eq name) (others ++ name ∷ [])) ≡ true
    cases true e = refl
    cases false e = e

-- no later name stands among the others
apart : (names others : List Name) (j : ℕ) (name : Name) → taken_name others names ≡ None → slice_get names j ≡ Some name → list_any (bytes_eq name) others ≡ false
apart [] others j name h e = cc
apart (x ∷ names) others zero name h e = let s : x ≡ name = cc in subst (λ n. list_any (bytes_eq n) others ≡ false) s (free x others names h).0
apart (x ∷ names) others (suc j) name h e = among-less name x others (apart names (others ++ x ∷ []) j name (free x others names h).1 e)

distinct : (names others : List Name) → taken_name others names ≡ None → (i j : ℕ) (name : Name) → slice_get names i ≡ Some name → slice_get names j ≡ Some name → i ≡ j
distinct [] others h i j name e f = cc
distinct (x ∷ names) others h zero zero name e f = refl
distinct (x ∷ names) others h zero (suc j) name e f =
    let s : x ≡ name = cc in
    let k : list_any (bytes_eq x) (others ++ x ∷ []) ≡ false = apart names (others ++ x ∷ []) j x (free x others names h).1 (f ∙ ap Some (sym s)) in
    let t : true ≡ false = sym (among-last x others) ∙ k in cc
distinct (x ∷ names) others h (suc i) zero name e f =
    let s : x ≡ name = cc in
    let k : list_any (bytes_eq x) (others ++ x ∷ []) ≡ false = apart names (others ++ x ∷ []) i x (free x others names h).1 (e ∙ ap Some (sym s)) in
    let t : true ≡ false = sym (among-last x others) ∙ k in cc
distinct (x ∷ names) others h (suc i) (suc j) name e f = ap suc (distinct names (others ++ x ∷ []) (free x others names h).1 i j name e f)

pub all_distinct : (names : List (List ℕ)) → taken_name [] names ≡ None → AreDistinct names
all_distinct names h = distinct names [] h
