-- Ranges of which no two neighbours meet stand in order, each after the end of the one before it.
use Rattle.std.proofs.Common.{◌≡◌, ℕ, zero, suc, ◌+◌, ◌<◌, ◌≤◌, Bool, true, false, not, ◌&&◌, ◌||◌, eqb, ltb, List, [], ◌∷◌, length, get_or, drop, add-one, take, map, ◌++◌, sym, ap, ◌∙◌, refl, arith}
use Rattle.std.proofs.lemmas.List.{map-append, take_more}
use Rattle.std.proofs.lemmas.Bool.Decides.{nat_tests}
use Rattle.selection.specs.declared.range.Range.{Range}
use Rattle.selection.specs.Ranges.{low, high, is_empty, meet}
use Rattle.selection.specs.Selections.{LieIn, are_apart}

pub and_left : (a b : Bool) → (a && b) ≡ true → a ≡ true
and_left true b h = refl
and_left false b h = cc

pub and_right : (a b : Bool) → (a && b) ≡ true → b ≡ true
and_right true b h = h
and_right false b h = cc

pub not_true : (b : Bool) → not b ≡ true → b ≡ false
not_true false h = refl
not_true true h = cc

pub ends_apart : (ha lb : ℕ) (c : Bool) → (ltb lb ha || (eqb lb ha && c)) ≡ false → ha ≤ lb
ends_apart ha lb c h = grind (arith, nat_tests)

pub high_before : (r q : Range) (rs : List Range) → are_apart (r ∷ q ∷ rs) ≡ true → high r ≤ low q
high_before r q rs p =
    ends_apart (high r) (low q) (is_empty r || is_empty q) (not_true (meet r q) (and_left (not (meet r q)) (are_apart (q ∷ rs)) p))

pub apart_rest : (r q : Range) (rs : List Range) → are_apart (r ∷ q ∷ rs) ≡ true → are_apart (q ∷ rs) ≡ true
apart_rest r q rs p = and_right (not (meet r q)) (are_apart (q ∷ rs)) p

-- no two neighbours meet, and the first range begins at n or after
abbrev pub Follow : ℕ → List Range → Type 0
Follow n [] = Unit {0}
Follow n (r ∷ rs) = (n ≤ low r) × (are_apart (r ∷ rs) ≡ true)

pub follow_all : (rs : List Range) → are_apart rs ≡ true → Follow 0 rs
follow_all [] h = tt
follow_all (r ∷ rs) h = (omega arith, h)

pub follow_next : (n : ℕ) (r : Range) (rs : List Range) → Follow n (r ∷ rs) → Follow (high r) rs
follow_next n r [] h = tt
follow_next n r (q ∷ rs) h = (high_before r q rs h.1, apart_rest r q rs h.1)

follow_after : (n i : ℕ) (rs : List Range) (d : Range) → i < length rs → Follow n (drop i rs) → Follow (high (get_or rs i d)) (drop (suc i) rs)
follow_after n i [] d l h = absurd (omega arith)
follow_after n zero (r ∷ rs) d l h = follow_next n r rs h
follow_after n (suc i) (r ∷ rs) d l h = follow_after n i rs d (omega arith) h

pub follow_at : (n i : ℕ) (rs : List Range) (d : Range) → i < length rs → Follow n (drop i rs) → Follow (high (get_or rs i d)) (drop (i + 1) rs)
follow_at n i rs d l h = rw (add-one i) (follow_after n i rs d l h)

inside_after : (len i : ℕ) (rs : List Range) → i < length rs → LieIn len (drop i rs) → LieIn len (drop (suc i) rs)
inside_after len i [] l h = absurd (omega arith)
inside_after len zero (r ∷ rs) l h = h.1
inside_after len (suc i) (r ∷ rs) l h = inside_after len i rs (omega arith) h

pub inside_at : (len i : ℕ) (rs : List Range) → i < length rs → LieIn len (drop i rs) → LieIn len (drop (i + 1) rs)
inside_at len i rs l h = rw (add-one i) (inside_after len i rs l h)

pub moved_more : (f : Range → Range) (rs done after : List Range) (i : ℕ) (d moved : Range) → i < length rs → done ≡ map f (take i rs) → moved ≡ f (get_or rs i d)
    → after ≡ done ++ moved ∷ [] → after ≡ map f (take (i + 1) rs)
moved_more f rs done after i d moved l h e a =
    a ∙ ap (λ m. done ++ m ∷ []) e ∙ ap (λ ms. ms ++ f (get_or rs i d) ∷ []) h
    ∙ sym (ap (map f) (take_more rs i d l) ∙ map-append f (take i rs) (get_or rs i d ∷ []))
