-- The names that updates bear, and their numbers.
use Rattle.std.proofs.Common.{◌≡◌, ◌≢◌, ℕ, suc, ◌+◌, Bool, true, false, cond, List, [], ◌∷◌, ◌++◌, length, map, bytes_eq, refl, sym, ap, subst, ◌∙◌, arith}
use Rattle.std.proofs.lemmas.Slice.Eq.{bytes_eq-Decides}
use Rattle.collab.specs.declared.update.Update.{Update}
use Rattle.collab.specs.Updates.{AllBear, numbers_of, CountOn}

pub same_name : (a b : List ℕ) → bytes_eq a b ≡ true → a ≡ b
same_name a b h = (bytes_eq-Decides a b).0 h

pub name_test : (a b : List ℕ) → a ≡ b → bytes_eq a b ≡ true
name_test a b h = (bytes_eq-Decides a b).1 h

pub other_test : (a b : List ℕ) → a ≢ b → bytes_eq a b ≡ false
other_test a b h = by (bytes_eq a b) refl
  where
    by : (t : Bool) → bytes_eq a b ≡ t → t ≡ false
    by true e = absurd (h (same_name a b e))
    by false e = refl

pub other_name : (a b : List ℕ) → bytes_eq a b ≡ false → a ≢ b
other_name a b h e = let t : true ≡ false = sym (name_test a b e) ∙ h in cc

abbrev pub numbers : List Update → List ℕ
numbers us = map (λ u. u.number) us

pub numbers_of-append : (name : List ℕ) (us vs : List Update) → numbers_of name (us ++ vs) ≡ numbers_of name us ++ numbers_of name vs
numbers_of-append name [] vs = refl
numbers_of-append name (u ∷ us) vs = cases (bytes_eq name u.client) (numbers_of-append name us vs)
  where
    cases : (b : Bool) → numbers_of name (us ++ vs) ≡ numbers_of name us ++ numbers_of name vs →
        cond b (u.number ∷ numbers_of name (us ++ vs)) (numbers_of name (us ++ vs)) ≡ cond b (u.number ∷ numbers_of name us) (numbers_of name us) ++ numbers_of name vs
    cases true h = ap (λ ns. u.number ∷ ns) h
    cases false h = h

pub own_numbers : (name : List ℕ) (us : List Update) → AllBear name us → numbers_of name us ≡ numbers us
own_numbers name [] h = refl
own_numbers name (u ∷ us) h =
    ap (λ b. cond b (u.number ∷ numbers_of name us) (numbers_of name us)) (name_test name u.client (sym h.0)) ∙ ap (λ ns. u.number ∷ ns) (own_numbers name us h.1)

pub other_numbers : (name other : List ℕ) (us : List Update) → AllBear other us → name ≢ other → numbers_of name us ≡ []
other_numbers name other [] h k = refl
other_numbers name other (u ∷ us) h k =
    ap (λ b. cond b (u.number ∷ numbers_of name us) (numbers_of name us)) (other_test name u.client (λ e. k (e ∙ h.0))) ∙ other_numbers name other us h.1 k

pub bear-append : (name : List ℕ) (us vs : List Update) → AllBear name us → AllBear name vs → AllBear name (us ++ vs)
bear-append name [] vs h k = k
bear-append name (u ∷ us) vs h k = (h.0, bear-append name us vs h.1 k)

pub bear-left : (name : List ℕ) (us vs : List Update) → AllBear name (us ++ vs) → AllBear name us
bear-left name [] vs h = tt
bear-left name (u ∷ us) vs h = (h.0, bear-left name us vs h.1)

pub count-append : (n : ℕ) (ks ls : List ℕ) → CountOn n ks → CountOn (n + length ks) ls → CountOn n (ks ++ ls)
count-append n [] ls h k = let e : n + length {A = ℕ} [] ≡ n = omega arith in subst (λ m. CountOn m ls) e k
count-append n (x ∷ ks) ls h k =
    let e : n + length (x ∷ ks) ≡ suc n + length ks = omega arith in
    (h.0, count-append (suc n) ks ls h.1 (subst (λ m. CountOn m ls) e k))

pub count-left : (n : ℕ) (ks ls : List ℕ) → CountOn n (ks ++ ls) → CountOn n ks
count-left n [] ls h = tt
count-left n (x ∷ ks) ls h = (h.0, count-left (suc n) ks ls h.1)

pub numbers-append : (us vs : List Update) → numbers (us ++ vs) ≡ numbers us ++ numbers vs
numbers-append [] vs = refl
numbers-append (u ∷ us) vs = ap (λ ns. u.number ∷ ns) (numbers-append us vs)

pub numbers-length : (us : List Update) → length (numbers us) ≡ length us
numbers-length [] = refl
numbers-length (u ∷ us) = ap suc (numbers-length us)
