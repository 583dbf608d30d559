-- A section put after a list of sections in normal form.
use Rattle.std.proofs.Common.{◌≡◌, ℕ, zero, suc, ◌+◌, ◌≤◌, ◌<◌, true, false, List, [], ◌∷◌, ◌++◌, length, get_or, set, take, drop, refl, sym, ap, subst, ◌∙◌, arith}
use Rattle.std.specs.List.{refill}
use Rattle.std.proofs.lemmas.List.{length-set, append-nil, take_more, take_all, set_split, drop_all, nil_from_length}
use Rattle.change_desc.specs.declared.section.Section.{Section}
use Rattle.change_desc.specs.Sections.{Texts, is_blank, kind, joins, joined, normal, old_of, old_size, new_of, new_size}
use Rattle.change_desc.proofs.Normal.{Laws, normal-apart, normal-joined}

split_last : {A : Type 0} (s : List A) (n : ℕ) (d : A) → n + 1 ≡ length s → s ≡ take n s ++ get_or s n d ∷ []
split_last s n d e = sym (take_all (n + 1) s (omega arith)) ∙ take_more s n d (omega arith)

set_last : {A : Type 0} (s : List A) (n : ℕ) (a : A) → n + 1 ≡ length s → set s n a ≡ take n s ++ a ∷ []
set_last s n a e = set_split s n a (omega arith) ∙ ap (λ t. take n s ++ a ∷ t) (drop_all (suc n) s (omega arith))

pub get_or-any : {A : Type 0} (s : List A) (n : ℕ) (d e : A) → n < length s → get_or s n d ≡ get_or s n e
get_or-any [] n d e l = absurd (omega arith)
get_or-any (x ∷ s) zero d e l = refl
get_or-any (x ∷ s) (suc n) d e l = get_or-any s n d e (omega arith)

-- one element written, where the list is written back as a whole
pub refill-set : {A : Type 0} (s : List A) (n : ℕ) (a : A) → refill (length s) s (set s n a) ≡ set s n a
refill-set s n a =
    let e : drop (length (set s n a)) s ≡ [] = drop_all (length (set s n a)) s (omega (arith, length-set s n a)) in
    ap (λ t. take (length s) (set s n a ++ t)) e ∙ (ap (take (length s)) (append-nil (set s n a)) ∙ take_all (length s) (set s n a) (omega (arith, length-set s n a)))

module _ {T C : Type 0} (X : Texts T C) (L : Laws X) where
  -- joined to the last section
  pub push_joined : (s : List (Section T)) (n : ℕ) (x y : Section T) → n + 1 ≡ length s → x ≡ get_or s n x → normal X s ≡ s → is_blank X y ≡ false →
      joins (kind X x) (kind X y) ≡ true → set s n (joined X x y) ≡ normal X (s ++ y ∷ [])
  push_joined s n x y e r h b j =
      let p : s ≡ take n s ++ x ∷ [] = subst (λ z. s ≡ take n s ++ z ∷ []) (sym r) (split_last s n x e) in
      let h' : normal X (take n s ++ x ∷ []) ≡ take n s ++ x ∷ [] = subst (λ z. normal X z ≡ z) p h in
      set_last s n (joined X x y) e ∙ (sym (normal-joined X L (take n s) x y h' b j) ∙ ap (λ z. normal X (z ++ y ∷ [])) (sym p))

  -- or put after it
  pub push_apart : (s : List (Section T)) (n : ℕ) (x y : Section T) → n + 1 ≡ length s → x ≡ get_or s n x → normal X s ≡ s → is_blank X y ≡ false →
      joins (kind X x) (kind X y) ≡ false → s ++ y ∷ [] ≡ normal X (s ++ y ∷ [])
  push_apart s n x y e r h b j =
      let p : s ≡ take n s ++ x ∷ [] = subst (λ z. s ≡ take n s ++ z ∷ []) (sym r) (split_last s n x e) in
      let h' : normal X (take n s ++ x ∷ []) ≡ take n s ++ x ∷ [] = subst (λ z. normal X z ≡ z) p h in
      ap (λ z. z ++ y ∷ []) p ∙ (sym (normal-apart X L (take n s) x y h' b j) ∙ ap (λ z. normal X (z ++ y ∷ [])) (sym p))

  pub push_first : (s : List (Section T)) (y : Section T) → length s ≡ 0 → is_blank X y ≡ false → s ++ y ∷ [] ≡ normal X (s ++ y ∷ [])
  push_first s y e b = rw (nil_from_length s e, b) refl

  pub old_of-read : (s : List (Section T)) (n : ℕ) (x : Section T) → n < length s → x ≡ get_or s n x → old_of x ≤ old_size s
  old_of-read [] n x l e = absurd (omega arith)
  old_of-read (y ∷ s) zero x l e = omega (arith, ap old_of e)
  old_of-read (y ∷ s) (suc n) x l e = omega (arith, old_of-read s n x (omega arith) e)

  pub new_of-read : (s : List (Section T)) (n : ℕ) (x : Section T) → n < length s → x ≡ get_or s n x → new_of X x ≤ new_size X s
  new_of-read [] n x l e = absurd (omega arith)
  new_of-read (y ∷ s) zero x l e = omega (arith, ap (new_of X) e)
  new_of-read (y ∷ s) (suc n) x l e = omega (arith, new_of-read s n x (omega arith) e)

module _ {T C : Type 0} (X : Texts T C) (L : Laws X) where
  -- the same where the last section was taken off
  pub pop_joined : (s p : List (Section T)) (x y : Section T) → s ≡ p ++ x ∷ [] → normal X s ≡ s → is_blank X y ≡ false → joins (kind X x) (kind X y) ≡ true →
      p ++ joined X x y ∷ [] ≡ normal X (s ++ y ∷ [])
  pop_joined s p x y e h b j =
      let k : normal X (p ++ x ∷ []) ≡ p ++ x ∷ [] = subst (λ z. normal X z ≡ z) e h in
      sym (normal-joined X L p x y k b j) ∙ ap (λ z. normal X (z ++ y ∷ [])) (sym e)

  pub pop_apart : (s p : List (Section T)) (x y : Section T) → s ≡ p ++ x ∷ [] → normal X s ≡ s → is_blank X y ≡ false → joins (kind X x) (kind X y) ≡ false →
      p ++ x ∷ [] ++ y ∷ [] ≡ normal X (s ++ y ∷ [])
  pop_apart s p x y e h b j =
      let k : normal X (p ++ x ∷ []) ≡ p ++ x ∷ [] = subst (λ z. normal X z ≡ z) e h in
      sym (normal-apart X L p x y k b j) ∙ ap (λ z. normal X (z ++ y ∷ [])) (sym e)

  old_last : (p : List (Section T)) (x : Section T) → old_of x ≤ old_size (p ++ x ∷ [])
  old_last [] x = omega arith
  old_last (y ∷ p) x = omega (arith, old_last p x)

  pub old_of-popped : (s p : List (Section T)) (x : Section T) → s ≡ p ++ x ∷ [] → old_of x ≤ old_size s
  old_of-popped s p x e = rw e (old_last p x)
