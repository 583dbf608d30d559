-- A section put after a list of sections in normal form, the last of which was taken off.
use Rattle.std.proofs.Common.{◌≡◌, ◌≤◌, true, false, List, [], ◌∷◌, ◌++◌, sym, ap, subst, ◌∙◌, arith}
use Rattle.change_desc.specs.declared.section.Section.{Section}
use Rattle.change_desc.specs.Sections.{Texts, is_blank, kind, joins, joined, normal, old_of, old_size, new_of, new_size}
use Rattle.change_desc.proofs.Normal.{Laws, normal-apart, normal-joined}

module _ {T C : Type 0} (X : Texts T C) (L : Laws X) where
  pub pop_joined : (s p : List (Section T)) (x y : Section T) → s ≡ p ++ x ∷ [] → normal X s ≡ s → is_blank X y ≡ false → joins (kind X x) (kind X y) ≡ true →
      p ++ joined X x y ∷ [] ≡ normal X (s ++ y ∷ [])
  pop_joined s p x y e h b j =
      let k : normal X (p ++ x ∷ []) ≡ p ++ x ∷ [] = subst (λ z. normal X z ≡ z) e h in
      sym (normal-joined X L p x y k b j) ∙ ap (λ z. normal X (z ++ y ∷ [])) (sym e)

  pub pop_apart : (s p : List (Section T)) (x y : Section T) → s ≡ p ++ x ∷ [] → normal X s ≡ s → is_blank X y ≡ false → joins (kind X x) (kind X y) ≡ false →
      p ++ x ∷ [] ++ y ∷ [] ≡ normal X (s ++ y ∷ [])
  pop_apart s p x y e h b j =
      let k : normal X (p ++ x ∷ []) ≡ p ++ x ∷ [] = subst (λ z. normal X z ≡ z) e h in
      sym (normal-apart X L p x y k b j) ∙ ap (λ z. normal X (z ++ y ∷ [])) (sym e)

  old_last : (p : List (Section T)) (x : Section T) → old_of x ≤ old_size (p ++ x ∷ [])
  old_last [] x = omega arith
  old_last (y ∷ p) x = omega (arith, old_last p x)

  pub old_of-popped : (s p : List (Section T)) (x : Section T) → s ≡ p ++ x ∷ [] → old_of x ≤ old_size s
  old_of-popped s p x e = subst (λ z. old_of x ≤ old_size z) (sym e) (old_last p x)

  new_last : (p : List (Section T)) (x : Section T) → new_of X x ≤ new_size X (p ++ x ∷ [])
  new_last [] x = omega arith
  new_last (y ∷ p) x = omega (arith, new_last p x)

  pub new_of-popped : (s p : List (Section T)) (x : Section T) → s ≡ p ++ x ∷ [] → new_of X x ≤ new_size X s
  new_of-popped s p x e = subst (λ z. new_of X x ≤ new_size X z) (sym e) (new_last p x)
