-- Runs of ranges side by side.
use Rattle.std.proofs.Common.{◌≡◌, Bool, true, false, IsTrue, ℕ, zero, suc, ◌≤◌, List, [], ◌∷◌, ◌++◌, length, take, drop, map, ◌↔◌, refl, sym, ap, ◌∙◌, append_assoc, arith}
use Rattle.std.proofs.lemmas.List.{append_cancel_left}
use Rattle.range_set.specs.PrivateChunks.{Fit, TakesSame, grow, shift}
use Rattle.range_set.specs.declared.ranged.Ranged.{Ranged}

module _ {T : Type 0} where
  pub fit_take : (start by n : ℕ) (rs : List (Ranged T)) → Fit (map (shift start) (map (grow by) rs)) → Fit (map (shift start) (map (grow by) (take n rs)))
  fit_take start by zero rs h = tt
  fit_take start by (suc n) [] h = tt
  fit_take start by (suc n) (r ∷ rs) h = (h.0, fit_take start by n rs h.1)

  pub fit_drop : (start by n : ℕ) (rs : List (Ranged T)) → Fit (map (shift start) (map (grow by) rs)) → Fit (map (shift start) (map (grow by) (drop n rs)))
  fit_drop start by zero rs h = h
  fit_drop start by (suc n) [] h = tt
  fit_drop start by (suc n) (r ∷ rs) h = fit_drop start by n rs h.1

  -- equal lists begin with equal ranges
  pub same_prefix : (l a r b n : ℕ) (us vs xs ys : List (Ranged T)) → n ≤ length us → n ≤ length vs
      → map (shift l) (map (grow a) us) ++ xs ≡ map (shift r) (map (grow b) vs) ++ ys
      → map (shift l) (map (grow a) (take n us)) ≡ map (shift r) (map (grow b) (take n vs))
  same_prefix l a r b zero us vs xs ys i j e = refl
  same_prefix l a r b (suc n) [] vs xs ys i j e = absurd (omega arith)
  same_prefix l a r b (suc n) (u ∷ us) [] xs ys i j e = absurd (omega arith)
  same_prefix l a r b (suc n) (u ∷ us) (v ∷ vs) xs ys i j e =
      let first : shift l (grow a u) ≡ shift r (grow b v) = cc in
      let rest : map (shift l) (map (grow a) us) ++ xs ≡ map (shift r) (map (grow b) vs) ++ ys = cc in
      ap (λ z. z ∷ map (shift l) (map (grow a) (take n us))) first
      ∙ ap (λ zs. shift r (grow b v) ∷ zs) (same_prefix l a r b n us vs xs ys (omega arith) (omega arith) rest)

  -- what follows equal ranges is equal where the whole lists are
  pub same_after : (us vs us' vs' xs ys : List (Ranged T)) (P : Type 0) → TakesSame us vs us' vs' → (us ++ xs ≡ vs ++ ys) ↔ P → (us' ++ xs ≡ vs' ++ ys) ↔ P
  same_after us vs us' vs' xs ys P h e =
      let left : us ++ xs ≡ h.taken ++ (us' ++ xs) = ap (λ zs. zs ++ xs) h.left ∙ append_assoc h.taken us' xs in
      let right : vs ++ ys ≡ h.taken ++ (vs' ++ ys) = ap (λ zs. zs ++ ys) h.right ∙ append_assoc h.taken vs' ys in (
        (λ q. e.0 (left ∙ (ap (λ zs. h.taken ++ zs) q ∙ sym right))),
        (λ p. append_cancel_left h.taken (us' ++ xs) (vs' ++ ys) (sym left ∙ (e.1 p ∙ right))),
      )

  -- where none are left of the first, both are equal if none are left of the other
  pub none_of_first : (us vs xs ys : List (Ranged T)) (P : Type 0) → us ≡ [] → (us ≡ [] → xs ≡ []) → (vs ≡ [] → ys ≡ []) → (us ++ xs ≡ vs ++ ys) ↔ P → (vs ≡ []) ↔ P
  none_of_first us vs xs ys P u x y e =
      let none : us ++ xs ≡ [] = ap (λ zs. zs ++ xs) u ∙ x u in (
        (λ v. e.0 (none ∙ sym (ap (λ zs. zs ++ ys) v ∙ y v))),
        (λ p. front vs (sym (e.1 p) ∙ none)),
      )
    where
      front : (zs : List (Ranged T)) → zs ++ ys ≡ [] → zs ≡ []
      front [] h = refl
      front (z ∷ zs) h = cc

  -- where none are left of the second alone, they differ
  pub none_of_second : (us vs xs ys : List (Ranged T)) (P : Type 0) (none : Bool) → (us ≡ [] → IsTrue none) → none ≡ false → vs ≡ [] → (vs ≡ [] → ys ≡ [])
      → (us ++ xs ≡ vs ++ ys) ↔ P → IsTrue false ↔ P
  none_of_second us vs xs ys P none u n v y e = ((λ h. cc), (λ p. absurd (some us u (e.1 p ∙ (ap (λ zs. zs ++ ys) v ∙ y v)))))
    where
      some : (zs : List (Ranged T)) → (zs ≡ [] → IsTrue none) → zs ++ xs ≡ [] → ⊥
      some [] w h = let t : none ≡ true = w refl in cc
      some (z ∷ zs) w h = cc
