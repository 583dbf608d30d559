use Rattle.std.proofs.Common.{◌≡◌, ◌≤◌, ◌∙◌, ◌⊎◌, ℕ, List, [], ◌∷◌, Bool, true, false, cond, not, ◌&&◌, eqb, get_or, min, Option, None, Some, MatchOption, refl, sym, ap, subst, ⊎_elim, inl, inr, arith}
use Rattle.std.proofs.lemmas.Bool.{cases_lt, eqb-true, eqb-false, ne_eqb, eq-eqb}
use Rattle.dep_graph.specs.declared.edge.Edge.{Edge}
use Rattle.dep_graph.specs.Order.{edge, DependsOn}
use Rattle.id_lists.specs.Least.{lesser}
use Rattle.dep_graph.specs.Visiting.{better, least_waiting}

-- a number found is no greater
abbrev pub IsUpTo : Option ℕ → ℕ → Type 0
IsUpTo o u = MatchOption o ⊥ (λ d. d ≤ u)

lesser-keeps : (o : Option ℕ) (d u : ℕ) → IsUpTo o u → IsUpTo (lesser o d) u
lesser-keeps None d u h = absurd h
lesser-keeps (Some m) d u h = omega (arith, h)

lesser-here : (o : Option ℕ) (d : ℕ) → IsUpTo (lesser o d) d
lesser-here None d = omega arith
lesser-here (Some m) d = omega arith

some_injective : {x y : ℕ} → Some x ≡ Some y → x ≡ y
some_injective e = cc

lesser-from : (o : Option ℕ) (d n : ℕ) → lesser o d ≡ Some n → (o ≡ Some n) ⊎ (n ≡ d)
lesser-from None d n e = inr (sym (some_injective e))
lesser-from (Some m) d n e =
    let s : min m d ≡ n = some_injective e in
    ⊎_elim (λ lt. let k : m ≡ n = omega (arith, s, lt) in inl (ap (λ (x : ℕ). Some x) k)) (λ ge. inr (omega (arith, s, ge))) (cases_lt m d)

module _ (counts : List ℕ) (v : ℕ) where
  better-keeps : (o : Option ℕ) (e : Edge) (u : ℕ) → IsUpTo o u → IsUpTo (better counts v o e) u
  better-keeps o e u h = by (eqb e.vertex v && not (eqb (get_or counts e.dependency 0) 0))
    where
      by : (b : Bool) → IsUpTo (cond b (lesser o e.dependency) o) u
      by true = lesser-keeps o e.dependency u h
      by false = h

  fold-keeps : (es : List Edge) (o : Option ℕ) (u : ℕ) → IsUpTo o u → IsUpTo (least_waiting counts v o es) u
  fold-keeps [] o u h = h
  fold-keeps (e ∷ es) o u h = fold-keeps es (better counts v o e) u (better-keeps o e u h)

  -- no dependency that waits is less
  pub fold-least : (es : List Edge) (o : Option ℕ) (u : ℕ) → DependsOn es v u → (get_or counts u 0 ≡ 0 → ⊥) → IsUpTo (least_waiting counts v o es) u
  fold-least [] o u i ne = absurd i
  fold-least (e ∷ es) o u i ne =
      ⊎_elim
      (λ q. fold-keeps es (better counts v o e) u (subst (λ (x : Edge). IsUpTo (better counts v o x) u) q here))
      (λ j. fold-least es (better counts v o e) u j ne)
      i
    where
      here : IsUpTo (better counts v o (edge v u)) u
      here = let one : eqb v v ≡ true = eq-eqb v v refl in let w : eqb (get_or counts u 0) 0 ≡ false = ne_eqb (get_or counts u 0) 0 ne in rw (one, w) (lesser-here o u)

  better-from : (o : Option ℕ) (e : Edge) (n : ℕ) → better counts v o e ≡ Some n → (o ≡ Some n) ⊎ ((edge v n ≡ e) × (get_or counts n 0 ≡ 0 → ⊥))
  better-from o e n h = by (eqb e.vertex v) (eqb (get_or counts e.dependency 0) 0) refl refl h
    where
      by : (a b : Bool) → eqb e.vertex v ≡ a → eqb (get_or counts e.dependency 0) 0 ≡ b → cond (a && not b) (lesser o e.dependency) o ≡ Some n → (o ≡ Some n) ⊎ ((edge v n ≡ e) × (get_or counts n 0 ≡ 0 → ⊥))
      by true true p q h = inl h
      by false b p q h = inl h
      by true false p q h =
          ⊎_elim inl (λ (same : n ≡ e.dependency). let from : e.vertex ≡ v = eqb-true e.vertex v p in
          let ne = eqb-false (get_or counts e.dependency 0) 0 q in
          inr (ap (λ (x : ℕ). edge x n) (sym from) ∙ ap (λ (x : ℕ). edge e.vertex x) same, subst (λ (x : ℕ). get_or counts x 0 ≡ 0 → ⊥) (sym same) ne))
          (lesser-from o e.dependency n h)

  -- what is found is a dependency that waits
  pub fold-from : (es : List Edge) (o : Option ℕ) (n : ℕ) → least_waiting counts v o es ≡ Some n → (o ≡ Some n) ⊎ (DependsOn es v n × (get_or counts n 0 ≡ 0 → ⊥))
  fold-from [] o n h = inl h
  fold-from (e ∷ es) o n h =
      ⊎_elim
      (λ q. ⊎_elim inl (λ r. inr (inl r.0, r.1)) (better-from o e n q))
      (λ r. inr (inr r.0, r.1))
      (fold-from es (better counts v o e) n h)
