use Rattle.std.proofs.Common.{◌≡◌, ◌++◌, ◌≢◌, ℕ, zero, suc, List, [], ◌∷◌, true, false, eqb, set, slice_get, Option, Some, None, refl, sym, ap, subst, ⊎_elim, append_assoc}
use Rattle.std.proofs.lemmas.Bool.{cases_eq, ne_eqb, eq-eqb}
use Rattle.dep_graph.specs.declared.edge.Edge.{Edge}
use Rattle.dep_graph.specs.declared.dependents.Dependents.{Dependents}
use Rattle.dep_graph.specs.Counting.{dependents_of, vertices_in}

slice_get-set_same : {X : Type 0} (xs : List X) (i : ℕ) (y x : X) → slice_get xs i ≡ Some x → slice_get (set xs i y) i ≡ Some y
slice_get-set_same [] i y x at = absurd (none≢some x at)
  where
    none≢some : {X : Type 0} (x : X) → None ≡ Some x → ⊥
    none≢some x e = cc
slice_get-set_same (x' ∷ xs) zero y x at = refl
slice_get-set_same (x' ∷ xs) (suc i) y x at = slice_get-set_same xs i y x at

slice_get-set_other : {X : Type 0} (xs : List X) (i j : ℕ) (y : X) → j ≢ i → slice_get (set xs i y) j ≡ slice_get xs j
slice_get-set_other [] i j y ne = refl
slice_get-set_other (x ∷ xs) zero zero y ne = absurd (ne refl)
slice_get-set_other (x ∷ xs) zero (suc j) y ne = refl
slice_get-set_other (x ∷ xs) (suc i) zero y ne = refl
slice_get-set_other (x ∷ xs) (suc i) (suc j) y ne = slice_get-set_other xs i j y (λ e. ne (ap (λ (n : ℕ). suc n) e))

-- an edge is listed
pub listed-one : (all : List Dependents) (old new : Dependents) (e : Edge) (rest : List Edge) (whole : List ℕ) (d : ℕ) → slice_get all e.dependency ≡ Some old
    → new.vertices.items ≡ old.vertices.items ++ e.vertex ∷ [] → vertices_in (slice_get all d) ++ dependents_of d (e ∷ rest) ≡ whole
    → vertices_in (slice_get (set all e.dependency new) d) ++ dependents_of d rest ≡ whole
listed-one all old new e rest whole d at more before =
    ⊎_elim
    (λ same. let one : eqb e.dependency d ≡ true = eq-eqb e.dependency d (sym same) in
    let at' : slice_get all d ≡ Some old = subst (λ (n : ℕ). slice_get all n ≡ Some old) (sym same) at in
    let put : slice_get (set all e.dependency new) d ≡ Some new = subst (λ (n : ℕ). slice_get (set all e.dependency new) n ≡ Some new) (sym same) (slice_get-set_same all e.dependency new old at) in
    rw (put, more, append_assoc) (here one at'))
    (λ ne. let none : eqb e.dependency d ≡ false = ne_eqb e.dependency d (λ q. ne (sym q)) in
    rw (slice_get-set_other all e.dependency d new ne) (there none))
    (cases_eq d e.dependency)
  where
    here : eqb e.dependency d ≡ true → slice_get all d ≡ Some old → old.vertices.items ++ (e.vertex ∷ dependents_of d rest) ≡ whole
    here one at' =
        let h : dependents_of d (e ∷ rest) ≡ e.vertex ∷ dependents_of d rest = rw one refl in
        subst (λ (xs : List ℕ). old.vertices.items ++ xs ≡ whole) h (subst (λ (o : Option Dependents). vertices_in o ++ dependents_of d (e ∷ rest) ≡ whole) at' before)

    there : eqb e.dependency d ≡ false → vertices_in (slice_get all d) ++ dependents_of d rest ≡ whole
    there none =
        let h : dependents_of d (e ∷ rest) ≡ dependents_of d rest = rw none refl in
        subst (λ (xs : List ℕ). vertices_in (slice_get all d) ++ xs ≡ whole) h before
