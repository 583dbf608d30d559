use Rattle.std.proofs.Common.{◌≡◌, ◌<◌, ◌≢◌, ◌∙◌, ℕ, List, ◌∷◌, Bool, true, false, cond, ◌&&◌, eqb, length, set, get_or, Option, None, refl, sym, ap, ⊎_elim, get_or-set_other, get_or-set_same}
use Rattle.std.proofs.lemmas.Bool.{cases_eq, ne_eqb, eq-eqb}
use Rattle.dep_graph.specs.declared.edge.Edge.{Edge}
use Rattle.id_lists.specs.Least.{lesser}
use Rattle.dep_graph.specs.Visiting.{better, least_waiting}

module _ (counts : List ℕ) (nexts : List (Option ℕ)) (e : Edge) where
  -- a dependency that doesn't wait is passed over
  pub passed : (v : ℕ) → get_or counts e.dependency 0 ≡ 0 → get_or nexts v None ≡ better counts v (get_or nexts v None) e
  passed v z = let q : eqb (get_or counts e.dependency 0) 0 ≡ true = eq-eqb (get_or counts e.dependency 0) 0 z in rw q (off (eqb e.vertex v))
    where
      off : (b : Bool) → get_or nexts v None ≡ cond (b && false) (lesser (get_or nexts v None) e.dependency) (get_or nexts v None)
      off true = refl
      off false = refl

  -- one that waits is noted
  pub noted : (v : ℕ) → e.vertex < length nexts → (get_or counts e.dependency 0 ≡ 0 → ⊥) → get_or (set nexts e.vertex (lesser (get_or nexts e.vertex None) e.dependency)) v None ≡ better counts v (get_or nexts v None) e
  noted v inside ne =
      let q : eqb (get_or counts e.dependency 0) 0 ≡ false = ne_eqb (get_or counts e.dependency 0) 0 ne in
      ⊎_elim
      (λ (same : v ≡ e.vertex). let one : eqb e.vertex e.vertex ≡ true = eq-eqb e.vertex e.vertex refl in
      rw (same, one, q) (get_or-set_same nexts e.vertex (lesser (get_or nexts e.vertex None) e.dependency) None inside))
      (λ (other : v ≢ e.vertex). let none : eqb e.vertex v ≡ false = ne_eqb e.vertex v (λ d. other (sym d)) in
      rw none (get_or-set_other nexts e.vertex v (lesser (get_or nexts e.vertex None) e.dependency) None other))
      (cases_eq v e.vertex)

-- the least so far and the rest give the least of all
pub next-least : (counts : List ℕ) (nexts nexts' : List (Option ℕ)) (e : Edge) (rest : List Edge) (v : ℕ) (whole : Option ℕ) → get_or nexts' v None ≡ better counts v (get_or nexts v None) e
    → least_waiting counts v (get_or nexts v None) (e ∷ rest) ≡ whole → least_waiting counts v (get_or nexts' v None) rest ≡ whole
next-least counts nexts nexts' e rest v whole is before = ap (λ (o : Option ℕ). least_waiting counts v o rest) is ∙ before
