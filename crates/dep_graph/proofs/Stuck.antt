use Rattle.std.proofs.Common.{◌≡◌, ◌<◌, ◌≤◌, ◌++◌, ℕ, List, [], ◌∷◌, reverse, get_or, sym, subst, ⊎_elim, inl, inr, arith}
use Rattle.std.proofs.lemmas.Bool.{cases_lt}
use Rattle.std.specs.List.{AllByRecursion}
use Rattle.dep_graph.specs.declared.edge.Edge.{Edge}
use Rattle.id_lists.specs.Members.{In}
use Rattle.dep_graph.specs.Order.{IsEdge, edge, DependsOn, IsOrdered, IsOrder, IsStuck, IsFirstStuck, IsNext, IsChain, AreDistinct}
use Rattle.dep_graph.specs.Counting.{left, IsProgress, NoneWaits, IsFirstWaiting}
use Rattle.dep_graph.proofs.Members.{in-parts, in-reverse}
use Rattle.dep_graph.proofs.Told.{has-in, none-left}

pub edge-within : (count v d : ℕ) (es : List Edge) → AllByRecursion (IsEdge count) es → DependsOn es v d → IsEdge count (edge v d)
edge-within count v d [] h i = absurd i
edge-within count v d (e ∷ es) h i = ⊎_elim (λ q. subst (IsEdge count) (sym q) h.0) (λ j. edge-within count v d es h.1 j) i

module _ (count : ℕ) (es : List Edge) (edges : AllByRecursion (IsEdge count) es) (counts order : List ℕ) (p : IsProgress count es order [] counts order) where
  -- a vertex with all dependencies in the order waits no more
  pub settled : (v : ℕ) → v < count → ((d : ℕ) → DependsOn es v d → get_or counts d 0 ≡ 0) → get_or counts v 0 ≡ 0
  settled v lt all =
      let none : left order v es ≡ 0 = none-left order v es (λ d i. has-in order d (p.ready_in d (edge-within count v d es edges i).dependency (all d i))) in
      let k = p.counted v lt in omega (arith, k, none)

  orderable : (vs : List ℕ) → IsOrdered es vs → (v : ℕ) → In v vs → v < count → get_or counts v 0 ≡ 0
  orderable [] o v i lt = absurd i
  orderable (x ∷ vs) o v i lt =
      ⊎_elim
      (λ e. settled v lt (λ d j. orderable vs o.2 d (o.0 d (subst (λ (n : ℕ). DependsOn es n d) e j)) (edge-within count v d es edges j).dependency))
      (λ j. orderable vs o.2 v j lt)
      i

  -- what waits can't be ordered, and the other way round
  pub stuck : (v : ℕ) → v < count → (get_or counts v 0 ≡ 0 → ⊥) → IsStuck es v
  stuck v lt ne vs o i = ne (orderable vs o v i lt)

  pub unstuck : (v : ℕ) → v < count → get_or counts v 0 ≡ 0 → IsStuck es v → ⊥
  unstuck v lt z h = h (reverse order) p.ordered (in-reverse order v (p.ready_in v lt z))

  pub first-stuck : (v : ℕ) → IsFirstWaiting counts v → IsFirstStuck count es v
  first-stuck v f = record {
    within = omega (arith, f.within, p.as_many);
    is_stuck = stuck v (omega (arith, f.within, p.as_many)) f.waiting;
    least = λ u h lt. ⊎_elim (λ less. absurd (unstuck u lt (f.first u less) h)) (λ le. le) (cases_lt u v);
  }

  pub all-ordered : NoneWaits counts → IsOrder count es order
  all-ordered none = record {
    ordered = p.ordered;
    within = λ v i. (p.in_ready v i).0;
    complete = λ v lt. p.ready_in v lt (none v (omega (arith, lt, p.as_many)));
  }

  -- the least that waits is the next
  pub is-next : (v d : ℕ) → DependsOn es v d → (get_or counts d 0 ≡ 0 → ⊥) → ((u : ℕ) → DependsOn es v u → (get_or counts u 0 ≡ 0 → ⊥) → d ≤ u) → IsNext es v d
  is-next v d i ne least = record {
    depends = i;
    is_stuck = stuck d (edge-within count v d es edges i).dependency ne;
    least = λ u h j. least u j (λ z. unstuck u (edge-within count v u es edges j).dependency z h);
  }

-- a chain goes one further
pub chain-more : (es : List Edge) (vs : List ℕ) (v w : ℕ) → IsChain es vs v → IsNext es v w → IsChain es (vs ++ v ∷ []) w
chain-more es [] v w c n = n
chain-more es (x ∷ []) v w c n = (c, n)
chain-more es (x ∷ y ∷ vs) v w c n = (c.0, chain-more es (y ∷ vs) v w c.1 n)

pub distinct-more : (vs : List ℕ) (v : ℕ) → AreDistinct vs → (In v vs → ⊥) → AreDistinct (vs ++ v ∷ [])
distinct-more [] v d out = ((λ i. i), tt)
distinct-more (x ∷ vs) v d out =
    ((λ i. ⊎_elim d.0 (λ j. ⊎_elim (λ e. out (inl (sym e))) (λ none. none) j) (in-parts vs (v ∷ []) x i)), distinct-more vs v d.1 (λ i. out (inr i)))
