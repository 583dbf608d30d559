use Rattle.std.proofs.Common.{◌≡◌, ◌<◌, ℕ, List, [], get_or, Option, None, Some, All, subst, ⊎_elim}
use Rattle.std.proofs.lemmas.Bool.{cases_eq}
use Rattle.dep_graph.specs.declared.edge.Edge.{Edge}
use Rattle.dep_graph.specs.Order.{IsEdge, edge, DependsOn, IsNext}
use Rattle.dep_graph.specs.Counting.{IsProgress}
use Rattle.dep_graph.specs.Visiting.{least_waiting}
use Rattle.dep_graph.proofs.Members.{all-recursion}
use Rattle.dep_graph.proofs.Least.{IsUpTo, fold-least, fold-from}
use Rattle.dep_graph.proofs.Stuck.{settled, is-next, edge-within}

-- the next of a vertex that waits
pub record Found (count : ℕ) (es : List Edge) (counts : List ℕ) (v d : ℕ) : Type 0 where
  pub within : d < count
  pub waits : get_or counts d 0 ≡ 0 → ⊥
  pub next : IsNext es v d

none≢some : {d : ℕ} → None ≡ Some d → ⊥
none≢some e = cc

module _ (count : ℕ) (es : List Edge) (counts order : List ℕ) (edges : All (IsEdge count) es) (p : IsProgress count es order [] counts order) (v : ℕ) (within : v < count) (waits : get_or counts v 0 ≡ 0 → ⊥) where
  pub is-found : least_waiting counts v None es ≡ None → ⊥
  is-found e =
      waits (settled count es (all-recursion (IsEdge count) (edge 0 0) es edges) counts order p v within
      (λ d i. ⊎_elim (λ z. z) (λ ne. absurd (subst (λ (o : Option ℕ). IsUpTo o d) e (fold-least counts v es None d i ne))) (cases_eq (get_or counts d 0) 0)))

  pub found : (d : ℕ) → least_waiting counts v None es ≡ Some d → Found count es counts v d
  found d e =
      let here : DependsOn es v d × (get_or counts d 0 ≡ 0 → ⊥) = ⊎_elim (λ n. absurd (none≢some n)) (λ h. h) (fold-from counts v es None d e) in
      record {
        within = (edge-within count v d es (all-recursion (IsEdge count) (edge 0 0) es edges) here.0).dependency;
        waits = here.1;
        next = is-next count es (all-recursion (IsEdge count) (edge 0 0) es edges) counts order p v d here.0 here.1
            (λ u i ne. subst (λ (o : Option ℕ). IsUpTo o u) e (fold-least counts v es None u i ne));
      }
