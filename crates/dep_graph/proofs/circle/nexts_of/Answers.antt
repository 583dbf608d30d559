use Rattle.std.proofs.Common.{◌≡◌, ◌<◌, ◌+◌, ◌∷◌, ℕ, List, Option, None, drop, length, get_or, refl, subst, drop-cons, add-one, length-set}
use Rattle.dep_graph.specs.declared.edge.Edge.{Edge}
use Rattle.dep_graph.specs.Visiting.{better, least_waiting}
use Rattle.dep_graph.proofs.Nexts.{passed, noted, next-least}
use Rattle.dep_graph.proofs.circle.nexts_of.Goals as goal
use Rattle.dep_graph.proofs.circle.nexts_of.Goals.{then-counts-edge-ne0, else-counts-edge-ne0}

next-edge : (es : List Edge) (i : ℕ) (d : Edge) → i < length es → drop i es ≡ get_or es i d ∷ drop (i + 1) es
next-edge es i d lt = rw (add-one, drop-cons es i d) refl

-- one more edge was looked at
record IsLooked (count : ℕ) (counts : List ℕ) (nexts nexts' : List (Option ℕ)) (e : Edge) : Type 0 where
  as_many : length nexts' ≡ count
  least : (v : ℕ) → get_or nexts' v None ≡ better counts v (get_or nexts v None) e

pub loop-edge-preserved : goal.loop-edge-preserved
loop-edge-preserved c =
    let es : List Edge = c.args.edges.now in
    let counts : List ℕ = c.args.counts.now in
    let e : Edge = get_or es c.loop-edge.edge-index (record { vertex = 0; dependency = 0 }) in
    let inside : c.loop-edge.edge-index < length es = c.loop-edge-test.true in
    let old : List (Option ℕ) = c.loop-edge.nexts.items in
    let within : e.vertex < length old = rw c.loop-edge.invariant.as_many (c.requires.edges c.loop-edge.edge-index (record { vertex = 0; dependency = 0 }) inside).vertex in
    let looked : IsLooked c.args.count counts old c.if-counts-edge-ne0.nexts.items e = elim c.if-counts-edge-ne0.branch [
      | then-counts-edge-ne0 w ↦
          rw (w.nexts-is, w.note.ensures)
          (record { as_many = rw length-set c.loop-edge.invariant.as_many; least = λ v. noted counts old e v within w.if-counts-edge-ne0.true })
      | else-counts-edge-ne0 w ↦
          rw w.nexts-is
          (record { as_many = c.loop-edge.invariant.as_many; least = λ v. passed counts old e v w.if-counts-edge-ne0.false })
    ] in
    record {
      as_many = looked.as_many;
      least = λ v lt. next-least counts old c.if-counts-edge-ne0.nexts.items e (drop (c.loop-edge.edge-index + 1) es) v (least_waiting counts v None es) (looked.least v)
          (subst (λ (xs : List Edge). least_waiting counts v (get_or old v None) xs ≡ least_waiting counts v None es) (next-edge es c.loop-edge.edge-index (record { vertex = 0; dependency = 0 }) inside) (c.loop-edge.invariant.least v lt));
    }
