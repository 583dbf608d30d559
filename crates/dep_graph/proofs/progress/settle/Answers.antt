use Rattle.std.proofs.Common.{◌≡◌, ◌<◌, ◌≤◌, ◌+◌, ◌++◌, ◌∷◌, ℕ, zero, suc, List, [], drop, take, length, get_or, refl, sym, subst, ⊎_elim, inl, inr, arith, drop-cons, add-one, length-append, eqb}
use Rattle.std.proofs.lemmas.Bool.{cases_Bool}
use Rattle.std.proofs.lemmas.List.{take-append-drop, take-append-le, take_more}
use Rattle.dep_graph.specs.declared.edge.Edge.{Edge}
use Rattle.id_lists.specs.Members.{In}
use Rattle.dep_graph.specs.Order.{IsEdge}
use Rattle.dep_graph.specs.Counting.{IsProgress, IsTold}
use Rattle.dep_graph.proofs.Members.{all-recursion}
use Rattle.dep_graph.proofs.Told.{told-one, tells}
use Rattle.dep_graph.proofs.progress.settle.Goals as goal

in-get : (xs : List ℕ) (i d : ℕ) → i < length xs → In (get_or xs i d) xs
in-get [] i d lt = absurd (omega arith)
in-get (x ∷ xs) zero d lt = inl refl
in-get (x ∷ xs) (suc i) d lt = inr (in-get xs i d (omega (arith, lt)))

parts : (xs : List ℕ) (i d : ℕ) → i < length xs → xs ≡ take i xs ++ get_or xs i d ∷ drop (i + 1) xs
parts xs i d lt = sym (rw (add-one, sym (drop-cons xs i d lt)) (take-append-drop i xs))

take-told : (v n : ℕ) (counts order counts' order' : List ℕ) → n ≤ length order → IsTold v counts order counts' order' → take n order' ≡ take n order
take-told v n counts order counts' order' le told = rw told.order_is (⊎_elim (λ e. rw e (take-append-le n order (v ∷ []) le)) (λ e. rw e refl) (cases_Bool (eqb (get_or counts v 0) 1)))

longer : (v : ℕ) (counts order counts' order' : List ℕ) → IsTold v counts order counts' order' → length order ≤ length order'
longer v counts order counts' order' told = rw told.order_is (⊎_elim (λ e. rw e (rw length-append (omega arith))) (λ e. rw e (omega arith)) (cases_Bool (eqb (get_or counts v 0) 1)))

-- the next dependent is told
module _ (count : ℕ) (es : List Edge) (head i d : ℕ) (ds counts order counts' order' : List ℕ) (inside : head < length order) (within : i < length ds)
    (p : IsProgress count es (take (head + 1) order) (drop i ds) counts order) (told : IsTold (get_or ds i d) counts order counts' order') where
  told-next : (head < length order') × IsProgress count es (take (head + 1) order') (drop (i + 1) ds) counts' order'
  told-next =
      let next : drop i ds ≡ get_or ds i d ∷ drop (i + 1) ds = rw (add-one, drop-cons ds i d within) refl in
      let q = subst (λ (ns : List ℕ). IsProgress count es (take (head + 1) order) ns counts order) next p in
      let same = take-told (get_or ds i d) (head + 1) counts order counts' order' (omega (arith, inside)) told in
      let more = longer (get_or ds i d) counts order counts' order' told in
      (omega (arith, inside, more), rw same (told-one count es (take (head + 1) order) (get_or ds i d) (drop (i + 1) ds) counts order counts' order' q told))

pub dependents_of-dependents-requires-clause-vertex : goal.dependents_of-dependents-requires-clause-vertex
dependents_of-dependents-requires-clause-vertex c =
    (c.requires.progress.in_ready c.index-vertex.result.now (rw c.index-vertex.ensures (in-get c.args.order.now.items c.args.head c.index-vertex.result.now c.requires.head))).0

pub loop-dependent-init : goal.loop-dependent-init
loop-dependent-init c =
    let order : List ℕ = c.args.order.now.items in
    let v : ℕ = c.index-vertex.result.now in
    let is : order ≡ take c.args.head order ++ v ∷ drop (c.args.head + 1) order =
    subst (λ (n : ℕ). order ≡ take c.args.head order ++ n ∷ drop (c.args.head + 1) order) (sym c.index-vertex.ensures) (parts order c.args.head v c.requires.head) in
    let more : take (c.args.head + 1) order ≡ take c.args.head order ++ v ∷ [] =
    subst (λ (n : ℕ). take (c.args.head + 1) order ≡ take c.args.head order ++ n ∷ []) (sym c.index-vertex.ensures) (take_more order c.args.head v c.requires.head) in
    let none : Edge = record { vertex = 0; dependency = 0 } in
    let told = tells c.args.graph.now.count c.args.graph.now.edges.items (take c.args.head order) c.args.counts.now.items order v (drop (c.args.head + 1) order)
    (all-recursion (IsEdge c.args.graph.now.count) none c.args.graph.now.edges.items c.requires.graph.edges) is c.requires.progress in
    record { head = c.requires.head; progress = rw (more, c.dependents_of-dependents.ensures) told }

pub loop-dependent-preserved : goal.loop-dependent-preserved
loop-dependent-preserved c =
    let r = told-next c.args.graph.now.count c.args.graph.now.edges.items c.args.head c.loop-dependent.dependent-index 0 c.dependents_of-dependents.result.now
    c.loop-dependent.counts.items c.loop-dependent.order.items c.tell.new.counts.items c.tell.new.order.items c.loop-dependent.invariant.head c.loop-dependent-test.true
    c.loop-dependent.invariant.progress c.in_ok-tell.ensures in
    record { head = r.0; progress = r.1 }
