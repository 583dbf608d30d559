use Rattle.std.proofs.Common.{◌≡◌, ◌<◌, ◌+◌, ◌++◌, ◌∷◌, ℕ, List, drop, length, get_or, slice_get, Some, refl, sym, subst, drop-cons, add-one, length-set}
use Rattle.std.proofs.lemmas.Option.{slice_get_read}
use Rattle.dep_graph.specs.declared.edge.Edge.{Edge}
use Rattle.dep_graph.specs.declared.dependents.Dependents.{Dependents}
use Rattle.dep_graph.specs.Counting.{dependents_of, vertices_in}
use Rattle.dep_graph.proofs.Listing.{listed-one}
use Rattle.dep_graph.proofs.dependents.listed.Goals as goal

next-edge : (es : List Edge) (i : ℕ) (d : Edge) → i < length es → drop i es ≡ get_or es i d ∷ drop (i + 1) es
next-edge es i d lt = rw (add-one, drop-cons es i d) refl

pub loop-edge-preserved : goal.loop-edge-preserved
loop-edge-preserved c =
    let es : List Edge = c.args.edges.now in
    let none : Edge = record { vertex = 0; dependency = 0 } in
    let e : Edge = get_or es c.loop-edge.edge-index none in
    let inside : c.loop-edge.edge-index < length es = c.loop-edge-test.true in
    let old : Dependents = c.index_mut.result.now in
    let new : Dependents = record { vertices = c.push-in-loop-edge.new.self } in
    let within : e.dependency < c.args.count = (c.requires c.loop-edge.edge-index none inside).dependency in
    let at : slice_get c.loop-edge.all.items e.dependency ≡ Some old = slice_get_read c.loop-edge.all.items c.args.count e.dependency old (sym c.loop-edge.invariant.as_many) within c.index_mut.ensures.value in
    record {
      as_many = rw length-set c.loop-edge.invariant.as_many;
      listed = λ d lt. listed-one c.loop-edge.all.items old new e (drop (c.loop-edge.edge-index + 1) es) (dependents_of d es) d at c.in_ok-push-2.ensures.items
          (subst (λ (xs : List Edge). vertices_in (slice_get c.loop-edge.all.items d) ++ dependents_of d xs ≡ dependents_of d es) (next-edge es c.loop-edge.edge-index none inside) (c.loop-edge.invariant.listed d lt));
    }
