use Rattle.std.proofs.Common.{◌≡◌, ◌∙◌, ◌+◌, ◌++◌, ℕ, List, [], drop, get_or, sym, subst, ap, arith}
use Rattle.std.proofs.lemmas.List.{append-nil}
use Rattle.configuration.specs.Present.{inputs_of}
use Rattle.configuration.proofs.Placing.{placed-length, placed-one, lists-are, end-at}
use Rattle.configuration.proofs.Pairing.{next-at}
use Rattle.configuration.proofs.present.inputs_by_facet.Goals as goal

pub loop-node-preserved : goal.loop-node-preserved
loop-node-preserved c =
    let order : List ℕ = c.args.order.now in
    let i : ℕ = c.loop-node.node-index in
    let n : ℕ = get_or order i 0 in
    let old : List (List ℕ) = c.loop-node.inputs.items in
    record {
      as_many = rw c.in_ok-place.ensures (placed-length old c.facet_of.result n ∙ c.loop-node.invariant.as_many);
      placed = λ f lt. rw c.in_ok-place.ensures
          (placed-one c.args.nodes.now n f (drop (i + 1) order) old c.facet_of.result (sym c.facet_of.ensures) (rw c.loop-node.invariant.as_many lt)
          ∙ subst (λ (ns : List ℕ). get_or old f [] ++ inputs_of c.args.nodes.now f ns ≡ inputs_of c.args.nodes.now f order) (next-at order i 0 c.loop-node-test.true) (c.loop-node.invariant.placed f lt));
    }

pub returns : goal.returns
returns c =
    let order : List ℕ = c.args.order.now in
    let inputs : List (List ℕ) = c.loop-node.inputs.items in
    lists-are (λ (f : ℕ). inputs_of c.args.nodes.now f order) [] c.args.facets 0 inputs c.loop-node.invariant.as_many
    (λ f lt. let same : f ≡ 0 + f = omega arith in
    sym (append-nil (get_or inputs f []))
    ∙ subst (λ (ns : List ℕ). get_or inputs f [] ++ inputs_of c.args.nodes.now f ns ≡ inputs_of c.args.nodes.now f order) (end-at order c.loop-node.node-index c.loop-node-test.false) (c.loop-node.invariant.placed f lt)
    ∙ ap (λ (k : ℕ). inputs_of c.args.nodes.now k order) same)
