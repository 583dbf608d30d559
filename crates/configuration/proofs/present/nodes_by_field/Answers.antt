use Rattle.std.proofs.Common.{◌≡◌, ◌∙◌, ◌+◌, ℕ, List, Option, None, drop, get_or, Some, refl, sym, subst, ap, arith}
use Rattle.std.specs.Option.{option_or}
use Rattle.configuration.specs.Present.{node_of_field}
use Rattle.configuration.proofs.Placing.{noted-length, noted-one, lists-are, end-at}
use Rattle.configuration.proofs.Pairing.{next-at}
use Rattle.configuration.proofs.present.nodes_by_field.Goals as goal

or-none : (o : Option ℕ) → option_or o None ≡ o
or-none None = refl
or-none (Some n) = refl

pub loop-node-preserved : goal.loop-node-preserved
loop-node-preserved c =
    let order : List ℕ = c.args.order.now in
    let i : ℕ = c.loop-node.node-index in
    let n : ℕ = get_or order i 0 in
    let old : List (Option ℕ) = c.loop-node.found.items in
    record {
      as_many = rw c.note.ensures (noted-length old c.field_of.result n ∙ c.loop-node.invariant.as_many);
      noted = λ f lt. rw c.note.ensures
          (noted-one c.args.nodes.now n f (drop (i + 1) order) old c.field_of.result (sym c.field_of.ensures) (rw c.loop-node.invariant.as_many lt)
          ∙ subst (λ (ns : List ℕ). option_or (get_or old f None) (node_of_field c.args.nodes.now f ns) ≡ node_of_field c.args.nodes.now f order) (next-at order i 0 c.loop-node-test.true) (c.loop-node.invariant.noted f lt));
    }

pub returns : goal.returns
returns c =
    let order : List ℕ = c.args.order.now in
    let found : List (Option ℕ) = c.loop-node.found.items in
    lists-are (λ (f : ℕ). node_of_field c.args.nodes.now f order) None c.args.fields 0 found c.loop-node.invariant.as_many
    (λ f lt. let same : f ≡ 0 + f = omega arith in
    sym (or-none (get_or found f None))
    ∙ subst (λ (ns : List ℕ). option_or (get_or found f None) (node_of_field c.args.nodes.now f ns) ≡ node_of_field c.args.nodes.now f order) (end-at order c.loop-node.node-index c.loop-node-test.false) (c.loop-node.invariant.noted f lt)
    ∙ ap (λ (k : ℕ). node_of_field c.args.nodes.now k order) same)
