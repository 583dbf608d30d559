use Rattle.std.proofs.Common.{◌<◌, ◌+◌, ◌∷◌, List, drop, get_or, length, sym, subst, arith}
use Rattle.std.proofs.lemmas.Grind.{common_steps}
use Rattle.std.proofs.lemmas.List.{drop_more}
use Rattle.values.specs.Declarations.{Declarations}
use Rattle.registry.specs.declared.provided.Provided.{Provided}
use Rattle.registry.proofs.Providing.{IsUnderWay, goes-on}
use Rattle.registry.proofs.registry.Registry.inputs_from.Goals as goal

pub loop-provided-preserved : goal.loop-provided-preserved
loop-provided-preserved g c =
    let rules = g.M.Meanings.rules in
    let i = c.loop-provided.provided-index in
    let all : List Provided = c.args.provides.now in
    let d : Declarations = c.loop-provided.self in
    let p : Provided = get_or all i (record { facet = 0; rule = 0 }) in
    let l : i < length all = grind (arith, common_steps, c.loop-provided-test.true) in
    let w : IsUnderWay rules c.args.self.now c.args.field all d (p ∷ drop (i + 1) all) = subst (IsUnderWay rules c.args.self.now c.args.field all d) (drop_more all i (record { facet = 0; rule = 0 }) l) c.loop-provided.invariant in
    subst (λ (x : Declarations). IsUnderWay rules c.args.self.now c.args.field all x (drop (i + 1) all)) (sym c.in_ok-input_from.ensures.made) (goes-on rules c.args.field c.args.self.now d all p (drop (i + 1) all) w c.in_ok-input_from.ensures.passes)
