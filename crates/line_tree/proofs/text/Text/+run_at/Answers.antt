use Rattle.std.proofs.Common.{length, take, drop, sym, ◌∙◌, ap, subst, arith}
use Rattle.line_tree.specs.Places.{PartHoldsPlace}
use Rattle.line_tree.proofs.Nodes.{at_branch}
use Rattle.line_tree.proofs.PartPlaces.{break_next, run_there}
use Rattle.line_tree.proofs.text.Text.+run_at.Goals as goal

pub returns-then-place-len-clause-run : goal.returns-then-place-len-clause-run
returns-then-place-len-clause-run t c =
    let f = at_branch c.self.inside.node.value c.in-Branch.branch c.args.self.now c.self.view_is c.self.invariant (sym c.deref.ensures ∙ c.in-Branch.is) in
    let found = c.part_at-found.result in
    let p = subst (λ ps. PartHoldsPlace ps c.args.pos found.index found.from found.breaks) c.as_slice.ensures.value c.part_at-found.ensures in
    break_next c.in-Branch.branch.parts.items c.args.pos found.index found.from found.breaks c.index-part.result.now p c.index-part.ensures
    (omega (arith, c.requires, ap length f.characters)) (omega (arith, c.if-place-len.true, c.len.ensures))
    ∙ ap (λ cs. take 1 (drop c.args.pos cs)) (sym f.characters)

pub returns-else-place-len-clause-run : goal.returns-else-place-len-clause-run
returns-else-place-len-clause-run t c =
    let f = at_branch c.self.inside.node.value c.in-Branch.branch c.args.self.now c.self.view_is c.self.invariant (sym c.deref.ensures ∙ c.in-Branch.is) in
    let found = c.part_at-found.result in
    let p = subst (λ ps. PartHoldsPlace ps c.args.pos found.index found.from found.breaks) c.as_slice.ensures.value c.part_at-found.ensures in
    let r = run_there c.in-Branch.branch.parts.items c.args.pos found.index found.from found.breaks c.index-part.result.now c.run_at-else-place-len.result.now p c.index-part.ensures c.run_at-else-place-len.ensures.run c.run_at-else-place-len.ensures.short in
    r.0 ∙ ap (λ cs. take (length c.run_at-else-place-len.result.now) (drop c.args.pos cs)) (sym f.characters)

pub returns-else-place-len-clause-short : goal.returns-else-place-len-clause-short
returns-else-place-len-clause-short t c =
    let f = at_branch c.self.inside.node.value c.in-Branch.branch c.args.self.now c.self.view_is c.self.invariant (sym c.deref.ensures ∙ c.in-Branch.is) in
    let found = c.part_at-found.result in
    let p = subst (λ ps. PartHoldsPlace ps c.args.pos found.index found.from found.breaks) c.as_slice.ensures.value c.part_at-found.ensures in
    let r = run_there c.in-Branch.branch.parts.items c.args.pos found.index found.from found.breaks c.index-part.result.now c.run_at-else-place-len.result.now p c.index-part.ensures c.run_at-else-place-len.ensures.run c.run_at-else-place-len.ensures.short in
    omega (arith, r.1, ap length f.characters)
