use Rattle.std.proofs.Common.{take, sym, ◌∙◌, ap, subst, arith}
use Rattle.line_tree.specs.Breaks.{count_breaks}
use Rattle.line_tree.specs.Places.{PartHoldsPlace}
use Rattle.line_tree.proofs.Nodes.{at_branch}
use Rattle.line_tree.proofs.PartPlaces.{count_ahead}
use Rattle.line_tree.proofs.text.Text.+breaks_before.Goals as goal

pub returns-in-Branch : goal.returns-in-Branch
returns-in-Branch t c =
    let f = at_branch c.self.inside.node.value c.in-Branch.branch c.args.self.now c.self.view_is c.self.invariant (sym c.deref.ensures ∙ c.in-Branch.is) in
    let p = subst (λ ps. PartHoldsPlace ps c.args.pos c.part_at-found.result.index c.part_at-found.result.from c.part_at-found.result.breaks) c.as_slice.ensures.value c.part_at-found.ensures in
    let e = count_ahead c.in-Branch.branch.parts.items c.args.pos c.part_at-found.result.index c.part_at-found.result.from c.part_at-found.result.breaks c.index-part.result.now p c.index-part.ensures in
    omega (arith, e, c.breaks_before-in-Branch.ensures, ap (λ cs. count_breaks (take c.args.pos cs)) f.characters)
