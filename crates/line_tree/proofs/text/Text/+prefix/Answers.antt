use Rattle.std.proofs.Common.{◌++◌, take, sym, ◌∙◌, ap, subst}
use Rattle.std.proofs.lemmas.Result.{IfOk-weaker}
use Rattle.line_tree.specs.Places.{PartHoldsPlace, before_break}
use Rattle.line_tree.proofs.Nodes.{at_branch}
use Rattle.line_tree.proofs.PartPlaces.{split_there}
use Rattle.line_tree.proofs.text.Text.+prefix.Goals as goal

pub returns-in_ok-part-in-Branch : goal.returns-in_ok-part-in-Branch
returns-in_ok-part-in-Branch t c =
    let parts = c.in-Branch.branch.parts.items in
    let f = at_branch c.self.inside.node.value c.in-Branch.branch c.args.self.now c.self.view_is c.self.invariant (sym c.deref.ensures ∙ c.in-Branch.is) in
    let found = c.part_at-found.result in
    let p = subst (λ ps. PartHoldsPlace ps c.args.pos found.index found.from found.breaks) c.as_slice.ensures.value c.part_at-found.ensures in
    let s = split_there parts c.args.pos found.index found.from found.breaks c.index.result.now p c.index.ensures in
    IfOk-weaker c.after_parts.result _ _
    (λ whole e.
    e ∙ ap (λ ps. before_break (take found.index ps) ++ c.in_ok-part-in-Branch.part.characters) c.as_slice-in-Branch.ensures.value
    ∙ ap (λ r. before_break (take found.index parts) ++ r) c.in_ok-part-in-Branch.ensures
    ∙ sym (ap (take c.args.pos) f.characters ∙ s.0))
    c.after_parts.ensures
