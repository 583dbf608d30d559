use Rattle.std.proofs.Common.{◌+◌, length, sym, ◌∙◌, ap, subst, arith}
use Rattle.line_tree.specs.Breaks.{count_breaks, IsBreakAt}
use Rattle.line_tree.specs.Places.{PartHoldsBreak}
use Rattle.line_tree.proofs.Nodes.{at_branch}
use Rattle.line_tree.proofs.PartPlaces.{break_there}
use Rattle.line_tree.proofs.text.Text.+break_place.Goals as goal

pub overflow_add-result : goal.overflow_add-result
overflow_add-result t c =
    let f = at_branch c.self.inside.node.value c.in-Branch.branch c.args.self.now c.self.view_is c.self.invariant (sym c.deref.ensures ∙ c.in-Branch.is) in
    let found = c.part_of_break-found.result in
    let p = subst (λ ps. PartHoldsBreak ps c.args.before found.index found.from found.breaks) c.as_slice.ensures.value c.part_of_break-found.ensures in
    let b = break_there c.in-Branch.branch.parts.items c.args.before found.index found.from found.breaks c.index-part.result.now p c.index-part.ensures (omega (arith, c.requires, ap count_breaks f.characters)) in
    omega (arith, b.fits, c.len.ensures, f.sound.counted.fits)

pub overflow_add-result-else-inside-breaks : goal.overflow_add-result-else-inside-breaks
overflow_add-result-else-inside-breaks t c =
    let f = at_branch c.self.inside.node.value c.in-Branch.branch c.args.self.now c.self.view_is c.self.invariant (sym c.deref.ensures ∙ c.in-Branch.is) in
    let found = c.part_of_break-found.result in
    let p = subst (λ ps. PartHoldsBreak ps c.args.before found.index found.from found.breaks) c.as_slice.ensures.value c.part_of_break-found.ensures in
    let b = break_there c.in-Branch.branch.parts.items c.args.before found.index found.from found.breaks c.index-part.result.now p c.index-part.ensures (omega (arith, c.requires, ap count_breaks f.characters)) in
    omega (arith, b.fits, c.break_place-else-inside-breaks.ensures.within, f.sound.counted.fits)

pub returns-then-inside-breaks : goal.returns-then-inside-breaks
returns-then-inside-breaks t c =
    let f = at_branch c.self.inside.node.value c.in-Branch.branch c.args.self.now c.self.view_is c.self.invariant (sym c.deref.ensures ∙ c.in-Branch.is) in
    let found = c.part_of_break-found.result in
    let p = subst (λ ps. PartHoldsBreak ps c.args.before found.index found.from found.breaks) c.as_slice.ensures.value c.part_of_break-found.ensures in
    let b = break_there c.in-Branch.branch.parts.items c.args.before found.index found.from found.breaks c.index-part.result.now p c.index-part.ensures (omega (arith, c.requires, ap count_breaks f.characters)) in
    rw c.len.ensures (subst (λ cs. IsBreakAt cs c.args.before (found.from + length c.index-part.result.now.characters)) (sym f.characters) (b.at_end (omega (arith, c.if-inside-breaks.true, c.breaks.ensures.value))))

pub returns-else-inside-breaks : goal.returns-else-inside-breaks
returns-else-inside-breaks t c =
    let f = at_branch c.self.inside.node.value c.in-Branch.branch c.args.self.now c.self.view_is c.self.invariant (sym c.deref.ensures ∙ c.in-Branch.is) in
    let found = c.part_of_break-found.result in
    let p = subst (λ ps. PartHoldsBreak ps c.args.before found.index found.from found.breaks) c.as_slice.ensures.value c.part_of_break-found.ensures in
    let b = break_there c.in-Branch.branch.parts.items c.args.before found.index found.from found.breaks c.index-part.result.now p c.index-part.ensures (omega (arith, c.requires, ap count_breaks f.characters)) in
    subst (λ cs. IsBreakAt cs c.args.before (found.from + c.break_place-else-inside-breaks.result)) (sym f.characters) (b.inside c.break_place-else-inside-breaks.result c.break_place-else-inside-breaks.ensures)
