use Rattle.std.proofs.Common.{◌+◌, ◌-◌, ◌++◌, length, drop, sym, ◌∙◌, ap, subst, arith, length-append}
use Rattle.std.proofs.lemmas.List.{length-drop}
use Rattle.std.proofs.lemmas.Result.{IfOk-weaker}
use Rattle.line_tree.specs.Parts.{after_break, joined}
use Rattle.line_tree.specs.Places.{PartHoldsPlace}
use Rattle.line_tree.proofs.Nodes.{at_branch, at_leaf}
use Rattle.line_tree.proofs.Counts.{count_take, count_drop}
use Rattle.line_tree.proofs.PartPlaces.{split_there}
use Rattle.line_tree.proofs.text.Text.+suffix.Goals as goal

pub make_leaf-requires-clause-few : goal.make_leaf-requires-clause-few
make_leaf-requires-clause-few t c =
    let leaf = c.in-Leaf.leaf in
    let f = at_leaf c.self.inside.node.value leaf c.args.self.now c.self.view_is c.self.invariant (sym c.deref.ensures ∙ c.in-Leaf.is) in
    rw c.in_ok-slice-in-Leaf.ensures (omega (arith, count_take (drop c.args.pos leaf) (c.len.result - c.args.pos), count_drop leaf c.args.pos, f.sound.few))

pub before_parts-requires-clause-fits : goal.before_parts-requires-clause-fits
before_parts-requires-clause-fits t c =
    let parts = c.in-Branch.branch.parts.items in
    let f = at_branch c.self.inside.node.value c.in-Branch.branch c.args.self.now c.self.view_is c.self.invariant (sym c.deref.ensures ∙ c.in-Branch.is) in
    let found = c.part_at-found.result in
    let p = subst (λ ps. PartHoldsPlace ps c.args.pos found.index found.from found.breaks) c.as_slice.ensures.value c.part_at-found.ensures in
    let s = split_there parts c.args.pos found.index found.from found.breaks c.index.result.now p c.index.ensures in
    rw (c.as_slice-in-Branch.ensures.value, c.in_ok-part-in-Branch.ensures)
    (omega (
      arith,
      ap length s.1,
      length-append (drop (c.args.pos - found.from) c.index.result.now.characters) (after_break (drop (found.index + 1) parts)),
      length-drop c.args.pos (joined parts),
      f.sound.counted.fits,
    ))

pub returns-in_ok-part-in-Branch : goal.returns-in_ok-part-in-Branch
returns-in_ok-part-in-Branch t c =
    let parts = c.in-Branch.branch.parts.items in
    let f = at_branch c.self.inside.node.value c.in-Branch.branch c.args.self.now c.self.view_is c.self.invariant (sym c.deref.ensures ∙ c.in-Branch.is) in
    let found = c.part_at-found.result in
    let p = subst (λ ps. PartHoldsPlace ps c.args.pos found.index found.from found.breaks) c.as_slice.ensures.value c.part_at-found.ensures in
    let s = split_there parts c.args.pos found.index found.from found.breaks c.index.result.now p c.index.ensures in
    IfOk-weaker c.before_parts.result _ _
    (λ whole e.
    e ∙ ap (λ ps. c.in_ok-part-in-Branch.part.characters ++ after_break (drop (found.index + 1) ps)) c.as_slice-in-Branch.ensures.value
    ∙ ap (λ r. r ++ after_break (drop (found.index + 1) parts)) c.in_ok-part-in-Branch.ensures
    ∙ sym (ap (drop c.args.pos) f.characters ∙ s.1))
    c.before_parts.ensures
