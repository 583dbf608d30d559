use Rattle.std.proofs.Common.{◌≡◌, ◌-◌, length, sym, ◌∙◌, ap, subst, arith, rules}
use Rattle.line_tree.specs.Text.{replaced}
use Rattle.line_tree.specs.Parts.{joined, HaveHeight}
use Rattle.line_tree.proofs.Nodes.{at_branch}
use Rattle.line_tree.proofs.Seams.{adds_same, height_of}
use Rattle.line_tree.proofs.PartEdits.{edited, length-replaced, part_fits_too}
use Rattle.line_tree.proofs.text.Text.+add_replaced.Goals as goal

pub add_replaced-requires : goal.add_replaced-requires
add_replaced-requires t c =
    let parts = c.as_slice-parts.result.now in
    let f = at_branch c.self.inside.node.value c.in-Branch.branch c.args.self.now c.self.view_is c.self.invariant (sym c.deref.ensures ∙ c.in-Branch.is) in
    let found = c.part_at-found.result in
    let whole = f.characters ∙ ap joined (sym c.as_slice-parts.ensures.value) in
    let height : f.sound.lower.0 ≡ c.in-Branch.branch.height - 1 = omega (arith, f.sound.lower.1) in
    let all = subst (λ ps. HaveHeight (c.in-Branch.branch.height - 1) ps) (sym c.as_slice-parts.ensures.value) (subst (λ h. HaveHeight h c.in-Branch.branch.parts.items) height f.sound.lower.2) in
    let lower = height_of (c.in-Branch.branch.height - 1) parts found.index c.index-parts-found.result c.part_at-found.ensures.is.in_range c.index-parts-found.is all in
    let fits =
    part_fits_too parts c.args.from c.args.to found.index found.from found.breaks (length c.args.lines.now) c.index-parts-found.result c.part_at-found.ensures c.index-parts-found.is c.requires.order in (
      omega (arith, lower, f.height, f.sound.lower.1, c.decreases),
      (omega (arith, c.requires.order), (omega (arith, c.if-to-found.false, c.len.ensures), (c.requires.few, omega (arith, fits, ap length whole, c.requires.fits)))),
    )

pub add_level-requires-clause-same : goal.add_level-requires-clause-same
add_level-requires-clause-same t c =
    let parts = c.as_slice-parts.result.now in
    let f = at_branch c.self.inside.node.value c.in-Branch.branch c.args.self.now c.self.view_is c.self.invariant (sym c.deref.ensures ∙ c.in-Branch.is) in
    let found = c.part_at-found.result in
    let whole = f.characters ∙ ap joined (sym c.as_slice-parts.ensures.value) in
    let height : f.sound.lower.0 ≡ c.in-Branch.branch.height - 1 = omega (arith, f.sound.lower.1) in
    let all = subst (λ ps. HaveHeight (c.in-Branch.branch.height - 1) ps) (sym c.as_slice-parts.ensures.value) (subst (λ h. HaveHeight h c.in-Branch.branch.parts.items) height f.sound.lower.2) in
    let n = edited parts (c.in-Branch.branch.height - 1) c.args.from c.args.to found.index found.from found.breaks c.args.lines.now c.index-parts-found.result _ _ _ _ all
    c.part_at-found.ensures c.index-parts-found.is c.requires.order (omega (arith, c.if-to-found.false, c.len.ensures)) c.in_ok-texts-in-Branch.ensures.items c.in_ok-add_copies-in-Branch.ensures (c.in_ok-add_replaced-in-Branch.ensures (search rules))
    c.in_ok-add_copies-in-Branch-2.ensures in
    n.same

pub add_level-requires-clause-fits : goal.add_level-requires-clause-fits
add_level-requires-clause-fits t c =
    let parts = c.as_slice-parts.result.now in
    let f = at_branch c.self.inside.node.value c.in-Branch.branch c.args.self.now c.self.view_is c.self.invariant (sym c.deref.ensures ∙ c.in-Branch.is) in
    let found = c.part_at-found.result in
    let whole = f.characters ∙ ap joined (sym c.as_slice-parts.ensures.value) in
    let height : f.sound.lower.0 ≡ c.in-Branch.branch.height - 1 = omega (arith, f.sound.lower.1) in
    let all = subst (λ ps. HaveHeight (c.in-Branch.branch.height - 1) ps) (sym c.as_slice-parts.ensures.value) (subst (λ h. HaveHeight h c.in-Branch.branch.parts.items) height f.sound.lower.2) in
    let n = edited parts (c.in-Branch.branch.height - 1) c.args.from c.args.to found.index found.from found.breaks c.args.lines.now c.index-parts-found.result _ _ _ _ all
    c.part_at-found.ensures c.index-parts-found.is c.requires.order (omega (arith, c.if-to-found.false, c.len.ensures)) c.in_ok-texts-in-Branch.ensures.items c.in_ok-add_copies-in-Branch.ensures (c.in_ok-add_replaced-in-Branch.ensures (search rules))
    c.in_ok-add_copies-in-Branch-2.ensures in
    omega (arith, ap length n.whole, length-replaced c.args.from c.args.to c.args.lines.now (joined parts) c.requires.order (omega (arith, ap length whole, c.requires.within)), ap length whole, c.requires.fits)

pub returns-in_ok-add_level-in-Branch : goal.returns-in_ok-add_level-in-Branch
returns-in_ok-add_level-in-Branch t c =
    let parts = c.as_slice-parts.result.now in
    let f = at_branch c.self.inside.node.value c.in-Branch.branch c.args.self.now c.self.view_is c.self.invariant (sym c.deref.ensures ∙ c.in-Branch.is) in
    let found = c.part_at-found.result in
    let whole = f.characters ∙ ap joined (sym c.as_slice-parts.ensures.value) in
    let height : f.sound.lower.0 ≡ c.in-Branch.branch.height - 1 = omega (arith, f.sound.lower.1) in
    let all = subst (λ ps. HaveHeight (c.in-Branch.branch.height - 1) ps) (sym c.as_slice-parts.ensures.value) (subst (λ h. HaveHeight h c.in-Branch.branch.parts.items) height f.sound.lower.2) in
    let n = edited parts (c.in-Branch.branch.height - 1) c.args.from c.args.to found.index found.from found.breaks c.args.lines.now c.index-parts-found.result _ _ _ _ all
    c.part_at-found.ensures c.index-parts-found.is c.requires.order (omega (arith, c.if-to-found.false, c.len.ensures)) c.in_ok-texts-in-Branch.ensures.items c.in_ok-add_copies-in-Branch.ensures (c.in_ok-add_replaced-in-Branch.ensures (search rules))
    c.in_ok-add_copies-in-Branch-2.ensures in
    λ done. adds_same _ _ _ _ _ _ (omega (arith, f.height, f.sound.lower.1)) (n.whole ∙ ap (λ cs. replaced c.args.from c.args.to c.args.lines.now cs) (sym whole)) c.in_ok-add_level-in-Branch.ensures
