use Rattle.std.proofs.Common.{ℕ, ap, subst, sym, ◌∙◌}
use Rattle.std.proofs.lemmas.Result.{IfOk-weaker}
use Rattle.change_desc.specs.Sections.{counted, new_size}
use Rattle.selection.specs.Selections.{IsSelection, LieIn, SelectionView}
use Rattle.selection.proofs.Alone.{alone-is_selection, alone-moved}
use Rattle.selection.proofs.Moves.{all_moved-inside}
use Rattle.selection.proofs.selection.Selection.map.Goals as goal

pub returns-clause-inside : goal.returns-clause-inside
returns-clause-inside c =
    let n = new_size counted c.args.changes.now in
    IfOk-weaker c.normal.result (λ s. (len : ℕ) → LieIn len c.deref-2.result.now → LieIn len s.ranges) (λ s. LieIn n s.ranges)
    (λ s h. h n (subst (LieIn n) (sym (c.deref-2.ensures ∙ c.in_ok-moved.ensures)) (all_moved-inside c.args.changes.now c.deref.result.now)))
    c.normal.ensures.inside

pub invariant_of-result : goal.invariant_of-result
invariant_of-result c = alone-is_selection c.in_ok-moved.moved.items (sym c.len.ensures.value ∙ c.if-len-eq1.true)

pub returns-then-len-eq1-clause-selection : goal.returns-then-len-eq1-clause-selection
returns-then-len-eq1-clause-selection c =
    alone-moved c.args.changes.now c.args.self.now c.deref.result.now c.in_ok-moved.moved.items (subst IsSelection c.self.view_is c.self.invariant) (c.deref.ensures ∙ ap (λ (s : SelectionView). s.ranges) c.self.view_is) c.in_ok-moved.ensures (sym c.len.ensures.value ∙ c.if-len-eq1.true)

pub returns-then-len-eq1-clause-inside : goal.returns-then-len-eq1-clause-inside
returns-then-len-eq1-clause-inside c =
    subst (LieIn (new_size counted c.args.changes.now)) (sym c.in_ok-moved.ensures) (all_moved-inside c.args.changes.now c.deref.result.now)
