use Rattle.std.proofs.Common.{List, ◌∷◌, [], ◌++◌, subst, sym, ap, ◌∙◌}
use Rattle.selection.specs.Selections.{LieIn, SelectionView}
use Rattle.selection.specs.declared.range.Range.{Range}
use Rattle.selection.proofs.Normals.{one_at, one_at-inside}
use Rattle.selection.proofs.selection.Selection.as_single.Goals as goal

pub returns-clause-selection : goal.returns-clause-selection
returns-clause-selection c =
    let e = c.in_ok-push.ensures.ok ∙ (ap (λ s. s ++ c.main.result ∷ []) c.new-ranges.ensures.items ∙ sym (one_at c.args.self.now.main c.args.self.now.ranges c.main.result c.main.ensures)) in
    ap (λ (rs : List Range). let s : SelectionView = record { ranges = rs; main = 0 } in s) e

pub returns-clause-inside : goal.returns-clause-inside
returns-clause-inside c = λ len h.
    let e = c.in_ok-push.ensures.ok ∙ (ap (λ s. s ++ c.main.result ∷ []) c.new-ranges.ensures.items ∙ sym (one_at c.args.self.now.main c.args.self.now.ranges c.main.result c.main.ensures)) in
    subst (LieIn len) (sym e) (one_at-inside len c.args.self.now.main c.args.self.now.ranges h)
