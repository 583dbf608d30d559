use Rattle.std.proofs.Common.{ap, ◌∙◌}
use Rattle.screen.proofs.Changes.{same_key-row}
use Rattle.screen.proofs.drawn_row.DrawnRow.keep.Goals as goal

pub invariant_of-result : goal.invariant_of-result
invariant_of-result c =
    ap (λ v. v.items) c.in_ok-cells.ensures.cases ∙ (c.self.invariant ∙ same_key-row _ _ (rw (← c.self.view_is) at c.requires))
