use Rattle.std.proofs.lemmas.Result.{IfOk-weaker}
use Rattle.std.proofs.Common.{ℕ}
use Rattle.change_desc.specs.Sections.{spelled, new_size}
use Rattle.selection.specs.Selections.{LieIn}
use Rattle.filters.proofs.view.new_selection.Goals as goal

pub returns-clause-inside : goal.returns-clause-inside
returns-clause-inside c =
    let n = new_size spelled c.args.draft.now.changes in
    IfOk-weaker c.allowed.result (λ s. (len : ℕ) → LieIn len c.in_ok-whole.whole.ranges → LieIn len s.ranges) (λ s. LieIn n s.ranges)
    (λ s h. h n c.in_ok-whole.ensures.inside) c.allowed.ensures.inside
