use Rattle.std.proofs.Common.{◌∙◌, sym, length, ap, arith}
use Rattle.workload.proofs.Steps.{next_line}
use Rattle.workload.proofs.workload.WorkloadIterator.next.Goals as goal

pub returns-then-self-gt0 : goal.returns-then-self-gt0
returns-then-self-gt0 c =
    let steps = sym c.self.view_is
    ∙ next_line c.self.inside.first c.self.inside.left c.self.inside.progress c.next_transaction-next.result.after c.next_transaction-next.result.edit _
    c.if-self-lt4.false c.self.invariant.0 c.if-self-gt0.true c.next_transaction-next.ensures.edit c.next_transaction-next.ensures.after in
    record { steps = steps; goes = record { on = λ h. (tt, tt, omega (arith, ap length steps)); keeps = tt; rests = λ h. tt } }
