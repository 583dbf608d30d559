use Rattle.std.proofs.Common.{◌≡◌, not, ap, subst}
use Rattle.history.proofs.Same.{same-is}
use Rattle.history.specs.Inputs.{StepView}
use Rattle.history.specs.Selecting.{goes_elsewhere}
use Rattle.history.proofs.step_input.StepInput.goes_elsewhere.Goals as goal

pub returns-in-Some : goal.returns-in-Some
returns-in-Some c =
    subst (λ (i : StepView). not c.same.result ≡ goes_elsewhere i) c.self.view_is
    (rw c.in-Some.is (ap not (same-is c.same.result c.self.inside.selection.now c.in-Some.given.now c.same.ensures.0 c.same.ensures.1)))
