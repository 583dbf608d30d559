use Rattle.std.proofs.Common.{refl, ◌∙◌}
use Rattle.transaction.proofs.annotation.with_event.Goals as goal

pub returns-in_ok-push-in-Some : goal.returns-in_ok-push-in-Some
returns-in_ok-push-in-Some c = c.in_ok-push-in-Some.ensures.added ∙ rw (c.in-Some.is, c.in_ok-kind-in-Some.ensures) refl
