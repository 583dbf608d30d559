use Rattle.std.proofs.Common.{Ok, arith}
use Rattle.made_requests.specs.PrivateRequests.{marking}
use Rattle.made_requests.proofs.Commands.{is_read, marked, marking_line}
use Rattle.made_requests.proofs.request.mark.Goals as goal

pub returns : goal.returns
returns c =
    is_read _ (Ok c.spec.result) (marking c.args.from c.args.to) _ (marking_line c.args.from c.args.to (omega arith) (omega arith))
    (marked c.empty.result c.in_ok-effects.effects c.empty-2.result c.in_ok-effect.effect c.in_ok-value.value c.args.from c.args.to
    c.empty.ensures c.in_ok-effects.ensures c.empty-2.ensures c.in_ok-effect.ensures c.in_ok-value.ensures) c.spec.ensures
