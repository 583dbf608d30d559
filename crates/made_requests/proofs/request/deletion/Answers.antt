use Rattle.std.proofs.Common.{[], List, ℕ, ap, arith}
use Rattle.change_set.specs.declared.change.Change.TheVariants.{Span}
use Rattle.made_requests.specs.PrivateRequests.{changing}
use Rattle.made_requests.proofs.Commands.{deletion_line, is_read}
use Rattle.made_requests.proofs.request.deletion.Goals as goal

pub returns : goal.returns
returns c =
    is_read _ c.changing.result (changing c.args.time (Span c.args.from c.args.to [])) (changing c.args.time (Span c.args.from c.args.to c.in_ok-insert.insert))
    (deletion_line c.args.time c.args.from c.args.to (omega arith) (omega arith) (omega arith))
    (ap (λ (text : List ℕ). changing c.args.time (Span c.args.from c.args.to text)) c.in_ok-insert.ensures) c.changing.ensures
