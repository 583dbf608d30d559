use Rattle.std.proofs.Common.{List, ℕ, ap, arith}
use Rattle.workload.specs.Edits.{made_text}
use Rattle.change_set.specs.declared.change.Change.TheVariants.{Span}
use Rattle.made_requests.specs.PrivateRequests.{changing}
use Rattle.made_requests.proofs.Commands.{insertion_line, is_read}
use Rattle.made_requests.proofs.request.insertion.Goals as goal

pub returns : goal.returns
returns c =
    is_read _ c.changing.result (changing c.args.time (Span c.args.at c.args.at (made_text c.args.size c.args.letter)))
    (changing c.args.time (Span c.args.at c.args.at c.in_ok-insert.insert))
    (insertion_line c.args.time c.args.at c.args.size c.args.letter (omega arith) (omega arith) (omega arith))
    (ap (λ (text : List ℕ). changing c.args.time (Span c.args.at c.args.at text)) c.in_ok-insert.ensures) c.changing.ensures
