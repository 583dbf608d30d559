use Rattle.std.proofs.Common.{arith}
use Rattle.filters.specs.Starts.{start_of}
use Rattle.filters.proofs.Reducing.{parts-ok}
use Rattle.filters.proofs.parts.with_parts.Goals as goal

pub returns-clause-draft : goal.returns-clause-draft
returns-clause-draft g c =
    parts-ok g.M.Meanings.rules (start_of c.args.start.now) c.args.parts.kept c.args.parts.dropped c.args.draft.value c.new_len-len.result c.new_len-len.ensures
    c.in_ok-back.back c.in_ok-reduced.field-0.value (omega arith) c.in_ok-back.ensures.value c.in_ok-reduced.ensures.value
