use Rattle.std.proofs.Common.{◌∙◌, arith}
use Rattle.change_desc.specs.Sections.{spelled}
use Rattle.change_desc.specs.Of.{then_also}
use Rattle.change_set.proofs.RunningTotals.{also-moved}
use Rattle.transaction.proofs.Meetings.{is_long, not_long}
use Rattle.filters.proofs.Totals.{mine-old}
use Rattle.filters.proofs.check.beside.Goals as goal

pub mapped_len-requires : goal.mapped_len-requires
mapped_len-requires c = mine-old c.args.first.now c.args.second.now c.in_ok-mine.mine c.in_ok-mine.ensures c.requires

pub returns-then-len-from-clause-refused : goal.returns-then-len-from-clause-refused
returns-then-len-from-clause-refused c = λ _.
    is_long c.args.max c.in_ok-len.len (then_also spelled c.args.first.now c.args.second.now)
    (c.in_ok-len.ensures ∙ also-moved c.args.first.now c.args.second.now c.in_ok-mine.mine c.in_ok-mine.ensures c.requires)
    (omega (arith, c.if-len-from.true, c.from.ensures))

pub returns-clause-accepted : goal.returns-clause-accepted
returns-clause-accepted c =
    not_long c.args.max c.in_ok-len.len (then_also spelled c.args.first.now c.args.second.now)
    (c.in_ok-len.ensures ∙ also-moved c.args.first.now c.args.second.now c.in_ok-mine.mine c.in_ok-mine.ensures c.requires)
    (omega (arith, c.if-len-from.false, c.from.ensures))
