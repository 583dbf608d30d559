use Rattle.std.proofs.Common.{arith, rules}
use Rattle.blocks.proofs.Covered.{none_wrong, not_hidden, one_line, past_end, some_lines}
use Rattle.blocks.proofs.collecting.push_range.Goals as goal
use Rattle.blocks.proofs.collecting.push_range.Goals.{then-not-is_replacement-via-then-not-is_replacement, then-not-is_replacement-via-else-not-is_replacement+then-range-len}

pub returns-then-not-is_replacement-clause-breaks : goal.returns-then-not-is_replacement-clause-breaks
returns-then-not-is_replacement-clause-breaks c = λ line is more.
    elim c.then-not-is_replacement.branch [
      | then-not-is_replacement-via-then-not-is_replacement w ↦ not_hidden _ line.to _ (search rules)
      | then-not-is_replacement-via-else-not-is_replacement+then-range-len w ↦ past_end c.args.text.now.characters _ line _ is more (omega (arith, w.if-range-len, w.len.ensures))
    ]

pub returns-in_ok-push-clause-within : goal.returns-in_ok-push-clause-within
returns-in_ok-push-clause-within c =
    none_wrong c.args.text.now.characters _ _ c.line_at-first.result c.line_at-last.result c.in_ok-push.ensures.items c.line_at-first.ensures.line c.line_at-last.ensures.line (omega (arith, c.if-first-last.true))

pub returns-in_ok-push-clause-breaks : goal.returns-in_ok-push-clause-breaks
returns-in_ok-push-clause-breaks c = λ line is more.
    some_lines c.args.text.now.characters _ _ c.line_at-first.result c.line_at-last.result line _ c.min.result c.in_ok-push.ensures.items (search rules)
    c.line_at-first.ensures.line c.line_at-last.ensures.line is more c.line_at-first.ensures.starts c.line_at-first.ensures.ends (omega (arith, c.min.ensures, c.len-2.ensures))
    c.line_at-last.ensures.starts c.line_at-last.ensures.ends

pub returns-else-first-last-clause-breaks : goal.returns-else-first-last-clause-breaks
returns-else-first-last-clause-breaks c = λ line is more.
    one_line c.args.text.now.characters _ c.line_at-first.result c.line_at-last.result line _ c.min.result (search rules)
    c.line_at-first.ensures.line c.line_at-last.ensures.line is more c.line_at-first.ensures.starts c.line_at-first.ensures.ends (omega (arith, c.min.ensures, c.len-2.ensures))
    c.line_at-last.ensures.starts c.line_at-last.ensures.ends (omega (arith, c.if-first-last.false))
