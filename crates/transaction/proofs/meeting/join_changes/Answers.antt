use Rattle.std.proofs.Common.{◌≤◌, ◌<◌, ◌^◌, refl, arith}
use Rattle.transaction.proofs.Meetings.{described, merged-size, moved-size, is_long, is_meeting, fits_by}
use Rattle.change_desc.specs.Sections.{spelled}
use Rattle.change_desc.specs.Of.{then_also}
use Rattle.transaction.proofs.meeting.join_changes.Goals as goal

pub mapped_len-len-requires : goal.mapped_len-len-requires
mapped_len-len-requires c = described c.args.first.now c.args.second.now c.in_ok-mine.mine c.in_ok-theirs.theirs c.in_ok-mine.ensures c.in_ok-theirs.ensures c.requires

pub returns-then-len-from-clause-refused : goal.returns-then-len-from-clause-refused
returns-then-len-from-clause-refused c = λ _.
    is_long c.args.max c.mapped_len-len.result (then_also spelled c.args.first.now c.args.second.now)
    (merged-size c.args.first.now c.args.second.now c.in_ok-mine.mine c.in_ok-theirs.theirs c.in_ok-mine.ensures c.in_ok-theirs.ensures c.requires c.mapped_len-len.result
    c.mapped_len-len.ensures)
    (omega (arith, c.if-len-from.true, c.from.ensures))

pub met-requires-clause-fits : goal.met-requires-clause-fits
met-requires-clause-fits c =
    let n = c.mapped_len-len.result in
    let l : n ≤ c.args.max = omega (arith, c.if-len-from.false, c.from.ensures) in
    let k : c.args.max < 2 ^ 32 = omega arith in
    fits_by _ _ n c.args.max
    (moved-size c.args.first.now c.args.second.now c.in_ok-mine.mine c.in_ok-theirs.theirs c.in_ok-mine.ensures c.in_ok-theirs.ensures c.requires)
    (merged-size c.args.first.now c.args.second.now c.in_ok-mine.mine c.in_ok-theirs.theirs c.in_ok-mine.ensures c.in_ok-theirs.ensures c.requires n c.mapped_len-len.ensures)
    l k

pub returns-clause-both : goal.returns-clause-both
returns-clause-both c =
    let n = c.mapped_len-len.result in
    let l : n ≤ c.args.max = omega (arith, c.if-len-from.false, c.from.ensures) in
    is_meeting c.args.first.now c.args.second.now c.in_ok-mine.mine c.in_ok-theirs.theirs c.in_ok-mine.ensures c.in_ok-theirs.ensures c.requires c.args.max n
    (record { changes = c.in_ok-changes.changes; moved = c.in_ok-changes.moved; mine = c.in_ok-mine.mine; theirs = c.in_ok-theirs.theirs }) l c.mapped_len-len.ensures
    c.in_ok-changes.ensures refl refl
