use Rattle.std.proofs.Common.{sym, arith}
use Rattle.history.proofs.Cuts.{all-changes}
use Rattle.history.proofs.cut.kept_len.Goals as goal

pub returns-then-len-change_count : goal.returns-then-len-change_count
returns-then-len-change_count c =
    let same = c.if-len-change_count.true in
    let len = c.len.ensures in
    let count = c.change_count.ensures in
    sym (all-changes c.args.count c.args.items.now (omega (arith, same, len, count)) c.requires)
