use Rattle.std.proofs.Common.{take, sym, ap, ◌∙◌, arith}
use Rattle.history.specs.Items.{change_count}
use Rattle.history.proofs.Cuts.{few-kept, kept-counts, kept-newest, kept-shorter}
use Rattle.history.proofs.cut.newest_changes.Goals as goal

pub returns-then-change_count-count : goal.returns-then-change_count-count
returns-then-change_count-count c =
    let few = c.if-change_count-count.true in
    let count = c.change_count.ensures in
    sym (few-kept c.args.count c.args.items (omega (arith, few, count)))

pub newest-requires-clause-few : goal.newest-requires-clause-few
newest-requires-clause-few c = rw c.kept_len-len.ensures (kept-shorter c.args.count c.args.items)

pub newest-requires-clause-changes : goal.newest-requires-clause-changes
newest-requires-clause-changes c =
    let more = c.if-change_count-count.false in
    let count = c.change_count.ensures in
    sym
    (ap (λ n. change_count (take n c.args.items)) c.kept_len-len.ensures ∙
    (ap change_count (kept-newest c.args.count c.args.items) ∙ kept-counts c.args.count c.args.items (omega (arith, more, count))))

pub returns : goal.returns
returns c = c.newest.ensures ∙ (ap (λ n. take n c.args.items) c.kept_len-len.ensures ∙ kept-newest c.args.count c.args.items)
