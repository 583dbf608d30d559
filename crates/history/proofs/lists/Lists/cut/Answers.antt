use Rattle.std.proofs.Common.{◌≡◌, SFits, w64}
use Rattle.std.proofs.lemmas.Int.{to_z-of_z}
use Rattle.history.specs.Steps.{kept_count}
use Rattle.history.proofs.Keeping.{cut-made}
use Rattle.history.proofs.lists.Lists.cut.Goals as goal

pub returns-clause-history : goal.returns-clause-history
returns-clause-history c = λ len l m.
    let f : SFits w64 c.args.depth = c.ranges.depth in
    let k : c.kept_count.result ≡ kept_count c.args.depth = rw (to_z-of_z w64 c.args.depth f) at c.kept_count.ensures in
    cut-made len c.args.depth c.args.self c.kept_count.result c.in_ok-kept.kept c.in_ok-done.done c.in_ok-undone.undone c.begins_with_change.result c.group_if-group.result k
    c.in_ok-kept.ensures c.in_ok-done.ensures c.in_ok-undone.ensures c.begins_with_change.ensures c.group_if-group.ensures l m
