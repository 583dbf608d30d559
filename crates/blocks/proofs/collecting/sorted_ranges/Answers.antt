use Rattle.std.proofs.Common.{length, ◌∙◌, ap, List}
use Rattle.std.specs.List.{list_any}
use Rattle.std.proofs.lemmas.List.MinMax.{IsStrictWeakOrder-by_number}
use Rattle.line_tree.specs.Lines.{lines_of}
use Rattle.stable_order.proofs.StableSort.{Rises-stable_sort, list_any-stable_sort}
use Rattle.blocks.specs.Joins.{covers, is_wrong}
use Rattle.blocks.specs.declared.line_range.LineRange.{LineRange}
use Rattle.blocks.proofs.Covered.{are_ranges, by_first}
use Rattle.blocks.proofs.collecting.sorted_ranges.Goals as goal

pub returns-clause-order : goal.returns-clause-order
returns-clause-order c =
    let n = length (lines_of c.args.text.now.characters) in
    let same = list_any-stable_sort by_first (is_wrong n) c.in_ok-ranges.ranges.items in
    rw c.in_ok-sort_stably.ensures.ok (are_ranges n _ (Rises-stable_sort by_first (IsStrictWeakOrder-by_number (λ (r : LineRange). r.first)) c.in_ok-ranges.ranges.items) (same ∙ c.in_ok-ranges.ensures.within))

pub returns-clause-breaks : goal.returns-clause-breaks
returns-clause-breaks c = λ line is more.
    ap (λ (rs : List LineRange). list_any (covers line.number) rs) c.in_ok-sort_stably.ensures.ok ∙ (list_any-stable_sort by_first (covers line.number) c.in_ok-ranges.ranges.items ∙ c.in_ok-ranges.ensures.breaks line is more)
