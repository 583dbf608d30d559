use Rattle.std.proofs.Common.{rules}
use Rattle.std.proofs.lemmas.List.Sorted.{answers_always}
use Rattle.std.proofs.lemmas.Result.{on_ok_weaker}
use Rattle.stable_order.proofs.StableSort.{stable_sort-is}
use Rattle.stable_order.proofs.sort.sort_stably.Goals as goal

pub returns-clause-ok : goal.returns-clause-ok
returns-clause-ok g c =
    let ordered = g.T.Ranked.before in
    let order = g.met.T.Ranked.is_order in
    on_ok_weaker _
    (λ up. stable_sort-is ordered order _ _
    (up ordered order (answers_always _ _ _ (λ f a r f' h. search rules)))
    (c.sort_by.ensures.stable ordered order (answers_always _ _ _ (λ f a r f' h. search rules))))
    c.sort_by.ensures.sorted
