use Rattle.std.proofs.Common.{◌≡◌, ◌++◌, length, sym, ap, subst, ◌∙◌, arith, append_assoc}
use Rattle.std.proofs.lemmas.List.{length-append}
use Rattle.std.proofs.lemmas.Result.{IfOk-weaker}
use Rattle.stable_order.specs.StableSort.{stable_sort}
use Rattle.stable_order.proofs.StableSort.{length-stable_sort}
use Rattle.range_set.specs.Order.{before}
use Rattle.range_set.specs.PrivateChunks.{Ascend, flat, spread}
use Rattle.range_set.specs.PrivateBuilders.{built, grouped, put_down}
use Rattle.range_set.proofs.Chunks.{ascend-rest}
use Rattle.range_set.proofs.mapped_builder.MappedBuilder.finish.Goals as goal

pub put_sorted-requires-clause-order : goal.put_sorted-requires-clause-order
put_sorted-requires-clause-order g c =
    let old = c.args.self in
    let run = stable_sort (before g.T.RangeValue.rules) old.run.items in
    ascend-rest 0 (flat (grouped old.groups)) (built old.chunks ++ run)
    (subst (Ascend 0) (append_assoc (flat (grouped old.groups)) (built old.chunks) run) c.requires.order)

pub end_groups-requires-clause-room : goal.end_groups-requires-clause-room
end_groups-requires-clause-room g c =
    let old = c.args.self in
    let order = before g.T.RangeValue.rules in
    let a = length-append (flat (grouped old.groups)) (built c.put_sorted.new.builder) in
    let b = ap length c.in_ok-put_sorted.ensures.ranges ∙ length-append (built old.chunks) (stable_sort order old.run.items) in
    let n = length-append (flat (grouped old.groups)) (built old.chunks) in
    let m = length-stable_sort order old.run.items in
    let l = c.requires.room in
    omega (arith, a, b, n, m, l)

pub returns-clause-ranges : goal.returns-clause-ranges
returns-clause-ranges g c =
    let done = flat (grouped c.args.self.groups) in
    let run = stable_sort (before g.T.RangeValue.rules) c.args.self.run.items in
    let sorted = ap (λ rs. done ++ rs) c.in_ok-put_sorted.ensures.ranges ∙ sym (append_assoc done (built c.args.self.chunks) run) in
    let ended = c.in_ok-end_groups.ensures.ranges ∙ sorted in
    IfOk-weaker c.finish.result (λ made. spread made.0 ≡ grouped c.end_groups.new.self.groups) (λ made. flat (spread made.0) ≡ put_down c.args.self ++ run) (λ made e. ap flat e ∙ ended) c.finish.ensures.ranges
