use Rattle.std.proofs.Common.{◌≡◌, ◌++◌, length, map, sym, ap, subst, ◌∙◌, arith, append_assoc}
use Rattle.std.proofs.lemmas.List.{append-nil, length-append}
use Rattle.std.proofs.lemmas.Result.{IfOk-weaker}
use Rattle.stable_order.specs.StableSort.{stable_sort}
use Rattle.stable_order.proofs.StableSort.{length-stable_sort}
use Rattle.range_set.specs.Order.{before}
use Rattle.range_set.specs.PrivateChunks.{Ascend, flat, group_content, move, shift}
use Rattle.range_set.specs.PrivateBuilders.{built, grouped, put_down}
use Rattle.range_set.proofs.Chunks.{ascend-rest, flat-append}
use Rattle.range_set.proofs.Groups.{flat-moved}
use Rattle.range_set.proofs.mapped_builder.MappedBuilder.share_group.Goals as goal

pub put_sorted-requires-clause-order : goal.put_sorted-requires-clause-order
put_sorted-requires-clause-order g c =
    let old = c.args.self.now in
    let run = stable_sort (before g.T.RangeValue.rules) old.run.items in
    ascend-rest 0 (flat (grouped old.groups)) (built old.chunks ++ run)
    (subst (Ascend 0) (append_assoc (flat (grouped old.groups)) (built old.chunks) run) c.requires.order)

pub end_groups-requires-clause-room : goal.end_groups-requires-clause-room
end_groups-requires-clause-room g c =
    let old = c.args.self.now in
    let order = before g.T.RangeValue.rules in
    let a = length-append (flat (grouped old.groups)) (built c.put_sorted.new.builder) in
    let b = ap length c.in_ok-put_sorted.ensures.ranges ∙ length-append (built old.chunks) (stable_sort order old.run.items) in
    let n = length-append (flat (grouped old.groups)) (built old.chunks) in
    let m = length-stable_sort order old.run.items in
    let l = c.requires.room in
    omega (arith, a, b, n, m, l)

pub share-requires-clause-room : goal.share-requires-clause-room
share-requires-clause-room g c =
    let old = c.args.self.now in
    let order = before g.T.RangeValue.rules in
    let a = length-append (flat (grouped old.groups)) (built c.put_sorted.new.builder) in
    let b = ap length c.in_ok-put_sorted.ensures.ranges ∙ length-append (built old.chunks) (stable_sort order old.run.items) in
    let n = length-append (flat (grouped old.groups)) (built old.chunks) in
    let m = length-stable_sort order old.run.items in
    let k = ap length c.in_ok-end_groups.ensures.ranges in
    let l = c.requires.room in
    omega (arith, a, b, n, m, k, l)

pub returns-clause-ranges : goal.returns-clause-ranges
returns-clause-ranges g c =
    let old = c.args.self.now in
    let done = flat (grouped old.groups) in
    let run = stable_sort (before g.T.RangeValue.rules) old.run.items in
    let chunks = (group_content c.args.placed.now).chunks in
    let more = map (shift c.args.start) (flat chunks) in
    let sorted = ap (λ rs. done ++ rs) c.in_ok-put_sorted.ensures.ranges ∙ sym (append_assoc done (built old.chunks) run) in
    let ended = c.in_ok-end_groups.ensures.ranges ∙ sorted in
    IfOk-weaker c.share.result (λ _. grouped c.share.new.self ≡ grouped c.end_groups.new.self.groups ++ map (move c.args.start) chunks)
    (λ _. flat (grouped c.share.new.self) ++ built c.end_groups.new.self.chunks ≡ put_down old ++ run ++ more)
    (λ _ e. ap (λ rs. flat (grouped c.share.new.self) ++ rs) c.in_ok-end_groups.ensures.ended
    ∙ (append-nil (flat (grouped c.share.new.self))
    ∙ (ap flat e
    ∙ (flat-append (grouped c.end_groups.new.self.groups) (map (move c.args.start) chunks)
    ∙ (ap (λ rs. flat (grouped c.end_groups.new.self.groups) ++ rs) (flat-moved c.args.start chunks) ∙ ap (λ rs. rs ++ more) ended)))))
    c.share.ensures.ranges
