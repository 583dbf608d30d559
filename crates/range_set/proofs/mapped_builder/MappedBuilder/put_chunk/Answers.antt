use Rattle.std.proofs.Common.{◌≡◌, ◌++◌, map, sym, ap, subst, ◌∙◌, append_assoc}
use Rattle.std.proofs.lemmas.Result.{IfOk-weaker}
use Rattle.stable_order.specs.StableSort.{stable_sort}
use Rattle.range_set.specs.Order.{before}
use Rattle.range_set.specs.PrivateChunks.{Ascend, content, flat, shift}
use Rattle.range_set.specs.PrivateBuilders.{built, grouped}
use Rattle.range_set.proofs.Chunks.{ascend-rest}
use Rattle.range_set.proofs.mapped_builder.MappedBuilder.put_chunk.Goals as goal

pub put_sorted-requires-clause-order : goal.put_sorted-requires-clause-order
put_sorted-requires-clause-order g c =
    let old = c.args.self.now in
    let run = stable_sort (before g.T.RangeValue.rules) old.run.items in
    ascend-rest 0 (flat (grouped old.groups)) (built old.chunks ++ run)
    (subst (Ascend 0) (append_assoc (flat (grouped old.groups)) (built old.chunks) run) c.requires.order)

pub returns-clause-ranges : goal.returns-clause-ranges
returns-clause-ranges g c =
    let old = c.args.self.now in
    let done = flat (grouped old.groups) in
    let run = stable_sort (before g.T.RangeValue.rules) old.run.items in
    let more = map (shift c.args.placed.start) (content c.args.placed).ranges in
    IfOk-weaker c.put.result (λ _. built c.put.new.self ≡ built c.put_sorted.new.builder ++ more) (λ _. done ++ built c.put.new.self ≡ done ++ built old.chunks ++ run ++ more)
    (λ _ e. ap (λ rs. done ++ rs) (e ∙ ap (λ rs. rs ++ more) c.in_ok-put_sorted.ensures.ranges)
    ∙ (sym (append_assoc done (built old.chunks ++ run) more) ∙ ap (λ rs. rs ++ more) (sym (append_assoc done (built old.chunks) run))))
    c.put.ensures.ranges
