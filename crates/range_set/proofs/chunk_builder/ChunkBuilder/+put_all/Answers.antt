use Rattle.std.proofs.Common.{◌++◌, length, take, drop, ap, sym, subst, ◌∙◌, arith, append_assoc, take-append-drop}
use Rattle.std.proofs.lemmas.List.{length-drop, length-take}
use Rattle.range_set.specs.Order.{AllForward}
use Rattle.range_set.specs.PrivateChunks.{Ascend}
use Rattle.range_set.specs.PrivateBuilders.{built}
use Rattle.range_set.proofs.Chunks.{ascend-prefix, ascend-rest}
use Rattle.range_set.proofs.RangeOrder.{forward_left, forward_right}
use Rattle.range_set.proofs.chunk_builder.ChunkBuilder.+put_all.Goals as goal

pub put_all-requires : goal.put_all-requires
put_all-requires g t c κs within =
    let old = built c.args.self.now in
    let ranges = c.args.ranges.items in
    let part = c.chunk_len-part.result in
    let is = sym (take-append-drop part ranges) in
    let items = c.in_ok-rest.ensures.items in
    let all = subst (Ascend 0) (ap (λ rs. old ++ rs) is ∙ sym (append_assoc old (take part ranges) (drop part ranges))) c.requires.order in
    let order = subst (λ rs. Ascend 0 (old ++ rs)) (sym items) (ascend-prefix 0 (old ++ take part ranges) (drop part ranges) all) in
    let forward = subst AllForward (sym items) (forward_left (take part ranges) (drop part ranges) (subst AllForward is c.requires.forward)) in
    (omega (arith, ap length items, length-take part ranges, c.if-part-len.true, c.len.ensures, c.args.ranges.ok.0, c.decreases), (within, (c.requires.builder, (order, forward))))

pub put_all-requires-then-part-len : goal.put_all-requires-then-part-len
put_all-requires-then-part-len g t c κs within =
    let old = built c.args.self.now in
    let ranges = c.args.ranges.items in
    let part = c.chunk_len-part.result in
    let is = sym (take-append-drop part ranges) in
    let items = c.in_ok-rest.ensures.items in
    let tail = c.in_ok-rest.ensures.tail in
    let here = c.in_ok-put_all.ensures.ranges ∙ ap (λ rs. old ++ rs) items in
    let all = ap (λ rs. old ++ rs) is ∙ sym (append_assoc old (take part ranges) (drop part ranges)) ∙ ap (λ rs. rs ++ drop part ranges) (sym here) ∙ ap (λ rs. built c.put_all.new.self ++ rs) (sym tail) in
    let forward = subst AllForward (sym tail) (forward_right (take part ranges) (drop part ranges) (subst AllForward is c.requires.forward)) in
    let some = c.chunk_len-part.ensures.some (omega (arith, ap length c.deref.ensures.value, c.if-part-len.true, c.len.ensures, c.args.ranges.ok.0)) in
    (omega (arith, ap length tail, length-drop part ranges, c.if-part-len.true, c.len.ensures, c.args.ranges.ok.0, some, c.decreases), (within, (c.in_ok-put_all.ensures.builder, (subst (Ascend 0) all c.requires.order, forward))))

pub put_chunk-requires-clause-order : goal.put_chunk-requires-clause-order
put_chunk-requires-clause-order g t c = ascend-rest 0 (built c.args.self.now) c.args.ranges.items c.requires.order
