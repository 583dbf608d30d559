use Rattle.std.proofs.Common.{◌++◌, ◌+◌, ◌<◌, ◌^◌, length, take, sym, ap, subst, ◌∙◌, arith}
use Rattle.std.proofs.lemmas.List.{take-append-drop}
use Rattle.range_set.specs.PrivateChunks.{Ascend, flat}
use Rattle.range_set.specs.PrivateBuilders.{grouped}
use Rattle.range_set.proofs.Builders.{are_cut}
use Rattle.range_set.proofs.Chunks.{ascend-rest, flat-append}
use Rattle.range_set.proofs.group_builder.GroupBuilder.+put_all.Goals as goal

pub put_all-requires : goal.put_all-requires
put_all-requires g t c κs within =
    let first = c.split_off.new.self in
    let rest = c.in_ok-rest.rest in
    let whole = ap (λ ps. ps ++ rest.items) c.in_ok-rest.ensures.items ∙ (ap (λ ps. take c.group_len-part.result c.args.chunks.items ++ ps) c.in_ok-rest.ensures.tail ∙ take-append-drop c.group_len-part.result c.args.chunks.items) in
    let cut = are_cut g.T.RangeValue.rules (grouped c.args.self.now) c.args.chunks.items first.items rest.items whole c.requires.chunks c.requires.room c.requires.order in
    (omega (arith, c.decreases, c.in_ok-rest.ensures.len, c.if-part-len.true, c.len.ensures), (within, (c.requires.builder, (cut.first, (cut.first_room, cut.first_order)))))

pub put_all-requires-then-part-len : goal.put_all-requires-then-part-len
put_all-requires-then-part-len g t c κs within =
    let first = c.split_off.new.self in
    let rest = c.in_ok-rest.rest in
    let whole = ap (λ ps. ps ++ rest.items) c.in_ok-rest.ensures.items ∙ (ap (λ ps. take c.group_len-part.result c.args.chunks.items ++ ps) c.in_ok-rest.ensures.tail ∙ take-append-drop c.group_len-part.result c.args.chunks.items) in
    let cut = are_cut g.T.RangeValue.rules (grouped c.args.self.now) c.args.chunks.items first.items rest.items whole c.requires.chunks c.requires.room c.requires.order in
    let some = c.group_len-part.ensures.some (omega (arith, ap length c.deref.ensures.value, c.if-part-len.true, c.len.ensures, c.args.chunks.ok.0)) in
    let put = sym c.in_ok-put_all.ensures.ranges in (
      omega (arith, c.decreases, c.in_ok-rest.ensures.tail_len, some),
      (
        within,
        (
          c.in_ok-put_all.ensures.builder,
          (
            cut.second,
            (
              subst (λ ps. length (flat ps) + length (flat rest.items) < 2 ^ 64) put cut.second_room,
              subst (λ ps. Ascend 0 (flat (ps ++ rest.items))) put cut.second_order,
            ),
          ),
        ),
      ),
    )

pub put_group-requires-clause-order : goal.put_group-requires-clause-order
put_group-requires-clause-order g t c =
    let old = grouped c.args.self.now in
    let chunks = c.args.chunks.items in
    ascend-rest 0 (flat old) (flat chunks) (subst (Ascend 0) (flat-append old chunks) c.requires.order)
