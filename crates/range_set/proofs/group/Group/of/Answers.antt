use Rattle.std.proofs.Common.{◌≡◌, ◌+◌, ◌-◌, ◌≤◌, ◌<◌, ◌||◌, max, List, length, get_or, map, take, drop, refl, ap, sym, subst, ◌∙◌, arith}
use Rattle.std.proofs.lemmas.List.{length-append, length-map, take_all, take_at, take-append-drop}
use Rattle.std.specs.List.{list_any}
use Rattle.range_set.specs.Mapping.{is_turned}
use Rattle.range_set.specs.Points.{stands}
use Rattle.range_set.specs.PrivateChunks.{content, flat, greatest_end, grow, move}
use Rattle.range_set.specs.declared.chunk.Chunk.{Chunk}
use Rattle.range_set.proofs.Chunks.{flat-append}
use Rattle.range_set.proofs.Groups.{counted_chunk}
use Rattle.range_set.proofs.Whole.{item_at, written, written-all}
use Rattle.range_set.proofs.WholeGroups.{chunk_item, chunks_back, count_more, group_reach_more, placed_at, points_more, turned_more, whole_group}
use Rattle.range_set.proofs.group.Group.of.Goals as goal

pub overflow_sub-from : goal.overflow_sub-from
overflow_sub-from g c =
    let rules = g.T.RangeValue.rules in
    let olds = c.args.chunks.items in
    let i = c.loop-placed.placed-index in
    let x = c.placed-item.result in
    let lt : i < length olds = subst (λ (ps : List _). i < length ps) c.deref_mut-placed-items.ensures.value c.loop-placed-test.true in
    let from = ap (λ p. p.start) (item_at (counted_chunk rules c.args.start) c.loop-placed.placed-items olds i x c.loop-placed.invariant.items lt) in
    let k = placed_at rules c.args.start olds i x lt c.requires.chunks c.requires.order in
    omega (arith, from, k)

pub overflow_add-count : goal.overflow_add-count
overflow_add-count g c =
    let rules = g.T.RangeValue.rules in
    let olds = c.args.chunks.items in
    let i = c.loop-placed.placed-index in
    let x = c.placed-item.result in
    let lt : i < length olds = subst (λ (ps : List _). i < length ps) c.deref_mut-placed-items.ensures.value c.loop-placed-test.true in
    let is = item_at (counted_chunk rules c.args.start) c.loop-placed.placed-items olds i x c.loop-placed.invariant.items lt in
    let at_item = get_or c.loop-placed.placed-items i x in
    let len = c.len-count.ensures ∙ (c.deref.result.now.ranges.ok.0 ∙ (ap (λ (ch : Chunk g.row.T.Denot). length ch.ranges.items) c.deref.ensures
    ∙ (sym (length-map at_item.chunk.value.ranges.items (grow at_item.grown)) ∙ ap (λ p. length (content p).ranges) is))) in
    let more = count_more rules olds i x lt in
    let parts = ap (λ ps. length (flat ps)) (sym (take-append-drop (i + 1) olds)) ∙ (ap length (flat-append (take (i + 1) olds) (drop (i + 1) olds)) ∙ length-append (flat (take (i + 1) olds)) (flat (drop (i + 1) olds))) in
    let room = c.requires.room in
    let count = c.loop-placed.invariant.count in
    omega (arith, len, more, parts, room, count)

pub overflow_add-from : goal.overflow_add-from
overflow_add-from g c =
    let rules = g.T.RangeValue.rules in
    let olds = c.args.chunks.items in
    let i = c.loop-placed.placed-index in
    let x = c.placed-item.result in
    let lt : i < length olds = subst (λ (ps : List _). i < length ps) c.deref_mut-placed-items.ensures.value c.loop-placed-test.true in
    let is = item_at (counted_chunk rules c.args.start) c.loop-placed.placed-items olds i x c.loop-placed.invariant.items lt in
    let from = ap (λ p. p.start) is in
    let reach = c.reach.ensures ∙ ap (λ p. (content p).reach) is in
    let fits = (chunk_item rules olds i x lt c.requires.chunks).0.fits in
    omega (arith, from, reach, fits)

pub reach-requires : goal.reach-requires
reach-requires g c =
    let rules = g.T.RangeValue.rules in
    let olds = c.args.chunks.items in
    let i = c.loop-placed.placed-index in
    let x = c.placed-item.result in
    let lt : i < length olds = subst (λ (ps : List _). i < length ps) c.deref_mut-placed-items.ensures.value c.loop-placed-test.true in
    let reach = ap (λ p. (content p).reach) (item_at (counted_chunk rules c.args.start) c.loop-placed.placed-items olds i x c.loop-placed.invariant.items lt) in
    let fits = (chunk_item rules olds i x lt c.requires.chunks).0.fits in
    omega (arith, reach, fits)

pub loop-placed-preserved : goal.loop-placed-preserved
loop-placed-preserved g c =
    let rules = g.T.RangeValue.rules in
    let olds = c.args.chunks.items in
    let i = c.loop-placed.placed-index in
    let x = c.placed-item.result in
    let start = c.args.start in
    let at = c.loop-placed.invariant in
    let lt : i < length olds = subst (λ (ps : List _). i < length ps) c.deref_mut-placed-items.ensures.value c.loop-placed-test.true in
    let is = item_at (counted_chunk rules start) c.loop-placed.placed-items olds i x at.items lt in
    let chunk = chunk_item rules olds i x lt c.requires.chunks in
    let at_item = get_or c.loop-placed.placed-items i x in
    let len = c.len-count.ensures ∙ (c.deref.result.now.ranges.ok.0 ∙ (ap (λ (ch : Chunk g.row.T.Denot). length ch.ranges.items) c.deref.ensures
    ∙ (sym (length-map at_item.chunk.value.ranges.items (grow at_item.grown)) ∙ ap (λ p. length (content p).ranges) is))) in
    let more = count_more rules olds i x lt in
    let from = ap (λ p. p.start) is in
    let reach = c.reach.ensures ∙ ap (λ p. (content p).reach) is in
    let most : c.max-reach.result ≡ max c.loop-placed.reach ((get_or c.loop-placed.placed-items i x).start - start + c.reach.result) = c.max-reach.ensures in
    record {
      items = written (counted_chunk rules start) c.loop-placed.placed-items olds i x at.items lt;
      count = let k = at.count in omega (arith, k, len, more);
      reach = let k = at.reach in let m = group_reach_more rules start olds i x lt chunk.0 chunk.1 in omega (arith, most, from, reach, k, m);
      fits =
          let k = at.fits in
          let l = placed_at rules start olds i x lt c.requires.chunks c.requires.order in
          let m = chunk.0.fits in
          omega (arith, most, from, reach, k, l, m);
      turned = ap (λ b. c.loop-placed.is_turned || b) (ap (λ (ch : Chunk g.row.T.Denot). ch.is_turned) c.deref-in-loop-placed.ensures ∙ ap (λ p. (content p).is_turned) is) ∙ (ap (λ b. b || (content (get_or olds i x)).is_turned) at.turned ∙ sym (turned_more rules olds i x lt chunk.0));
      points = ap (λ b. c.loop-placed.has_point || b) (ap (λ (ch : Chunk g.row.T.Denot). ch.has_point) c.deref-in-loop-placed-2.ensures ∙ ap (λ p. (content p).has_point) is) ∙ (ap (λ b. b || (content (get_or olds i x)).has_point) at.points ∙ sym (points_more rules olds i x lt chunk.0));
    }

pub returns-clause-group : goal.returns-clause-group
returns-clause-group g c =
    let rules = g.T.RangeValue.rules in
    let olds = c.args.chunks.items in
    let i = c.loop-placed.placed-index in
    let at = c.loop-placed.invariant in
    let n = ap length c.deref_mut-placed-items.ensures.value in
    let last : length olds ≤ i = let k = c.loop-placed-test.false in omega (arith, k, n) in
    let all = take_all i olds last in
    let is = written-all (counted_chunk rules c.args.start) c.loop-placed.placed-items olds i at.items last in
    let m : length c.loop-placed.placed-items ≡ c.args.chunks.len = let k = c.args.chunks.ok.0 in let l = c.loop-placed.auto.placed-items in omega (arith, k, l, n) in
    let back = take_at c.loop-placed.placed-items (drop (length c.loop-placed.placed-items) olds) c.args.chunks.len m in
    whole_group rules c.args.start _ olds refl (back ∙ is) c.requires.few c.requires.chunks c.requires.first (at.count ∙ ap (λ ps. length (flat ps)) all)
    (at.reach ∙ ap (λ ps. greatest_end (flat (map (counted_chunk rules c.args.start) ps))) all)
    (at.turned ∙ ap (λ ps. list_any (is_turned rules) (flat ps)) all) (at.points ∙ ap (λ ps. list_any (stands rules) (flat ps)) all) at.fits

pub returns-clause-chunks : goal.returns-clause-chunks
returns-clause-chunks g c =
    let rules = g.T.RangeValue.rules in
    let olds = c.args.chunks.items in
    let i = c.loop-placed.placed-index in
    let n = ap length c.deref_mut-placed-items.ensures.value in
    let last : length olds ≤ i = let k = c.loop-placed-test.false in omega (arith, k, n) in
    let is = written-all (counted_chunk rules c.args.start) c.loop-placed.placed-items olds i c.loop-placed.invariant.items last in
    let m : length c.loop-placed.placed-items ≡ c.args.chunks.len = let k = c.args.chunks.ok.0 in let l = c.loop-placed.auto.placed-items in omega (arith, k, l, n) in
    ap (map (move c.args.start)) (take_at c.loop-placed.placed-items (drop (length c.loop-placed.placed-items) olds) c.args.chunks.len m ∙ is)
    ∙ chunks_back rules c.args.start olds c.requires.chunks c.requires.order
