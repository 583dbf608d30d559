use Rattle.std.proofs.Common.{◌≡◌, ◌-◌, ◌≤◌, ◌<◌, ◌||◌, max, List, length, get_or, map, take, ap, sym, subst, ◌∙◌, arith}
use Rattle.std.proofs.lemmas.List.{take_all, take_at}
use Rattle.std.proofs.lemmas.List.Folds.{list_any_more}
use Rattle.std.specs.List.{list_any}
use Rattle.range_set.specs.Mapping.{is_turned}
use Rattle.range_set.specs.Points.{stands}
use Rattle.range_set.specs.PrivateChunks.{greatest_end, shift}
use Rattle.range_set.proofs.Chunks.{counted_from}
use Rattle.range_set.proofs.Whole.{ascend_at, counted_back, forward_at_item, item_at, reach_more, whole_chunk, written, written-all}
use Rattle.range_set.proofs.chunk.Chunk.of.Goals as goal

pub overflow_sub-range : goal.overflow_sub-range
overflow_sub-range g c =
    let olds = c.args.ranges.items in
    let i = c.loop-range.range-index in
    let x = c.range-item.result in
    let lt : i < length olds = subst (λ (rs : List _). i < length rs) c.deref_mut-range-items.ensures.value c.loop-range-test.true in
    let is = item_at (counted_from g.T.RangeValue.rules c.args.start) c.loop-range.range-items olds i x c.loop-range.invariant.items lt in
    let from = ap (λ r. r.from) is in
    let k = ascend_at c.args.start olds i x lt c.requires.order in
    omega (arith, from, k)

pub overflow_sub-range-in-loop-range : goal.overflow_sub-range-in-loop-range
overflow_sub-range-in-loop-range g c =
    let olds = c.args.ranges.items in
    let i = c.loop-range.range-index in
    let x = c.range-item.result in
    let lt : i < length olds = subst (λ (rs : List _). i < length rs) c.deref_mut-range-items.ensures.value c.loop-range-test.true in
    let is = item_at (counted_from g.T.RangeValue.rules c.args.start) c.loop-range.range-items olds i x c.loop-range.invariant.items lt in
    let to = ap (λ r. r.to) is in
    let k = ascend_at c.args.start olds i x lt c.requires.order in
    let l = forward_at_item olds i x lt c.requires.forward in
    omega (arith, to, k, l)

pub loop-range-preserved : goal.loop-range-preserved
loop-range-preserved g c =
    let rules = g.T.RangeValue.rules in
    let olds = c.args.ranges.items in
    let i = c.loop-range.range-index in
    let x = c.range-item.result in
    let start = c.args.start in
    let at = c.loop-range.invariant in
    let lt : i < length olds = subst (λ (rs : List _). i < length rs) c.deref_mut-range-items.ensures.value c.loop-range-test.true in
    let is = item_at (counted_from rules start) c.loop-range.range-items olds i x at.items lt in
    let most : c.max-reach.result ≡ max c.loop-range.reach ((get_or c.loop-range.range-items i x).to - start) = c.max-reach.ensures in
    record {
      items = written (counted_from rules start) c.loop-range.range-items olds i x at.items lt;
      reach = most ∙ (ap (λ n. max n ((get_or c.loop-range.range-items i x).to - start)) at.reach
          ∙ (ap (λ r. max (greatest_end (map (counted_from rules start) (take i olds))) (r.to - start)) is ∙ sym (reach_more rules start olds i x lt)));
      fits =
          let k = at.fits in
          let to = ap (λ r. r.to) is in
          let l = ascend_at start olds i x lt c.requires.order in
          let n = forward_at_item olds i x lt c.requires.forward in
          let o = ap (λ r. r.to) c.range-item.is in
          omega (arith, most, k, to, l, n, o);
      turned = ap (λ b. c.loop-range.is_turned || b) c.is_turned-is_turned.ensures ∙ (ap (λ b. b || is_turned rules (get_or c.loop-range.range-items i x)) at.turned
          ∙ (ap (λ r. list_any (is_turned rules) (take i olds) || is_turned rules r) is ∙ sym (list_any_more (is_turned rules) olds i x lt)));
      points = ap (λ b. c.loop-range.has_point || b) c.is_point-has_point.ensures ∙ (ap (λ b. b || stands rules (get_or c.loop-range.range-items i x)) at.points
          ∙ (ap (λ r. list_any (stands rules) (take i olds) || stands rules r) is ∙ sym (list_any_more (stands rules) olds i x lt)));
    }

pub returns-clause-chunk : goal.returns-clause-chunk
returns-clause-chunk g c =
    let rules = g.T.RangeValue.rules in
    let olds = c.args.ranges.items in
    let i = c.loop-range.range-index in
    let at = c.loop-range.invariant in
    let n = ap length c.deref_mut-range-items.ensures.value in
    let last : length olds ≤ i = let k = c.loop-range-test.false in omega (arith, k, n) in
    let all = take_all i olds last in
    let is = written-all (counted_from rules c.args.start) c.loop-range.range-items olds i at.items last in
    let m : length c.loop-range.range-items ≡ c.args.ranges.len = let k = c.args.ranges.ok.0 in let l = c.loop-range.auto.range-items in omega (arith, k, l, n) in
    let back = take_at c.loop-range.range-items _ c.args.ranges.len m in
    whole_chunk rules c.args.start _ olds (back ∙ is) c.requires.few c.requires.first c.requires.order c.requires.forward
    (at.reach ∙ ap (λ rs. greatest_end (map (counted_from rules c.args.start) rs)) all)
    (at.turned ∙ ap (list_any (is_turned rules)) all) (at.points ∙ ap (list_any (stands rules)) all) at.fits

pub returns-clause-ranges : goal.returns-clause-ranges
returns-clause-ranges g c =
    let rules = g.T.RangeValue.rules in
    let olds = c.args.ranges.items in
    let i = c.loop-range.range-index in
    let n = ap length c.deref_mut-range-items.ensures.value in
    let last : length olds ≤ i = let k = c.loop-range-test.false in omega (arith, k, n) in
    let is = written-all (counted_from rules c.args.start) c.loop-range.range-items olds i c.loop-range.invariant.items last in
    let m : length c.loop-range.range-items ≡ c.args.ranges.len = let k = c.args.ranges.ok.0 in let l = c.loop-range.auto.range-items in omega (arith, k, l, n) in
    ap (map (shift c.args.start)) (take_at c.loop-range.range-items _ c.args.ranges.len m ∙ is) ∙ counted_back rules c.args.start olds c.requires.order c.requires.forward
