use Rattle.std.proofs.Common.{◌≡◌, ◌+◌, ◌-◌, ◌≤◌, ◌<◌, ◌||◌, max, List, length, get_or, map, take, drop, ap, sym, subst, ◌∙◌, arith}
use Rattle.std.proofs.lemmas.List.{length-append, take_all, take_at, take-append-drop}
use Rattle.std.specs.List.{list_any}
use Rattle.range_set.specs.Mapping.{is_turned}
use Rattle.range_set.specs.Points.{stands}
use Rattle.range_set.specs.PrivateChunks.{flat, greatest_end, group_content, spread}
use Rattle.range_set.specs.PrivatePages.{further}
use Rattle.range_set.specs.declared.group.Group.{Group}
use Rattle.range_set.proofs.Groups.{flat-spread_append}
use Rattle.range_set.proofs.Whole.{item_at, written, written-all}
use Rattle.range_set.proofs.WholePages.{count_more, counted_group, group_item, groups_back, page_reach_more, points_more, turned_more, whole_page}
use Rattle.range_set.proofs.page.Page.of.Goals as goal

pub overflow_sub-from : goal.overflow_sub-from
overflow_sub-from g c =
    let rules = g.T.RangeValue.rules in
    let olds = c.args.groups.items in
    let i = c.loop-placed.placed-index in
    let x = c.placed-item.result in
    let lt : i < length olds = subst (λ (ps : List _). i < length ps) c.deref_mut-placed-items.ensures.value c.loop-placed-test.true in
    let from = ap (λ p. p.start) (item_at (counted_group rules c.args.start) c.loop-placed.placed-items olds i x c.loop-placed.invariant.items lt) in
    let k = c.requires.after i x lt in
    omega (arith, from, k)

pub overflow_add-count : goal.overflow_add-count
overflow_add-count g c =
    let rules = g.T.RangeValue.rules in
    let olds = c.args.groups.items in
    let i = c.loop-placed.placed-index in
    let x = c.placed-item.result in
    let lt : i < length olds = subst (λ (ps : List _). i < length ps) c.deref_mut-placed-items.ensures.value c.loop-placed-test.true in
    let is = item_at (counted_group rules c.args.start) c.loop-placed.placed-items olds i x c.loop-placed.invariant.items lt in
    let len = ap (λ (x : Group g.row.T.Denot). x.count) c.deref.ensures ∙ (ap (λ p. (group_content p).count) is ∙ (group_item rules olds i x lt c.requires.groups).0.count) in
    let more = count_more rules olds i x lt in
    let parts = ap (λ ps. length (flat (spread ps))) (sym (take-append-drop (i + 1) olds))
    ∙ (ap length (flat-spread_append (take (i + 1) olds) (drop (i + 1) olds)) ∙ length-append (flat (spread (take (i + 1) olds))) (flat (spread (drop (i + 1) olds)))) in
    let room = c.requires.room in
    let count = c.loop-placed.invariant.count in
    omega (arith, len, more, parts, room, count)

pub overflow_add-from : goal.overflow_add-from
overflow_add-from g c =
    let rules = g.T.RangeValue.rules in
    let olds = c.args.groups.items in
    let i = c.loop-placed.placed-index in
    let x = c.placed-item.result in
    let lt : i < length olds = subst (λ (ps : List _). i < length ps) c.deref_mut-placed-items.ensures.value c.loop-placed-test.true in
    let is = item_at (counted_group rules c.args.start) c.loop-placed.placed-items olds i x c.loop-placed.invariant.items lt in
    let from = ap (λ p. p.start) is in
    let reach = c.reach.ensures ∙ ap (λ p. (group_content p).reach) is in
    let fits = (group_item rules olds i x lt c.requires.groups).0.fits in
    omega (arith, from, reach, fits)

pub reach-requires : goal.reach-requires
reach-requires g c =
    let rules = g.T.RangeValue.rules in
    let olds = c.args.groups.items in
    let i = c.loop-placed.placed-index in
    let x = c.placed-item.result in
    let lt : i < length olds = subst (λ (ps : List _). i < length ps) c.deref_mut-placed-items.ensures.value c.loop-placed-test.true in
    let reach = ap (λ p. (group_content p).reach) (item_at (counted_group rules c.args.start) c.loop-placed.placed-items olds i x c.loop-placed.invariant.items lt) in
    let fits = (group_item rules olds i x lt c.requires.groups).0.fits in
    omega (arith, reach, fits)

pub loop-placed-preserved : goal.loop-placed-preserved
loop-placed-preserved g c =
    let rules = g.T.RangeValue.rules in
    let olds = c.args.groups.items in
    let i = c.loop-placed.placed-index in
    let x = c.placed-item.result in
    let start = c.args.start in
    let at = c.loop-placed.invariant in
    let lt : i < length olds = subst (λ (ps : List _). i < length ps) c.deref_mut-placed-items.ensures.value c.loop-placed-test.true in
    let is = item_at (counted_group rules start) c.loop-placed.placed-items olds i x at.items lt in
    let group = group_item rules olds i x lt c.requires.groups in
    let len = ap (λ (x : Group g.row.T.Denot). x.count) c.deref.ensures ∙ (ap (λ p. (group_content p).count) is ∙ group.0.count) in
    let more = count_more rules olds i x lt in
    let from = ap (λ p. p.start) is in
    let reach = c.reach.ensures ∙ ap (λ p. (group_content p).reach) is in
    let most : c.max-reach.result ≡ max c.loop-placed.reach ((get_or c.loop-placed.placed-items i x).start - start + c.reach.result) = c.max-reach.ensures in
    record {
      items = written (counted_group rules start) c.loop-placed.placed-items olds i x at.items lt;
      count = let k = at.count in omega (arith, k, len, more);
      reach = let k = at.reach in let m = page_reach_more rules start olds i x lt group.0 group.1 in omega (arith, most, from, reach, k, m);
      fits =
          let k = at.fits in
          let l = c.requires.after i x lt in
          let m = group.0.fits in
          omega (arith, most, from, reach, k, l, m);
      turned = ap (λ b. c.loop-placed.is_turned || b) (ap (λ (x : Group g.row.T.Denot). x.is_turned) c.deref-in-loop-placed.ensures ∙ ap (λ p. (group_content p).is_turned) is) ∙ (ap (λ b. b || (group_content (get_or olds i x)).is_turned) at.turned ∙ sym (turned_more rules olds i x lt group.0));
      points = ap (λ b. c.loop-placed.has_point || b) (ap (λ (x : Group g.row.T.Denot). x.has_point) c.deref-in-loop-placed-2.ensures ∙ ap (λ p. (group_content p).has_point) is) ∙ (ap (λ b. b || (group_content (get_or olds i x)).has_point) at.points ∙ sym (points_more rules olds i x lt group.0));
    }

pub returns-clause-page : goal.returns-clause-page
returns-clause-page g c =
    let rules = g.T.RangeValue.rules in
    let olds = c.args.groups.items in
    let i = c.loop-placed.placed-index in
    let at = c.loop-placed.invariant in
    let n = ap length c.deref_mut-placed-items.ensures.value in
    let last : length olds ≤ i = let k = c.loop-placed-test.false in omega (arith, k, n) in
    let all = take_all i olds last in
    let is = written-all (counted_group rules c.args.start) c.loop-placed.placed-items olds i at.items last in
    let m : length c.loop-placed.placed-items ≡ c.args.groups.len = let k = c.args.groups.ok.0 in let l = c.loop-placed.auto.placed-items in omega (arith, k, l, n) in
    let back = take_at c.loop-placed.placed-items (drop (length c.loop-placed.placed-items) olds) c.args.groups.len m in
    whole_page rules c.args.start _ olds (back ∙ is) c.requires (at.count ∙ ap (λ ps. length (flat (spread ps))) all)
    (at.reach ∙ ap (λ ps. greatest_end (flat (spread (map (counted_group rules c.args.start) ps)))) all)
    (at.turned ∙ ap (λ ps. list_any (is_turned rules) (flat (spread ps))) all) (at.points ∙ ap (λ ps. list_any (stands rules) (flat (spread ps))) all) at.fits

pub returns-clause-groups : goal.returns-clause-groups
returns-clause-groups g c =
    let rules = g.T.RangeValue.rules in
    let olds = c.args.groups.items in
    let i = c.loop-placed.placed-index in
    let n = ap length c.deref_mut-placed-items.ensures.value in
    let last : length olds ≤ i = let k = c.loop-placed-test.false in omega (arith, k, n) in
    let is = written-all (counted_group rules c.args.start) c.loop-placed.placed-items olds i c.loop-placed.invariant.items last in
    let m : length c.loop-placed.placed-items ≡ c.args.groups.len = let k = c.args.groups.ok.0 in let l = c.loop-placed.auto.placed-items in omega (arith, k, l, n) in
    ap (map (further c.args.start)) (take_at c.loop-placed.placed-items (drop (length c.loop-placed.placed-items) olds) c.args.groups.len m ∙ is)
    ∙ groups_back rules c.args.start olds c.requires.after
