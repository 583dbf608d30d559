use Rattle.std.proofs.Common.{◌+◌, ◌<◌, ◌^◌, [], ◌∷◌, ◌++◌, length, map, ap, sym, subst, ◌∙◌, arith}
use Rattle.std.proofs.lemmas.List.{append-nil, length-append}
use Rattle.range_set.specs.PrivateChunks.{Ascend, flat, group_content, move, put_at, shift, spread}
use Rattle.range_set.specs.PrivateBuilders.{grouped}
use Rattle.range_set.specs.PrivatePages.{further}
use Rattle.range_set.proofs.CarriedPages.{page_room}
use Rattle.range_set.proofs.Chunks.{ascend-rest, flat-append, length_shifted}
use Rattle.range_set.proofs.Groups.{flat-spread, flat-spread_append, length_moved}
use Rattle.range_set.proofs.Pages.{length_further}
use Rattle.range_set.proofs.SharedBefore.{before_more, under_next}
use Rattle.range_set.proofs.group_builder.GroupBuilder.share_before.Goals as goal

pub put_page-requires-clause-room : goal.put_page-requires-clause-room
put_page-requires-clause-room g c =
    let p = c.in-Some.placed.now in
    let room = subst (λ gs. length (flat (grouped c.loop-placed.self)) + length (flat (spread gs)) < 2 ^ 64) c.in-Some.ensures.is c.loop-placed.invariant.room in
    let n = page_room g.T.RangeValue.rules p.start p.page.value.groups.items c.in-Some.others in
    omega (arith, room, n)

pub loop-placed-preserved-then-begins_before : goal.loop-placed-preserved-then-begins_before
loop-placed-preserved-then-begins_before g c =
    let rules = g.T.RangeValue.rules in
    let place = c.args.place in
    let p = c.in-Some.placed.now in
    let gs = map (further p.start) p.page.value.groups.items in
    let others = c.in-Some.others in
    let here = grouped c.loop-placed.self in
    let at = c.loop-placed.invariant in
    let put = c.in_ok-put_page.ensures.ranges in
    let room = subst (λ hs. length (flat here) + length (flat (spread hs)) < 2 ^ 64) c.in-Some.ensures.is at.room in
    let n = page_room rules p.start p.page.value.groups.items others in
    let k = ap (λ ps. length (flat ps)) put ∙ (ap length (flat-append here (spread gs)) ∙ length-append (flat here) (flat (spread gs))) in
    let l = length_further rules p.start p.page.value.groups.items in
    let ascend = subst (Ascend 0) (flat-spread_append gs others) (subst (λ hs. Ascend 0 (flat (spread hs))) c.in-Some.ensures.is at.ascend) in
    let under = under_next rules place 0 (flat (spread gs)) others (c.begins_before.ensures c.if-begins_before.true) ascend in
    record {
      builder = c.in_ok-put_page.ensures.builder;
      ascend = ascend-rest 0 (flat (spread gs)) (flat (spread others)) ascend;
      room = omega (arith, room, n, k, l);
      shared = before_more place c.args.groups c.loop-placed.rest gs others (grouped c.args.self.now) here _ at.shared c.in-Some.ensures.is under put;
    }

pub share-requires-clause-room : goal.share-requires-clause-room
share-requires-clause-room g c =
    let p = put_at c.in-Some-split_first.start c.in-Some-split_first.placed.now in
    let others = c.in-Some-split_first.others in
    let room = subst (λ gs. length (flat (grouped c.loop-placed.self)) + length (flat (spread gs)) < 2 ^ 64) c.in-Some-split_first.ensures.some.is c.loop-placed.invariant.room in
    let n = ap length (flat-spread p others) ∙ length-append (map (shift p.start) (flat (group_content p).chunks)) (flat (spread others)) in
    let m = length_shifted g.T.RangeValue.rules p.start (flat (group_content p).chunks) in
    omega (arith, room, n, m)

pub loop-placed-preserved : goal.loop-placed-preserved
loop-placed-preserved g c =
    let rules = g.T.RangeValue.rules in
    let place = c.args.place in
    let p = put_at c.in-Some-split_first.start c.in-Some-split_first.placed.now in
    let chunks = (group_content p).chunks in
    let others = c.in-Some-split_first.others in
    let here = grouped c.loop-placed.self in
    let at = c.loop-placed.invariant in
    let next = c.in-Some-split_first.ensures.some in
    let put = c.in_ok-share-in-Some-split_first.ensures.ranges in
    let room = subst (λ gs. length (flat here) + length (flat (spread gs)) < 2 ^ 64) next.is at.room in
    let n = ap length (flat-spread p others) ∙ length-append (map (shift p.start) (flat chunks)) (flat (spread others)) in
    let m = length_shifted rules p.start (flat chunks) in
    let k = ap (λ ps. length (flat ps)) put ∙ (ap length (flat-append here (map (move p.start) chunks)) ∙ length-append (flat here) (flat (map (move p.start) chunks))) in
    let l = length_moved rules p.start chunks in
    let ascend = subst (Ascend 0) (flat-spread_append (p ∷ []) others) (subst (λ hs. Ascend 0 (flat (spread hs))) next.is at.ascend) in
    let under = under_next rules place 0 (flat (spread (p ∷ []))) others (c.begins_before-in-Some-split_first.ensures c.if-not-begins_before.false) ascend in
    record {
      builder = c.in_ok-share-in-Some-split_first.ensures.builder;
      ascend = ascend-rest 0 (flat (spread (p ∷ []))) (flat (spread others)) ascend;
      room = omega (arith, room, n, m, k, l);
      shared = before_more place c.args.groups c.loop-placed.rest (p ∷ []) others (grouped c.args.self.now) here _ at.shared next.is under (put ∙ ap (λ ps. here ++ ps) (sym (append-nil (map (move p.start) chunks))));
    }
