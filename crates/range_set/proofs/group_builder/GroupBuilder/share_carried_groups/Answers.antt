use Rattle.std.proofs.Common.{◌+◌, ◌<◌, ◌^◌, length, map, ap, sym, subst, ◌∙◌, arith}
use Rattle.std.proofs.lemmas.List.{length-append}
use Rattle.std.specs.List.{list_any}
use Rattle.change_desc.specs.Ranges.{meets}
use Rattle.range_set.specs.PrivateChunks.{AreGroups, Ascend, flat, group_content, shift, spread}
use Rattle.range_set.specs.PrivateBuilders.{grouped}
use Rattle.range_set.specs.PrivatePages.{further}
use Rattle.range_set.specs.declared.group.Group.{Group}
use Rattle.range_set.proofs.Carried.{shared_group}
use Rattle.range_set.proofs.CarriedPages.{left_shared, shared_none, shared_on}
use Rattle.range_set.proofs.Chunks.{length_shifted}
use Rattle.range_set.proofs.Groups.{begins, flat-spread}
use Rattle.range_set.proofs.group_builder.GroupBuilder.share_carried_groups.Goals as goal

pub loop-placed-init : goal.loop-placed-init
loop-placed-init g c = record {
  builder = c.requires.builder;
  groups = c.requires.groups;
  ascend = c.requires.ascend;
  fits = c.requires.fits;
  room = c.requires.room;
  shared = shared_none c.args.from c.args.to c.args.changed.now (map (further c.args.base) c.args.groups.now) (flat (grouped c.args.self.now));
}

pub overflow_sub-start : goal.overflow_sub-start
overflow_sub-start g c =
    let p = further c.args.base c.in-Some.placed.now in
    let others = map (further c.args.base) c.in-Some.others.now in
    let is = ap (map (further c.args.base)) c.in-Some.ensures.cases.0 in
    let groups = subst (AreGroups g.T.RangeValue.rules) is c.loop-placed.invariant.groups in
    let ascend = subst (λ gs. Ascend c.args.from (flat (spread gs))) is c.loop-placed.invariant.ascend in
    begins p.start c.args.from (flat (group_content p).chunks) (flat (spread others)) groups.0.1 groups.0.0.first (subst (Ascend c.args.from) (flat-spread p others) ascend)

pub share-requires-clause-room : goal.share-requires-clause-room
share-requires-clause-room g c =
    let p = further c.args.base c.in-Some.placed.now in
    let others = map (further c.args.base) c.in-Some.others.now in
    let is = ap (map (further c.args.base)) c.in-Some.ensures.cases.0 in
    let room = subst (λ gs. length (flat (grouped c.loop-placed.self)) + length (flat (spread gs)) < 2 ^ 64) is c.loop-placed.invariant.room in
    let n = ap length (flat-spread p others) ∙ length-append (map (shift p.start) (flat (group_content p).chunks)) (flat (spread others)) in
    let m = length_shifted g.T.RangeValue.rules p.start (flat (group_content p).chunks) in
    omega (arith, room, n, m)

pub loop-placed-preserved : goal.loop-placed-preserved
loop-placed-preserved g c =
    let from = c.args.from in
    let to = c.args.to in
    let changed = c.args.changed.now in
    let p = further c.args.base c.in-Some.placed.now in
    let others = map (further c.args.base) c.in-Some.others.now in
    let at = c.loop-placed.invariant in
    let is = ap (map (further c.args.base)) c.in-Some.ensures.cases.0 in
    let turned = sym (ap (λ (x : Group g.row.T.Denot). x.is_turned) c.deref.ensures) ∙ c.if-deref.false in
    let met = ap (λ n. list_any (meets from (p.start + n)) changed) (sym c.reach.ensures) ∙ (sym c.first_meets.ensures ∙ c.if-first_meets.false) in
    let one = shared_group from to changed (map (further c.args.base) c.loop-placed.rest.now) p others (grouped c.loop-placed.self) (grouped c.share.new.self) is turned met c.in_ok-share.ensures.ranges in
    let left = left_shared g.T.RangeValue.rules from to changed _ _ _ _ one at.ascend at.fits in
    let n = left.room in
    let most = at.room in
    record {
      builder = c.in_ok-share.ensures.builder;
      groups = (subst (AreGroups g.T.RangeValue.rules) is at.groups).1;
      ascend = left.ascend;
      fits = left.fits;
      room = omega (arith, n, most);
      shared = shared_on from to changed _ _ _ _ _ _ at.shared one;
    }
