use Rattle.std.proofs.Common.{◌++◌, ◌+◌, ◌≤◌, ◌<◌, ◌^◌, map, length, sym, ap, subst, ◌∙◌, refl, arith}
use Rattle.range_set.specs.PrivateChunks.{GroupContent, IsGroup, flat, group_content, move, spread}
use Rattle.range_set.specs.PrivateBuilders.{grouped}
use Rattle.range_set.specs.declared.group.Group.{Group}
use Rattle.range_set.proofs.Builders.{grown_one}
use Rattle.range_set.proofs.Groups.{spread-push}
use Rattle.range_set.proofs.group_builder.GroupBuilder.share.Goals as goal

pub push_quick-requires : goal.push_quick-requires
push_quick-requires g c =
    let rules = g.T.RangeValue.rules in
    let one = c.in_ok-at.field-0 in
    let is = sym c.in_ok-at.ensures.content in
    record {
      group = subst (λ n. IsGroup rules n (group_content one)) (sym c.in_ok-at.ensures.place) (subst (IsGroup rules c.args.start) is c.requires.group);
      some = subst (λ (x : GroupContent g.row.T.Denot). 1 ≤ length (flat x.chunks)) is c.requires.some;
      room = subst (λ (x : GroupContent g.row.T.Denot). length (flat (grouped c.args.self.now)) + length (flat x.chunks) < 2 ^ 64) is c.requires.room;
    }

pub returns-clause-builder : goal.returns-clause-builder
returns-clause-builder g c =
    let rules = g.T.RangeValue.rules in
    let one = c.in_ok-at.field-0 in
    let is = sym c.in_ok-at.ensures.content in
    let n = ap (λ (x : Group g.row.T.Denot). x.count) c.deref.ensures in
    let k = ap (λ (x : GroupContent g.row.T.Denot). length (flat x.chunks)) is in
    let count = c.requires.group.count in
    grown_one rules c.args.self.now _ one c.deref.result.now.count c.requires.builder c.in_ok-push_quick.ensures refl refl (omega (arith, n, k, count))
    (subst (λ n. IsGroup rules n (group_content one)) (sym c.in_ok-at.ensures.place) (subst (IsGroup rules c.args.start) is c.requires.group))
    (subst (λ (x : GroupContent g.row.T.Denot). 1 ≤ length (flat x.chunks)) is c.requires.some)
    (subst (λ (x : GroupContent g.row.T.Denot). length (flat (grouped c.args.self.now)) + length (flat x.chunks) < 2 ^ 64) is c.requires.room)

pub returns-clause-ranges : goal.returns-clause-ranges
returns-clause-ranges g c =
    let old = c.args.self.now in
    let one = c.in_ok-at.field-0 in
    ap spread c.in_ok-push_quick.ensures
    ∙ (spread-push old.done one
    ∙ (ap (λ n. grouped old ++ map (move n) (group_content one).chunks) c.in_ok-at.ensures.place
    ∙ ap (λ (x : GroupContent g.row.T.Denot). grouped old ++ map (move c.args.start) x.chunks) c.in_ok-at.ensures.content))
