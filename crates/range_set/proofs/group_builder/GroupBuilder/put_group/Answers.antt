use Rattle.std.proofs.Common.{◌++◌, map, sym, ap, subst, ◌∙◌, refl, arith}
use Rattle.range_set.specs.PrivateChunks.{IsGroup, group_content, move, spread}
use Rattle.range_set.specs.PrivateBuilders.{grouped}
use Rattle.range_set.specs.declared.group.Group.{Group}
use Rattle.range_set.proofs.Builders.{grown_one, made_length}
use Rattle.range_set.proofs.Groups.{flat_some, spread-push}
use Rattle.range_set.proofs.group_builder.GroupBuilder.put_group.Goals as goal

pub push-requires-clause-group : goal.push-requires-clause-group
push-requires-clause-group g c =
    let made = c.in_ok-placed.placed in
    subst (λ n. IsGroup g.T.RangeValue.rules n (group_content made)) (sym c.in_ok-placed.ensures.place) c.in_ok-placed.ensures.group

pub push-requires-clause-some : goal.push-requires-clause-some
push-requires-clause-some g c =
    let rules = g.T.RangeValue.rules in
    let chunks = c.args.chunks.items in
    let n = made_length rules c.in-Some.first.now.start (group_content c.in_ok-placed.placed).chunks chunks (c.in_ok-placed.ensures.chunks ∙ c.trim.ensures) in
    let some = flat_some rules chunks c.requires.chunks (let i = c.in-Some.ensures.item in omega (arith, i)) in
    omega (arith, n, some)

pub push-requires-clause-room : goal.push-requires-clause-room
push-requires-clause-room g c =
    let n = made_length g.T.RangeValue.rules c.in-Some.first.now.start (group_content c.in_ok-placed.placed).chunks c.args.chunks.items (c.in_ok-placed.ensures.chunks ∙ c.trim.ensures) in
    let room = c.requires.room in
    omega (arith, n, room)

pub overflow_add-self : goal.overflow_add-self
overflow_add-self g c =
    let n = made_length g.T.RangeValue.rules c.in-Some.first.now.start (group_content c.in_ok-placed.placed).chunks c.args.chunks.items (c.in_ok-placed.ensures.chunks ∙ c.trim.ensures) in
    let k = ap (λ (x : Group g.row.T.Denot). x.count) c.deref-2.ensures in
    let len = c.requires.builder.len in
    let count = c.in_ok-placed.ensures.group.count in
    let room = c.requires.room in
    omega (arith, n, k, len, count, room)

pub returns-clause-builder : goal.returns-clause-builder
returns-clause-builder g c =
    let rules = g.T.RangeValue.rules in
    let made = c.in_ok-placed.placed in
    let chunks = c.args.chunks.items in
    let n = made_length rules c.in-Some.first.now.start (group_content made).chunks chunks (c.in_ok-placed.ensures.chunks ∙ c.trim.ensures) in
    let k = ap (λ (x : Group g.row.T.Denot). x.count) c.deref-2.ensures in
    let some = flat_some rules chunks c.requires.chunks (let i = c.in-Some.ensures.item in omega (arith, i)) in
    let room = c.requires.room in
    let count = c.in_ok-placed.ensures.group.count in
    grown_one rules c.args.self.now _ made c.deref-2.result.now.count c.requires.builder c.in_ok-push.ensures refl refl (omega (arith, count, k))
    (subst (λ n. IsGroup rules n (group_content made)) (sym c.in_ok-placed.ensures.place) c.in_ok-placed.ensures.group) (omega (arith, n, some)) (omega (arith, n, room))

pub returns-clause-ranges : goal.returns-clause-ranges
returns-clause-ranges g c =
    let old = c.args.self.now in
    let made = c.in_ok-placed.placed in
    ap spread c.in_ok-push.ensures
    ∙ (spread-push old.done made
    ∙ (ap (λ n. grouped old ++ map (move n) (group_content made).chunks) c.in_ok-placed.ensures.place
    ∙ ap (λ ps. grouped old ++ ps) (c.in_ok-placed.ensures.chunks ∙ c.trim.ensures)))
