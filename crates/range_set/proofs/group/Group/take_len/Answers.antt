use Rattle.std.proofs.Common.{◌≡◌, List, length, ap, refl, sym, subst, ◌∙◌, arith}
use Rattle.std.proofs.lemmas.List.{take_at}
use Rattle.range_set.specs.PrivateChunks.{AreChunks, flat, greatest_end, group_plain}
use Rattle.range_set.specs.declared.chunk.Placed.{Placed}
use Rattle.range_set.proofs.Groups.{hull_grown, lengthened_none, regrown_group, without_grown}
use Rattle.range_set.proofs.group.Group.take_len.Goals as goal

pub overflow_sub-self : goal.overflow_sub-self
overflow_sub-self g c =
    let items = c.as_mut_slice.ensures.value in
    let some = c.in-len1.len_at_least in
    let hull = hull_grown g.T.RangeValue.rules c.as_mut_slice.result.now c.index-only-0.result (omega (arith, some)) (subst (AreChunks g.T.RangeValue.rules) (sym items) c.requires.chunks) in
    let reach = c.requires.reach in
    let same = ap (λ (ps : List (Placed g.row.T.Denot)). greatest_end (flat ps)) items in
    omega (arith, hull, reach, same)

pub returns-else-not-is_far-clause-group : goal.returns-else-not-is_far-clause-group
returns-else-not-is_far-clause-group g c =
    let was = c.args.self.now in
    let xs = c.as_mut_slice.result.now in
    let items = c.as_mut_slice.ensures.value in
    let least = c.in-len1.len_at_least in
    let below = c.in-len1.len_below in
    let n = ap length items in
    let hull = hull_grown g.T.RangeValue.rules xs c.index-only-0.result (omega (arith, least)) (subst (AreChunks g.T.RangeValue.rules) (sym items) c.requires.chunks) in
    let reach = c.requires.reach in
    let same = ap (λ (ps : List (Placed g.row.T.Denot)). greatest_end (flat ps)) items in
    let ok = was.chunks.ok.0 in
    regrown_group g.T.RangeValue.rules c.args.start (group_plain was) _ c.requires (λ some. omega (arith, n, below))
    (without_grown xs _ c.index-only-0.result was.chunks.len (omega (arith, least, below)) (omega (arith, least, below, n, ok)) ∙ items) refl (omega (arith, hull, reach, same)) refl refl

pub returns-else-this-lt2-clause-group : goal.returns-else-this-lt2-clause-group
returns-else-this-lt2-clause-group g c =
    let was = c.args.self.now in
    let xs = c.as_mut_slice.result.now in
    let n = ap length c.as_mut_slice.ensures.value in
    let m : length xs ≡ was.chunks.len = let k = was.chunks.ok.0 in omega (arith, k, n) in
    let items = take_at xs _ was.chunks.len m ∙ c.as_mut_slice.ensures.value in
    regrown_group g.T.RangeValue.rules c.args.start (group_plain was) _ c.requires (λ some. absurd (omega (arith, some))) (lengthened_none _ ∙ items) refl (omega arith) refl refl

pub returns-else-this-lt2-clause-chunks : goal.returns-else-this-lt2-clause-chunks
returns-else-this-lt2-clause-chunks g c =
    let was = c.args.self.now in
    let xs = c.as_mut_slice.result.now in
    let n = ap length c.as_mut_slice.ensures.value in
    let m : length xs ≡ was.chunks.len = let k = was.chunks.ok.0 in omega (arith, k, n) in
    lengthened_none _ ∙ (take_at xs _ was.chunks.len m ∙ c.as_mut_slice.ensures.value)
