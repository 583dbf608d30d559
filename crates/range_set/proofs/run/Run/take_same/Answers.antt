use Rattle.std.proofs.Common.{◌++◌, ◌≡◌, map, ap, sym, ◌∙◌, arith}
use Rattle.range_set.specs.PrivateChunks.{grow, shift}
use Rattle.range_set.proofs.Same.{fit_drop, fit_take, same_prefix}
use Rattle.range_set.proofs.run.Run.take_same.Goals as goal

pub same_at-requires-clause-left_fits : goal.same_at-requires-clause-left_fits
same_at-requires-clause-left_fits g c =
    let at = c.self.inside in
    rw c.split_at.ensures.front (fit_take at.start at.grown c.min-count.result at.ranges.now c.self.invariant)

pub same_at-requires-clause-right_fits : goal.same_at-requires-clause-right_fits
same_at-requires-clause-right_fits g c =
    let at = c.other.inside in
    rw c.split_at-2.ensures.front (fit_take at.start at.grown c.min-count.result at.ranges.now c.other.invariant)

pub returns-then-not-same_at-clause-differ : goal.returns-then-not-same_at-clause-differ
returns-then-not-same_at-clause-differ g c _ xs ys e =
    let left = c.self.inside in
    let right = c.other.inside in
    let count = c.min-count.result in
    let least = c.min-count.ensures in
    let is : map (shift left.start) (map (grow left.grown) left.ranges.now) ++ xs ≡ map (shift right.start) (map (grow right.grown) right.ranges.now) ++ ys =
    ap (λ zs. zs ++ xs) c.self.view_is ∙ (e ∙ ap (λ zs. zs ++ ys) (sym c.other.view_is)) in
    let same = same_prefix left.start left.grown right.start right.grown count left.ranges.now right.ranges.now xs ys (omega (arith, least)) (omega (arith, least)) is in
    let answer = c.same_at.ensures.1 (ap (λ rs. map (shift left.start) (map (grow left.grown) rs)) c.split_at.ensures.front ∙ (same ∙ ap (λ rs. map (shift right.start) (map (grow right.grown) rs)) (sym c.split_at-2.ensures.front))) in
    let no = c.if-not-same_at.true in
    cc

pub invariant_of-self : goal.invariant_of-self
invariant_of-self g c =
    let at = c.self.inside in
    rw c.split_at.ensures.back (fit_drop at.start at.grown c.min-count.result at.ranges.now c.self.invariant)

pub invariant_of-other : goal.invariant_of-other
invariant_of-other g c =
    let at = c.other.inside in
    rw c.split_at-2.ensures.back (fit_drop at.start at.grown c.min-count.result at.ranges.now c.other.invariant)
