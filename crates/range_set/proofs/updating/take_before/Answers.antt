use Rattle.std.proofs.Common.{◌≡◌, List, Some, true, map, get_or, ap, subst, sym, ◌∙◌}
use Rattle.std.specs.Prelude.{slice_get}
use Rattle.range_set.specs.Order.{before}
use Rattle.range_set.specs.PrivateChunks.{grow, shift}
use Rattle.range_set.specs.declared.chunk.Chunk.{Chunk}
use Rattle.range_set.specs.declared.ranged.Ranged.{Ranged}
use Rattle.range_set.proofs.UpdateLoops.{first_at, takes_more}
use Rattle.range_set.proofs.updating.take_before.Goals as goal

pub loop-next-preserved-in-Continue-1 : goal.loop-next-preserved-in-Continue-1
loop-next-preserved-in-Continue-1 g c =
    let rules = g.T.RangeValue.rules in
    let start = c.args.placed.now.start in
    let by = c.args.placed.now.grown in
    let raw = c.args.placed.now.chunk.value.ranges.items in
    let first = c.in-Some.first.now in
    let taken = c.in-Some-pop_front.taken in
    let left = c.pop_front.new.self.items in
    let same = c.deref-2.ensures.value ∙ ap (λ (ch : Chunk g.row.T.Denot). ch.ranges.items) c.deref.ensures in
    let at = first_at raw first (subst (λ (xs : List (Ranged g.row.T.Denot)). slice_get xs 0 ≡ Some first) same (sym c.in-Some.ensures.value)) in
    let popped = c.in-Some-pop_front.ensures.items in
    let next : c.in-Some-front.next.now ≡ taken = c.in-Some-front.ensures.lookup ∙ ap (λ xs. get_or xs 0 c.in-Some-front.next.now) popped in
    let stands = sym c.is_before.ensures ∙ c.if-not-is_before.false in
    takes_more rules (map (shift start) (map (grow by) raw)) (map (shift start) (map (grow by) at.0)) c.args.run.now.items c.args.added.now.items c.loop-next.run.items c.loop-next.added.items c.push.new.self.items left (shift start (grow by first)) taken
    (ap (λ xs. map (shift start) (map (grow by) xs)) at.1) c.loop-next.invariant popped (subst (λ x. before rules x (shift start (grow by first)) ≡ true) next stands) c.in_ok-push.ensures.items
