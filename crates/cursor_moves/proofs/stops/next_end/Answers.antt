use Rattle.std.proofs.Common.{◌≡◌, ◌+◌, ℕ, ap, sym, ◌∙◌, map, refl, arith, length}
use Rattle.std.specs.Str.{chars}
use Rattle.unicode_segmentation.specs.Iter.{graphemes_left}
use Rattle.cursor_moves.proofs.Ends.{less_is, next_found, next_none, next_of, next_step, not_less_is, walk_begins, walk_place}
use Rattle.cursor_moves.proofs.stops.next_end.Goals as goal

pub loop-cluster-init : goal.loop-cluster-init
loop-cluster-init c =
    let walk = walk_begins (next_of c.args.after c.args.to) c.args.from c.args.line.now _ c.utf8.line
    (ap graphemes_left c.into_iter-cluster-iterator.ensures.into_iter_gives ∙ c.graphemes-cluster-items.ensures.left) in
    record { place_is = walk.place_is; gives = walk.gives }

pub returns-then-place-after-clause-value : goal.returns-then-place-after-clause-value
returns-then-place-after-clause-value c =
    let now_is = ap (λ (n : ℕ). c.loop-cluster.place + n) c.char_count.ensures in
    next_found c.args.after c.args.to c.loop-cluster.place _ _ _ _ _ c.in-Some.ensures.steps now_is (less_is _ _ c.if-place-after.true) c.loop-cluster.invariant.gives

pub loop-cluster-preserved : goal.loop-cluster-preserved
loop-cluster-preserved c =
    let now_is = ap (λ (n : ℕ). c.loop-cluster.place + n) c.char_count.ensures in
    record {
      place_is = walk_place c.loop-cluster.place _ _ _ _ _ c.in-Some.ensures.steps now_is c.loop-cluster.invariant.place_is;
      gives = next_step c.args.after c.args.to c.loop-cluster.place _ _ _ _ _ c.in-Some.ensures.steps now_is (not_less_is _ _ c.if-place-after.false) c.loop-cluster.invariant.gives;
    }

pub returns-clause-value : goal.returns-clause-value
returns-clause-value c = next_none c.args.after c.args.to c.loop-cluster.place _ _ c.in-None.ensures.steps.0 c.loop-cluster.invariant.gives
