use Rattle.std.proofs.Common.{◌≡◌, ◌+◌, ℕ, ap, sym, ◌∙◌, map, refl, arith, length}
use Rattle.std.specs.Str.{chars}
use Rattle.unicode_segmentation.specs.Iter.{graphemes_left}
use Rattle.cursor_moves.proofs.Ends.{last_end, last_of, last_step, walk_begins, walk_place}
use Rattle.cursor_moves.proofs.stops.last_end.Goals as goal

pub loop-cluster-init : goal.loop-cluster-init
loop-cluster-init c =
    let walk = walk_begins (last_of c.args.most c.args.from) c.args.from c.args.line.now _ c.utf8.line
    (ap graphemes_left c.into_iter-cluster-iterator.ensures.into_iter_gives ∙ c.graphemes-cluster-items.ensures.left) in
    record { most_is = c.requires.started; place_is = walk.place_is; gives = walk.gives }

pub loop-cluster-preserved : goal.loop-cluster-preserved
loop-cluster-preserved c =
    let now_is = ap (λ (n : ℕ). c.loop-cluster.place + n) c.char_count.ensures in
    record {
      most_is = c.later_stop-found.ensures.most;
      place_is = walk_place c.loop-cluster.place _ _ _ _ _ c.in-Some.ensures.steps now_is c.loop-cluster.invariant.place_is;
      gives = last_step c.args.most c.loop-cluster.found _ c.loop-cluster.place _ _ _ _ _ c.in-Some.ensures.steps now_is c.later_stop-found.ensures.value c.loop-cluster.invariant.gives;
    }

pub returns-clause-value : goal.returns-clause-value
returns-clause-value c = last_end c.args.most c.loop-cluster.found c.loop-cluster.place _ _ c.in-None.ensures.steps.0 c.loop-cluster.invariant.gives
