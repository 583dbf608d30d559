use Rattle.std.proofs.Common.{◌≡◌, ◌+◌, ◌≤◌, ◌++◌, length, map}
use Rattle.change_desc.specs.Meeting.{BeginAfter}
use Rattle.range_set.specs.PrivateChunks.{AreGroups, flat, move, spread}
use Rattle.range_set.specs.PrivateBuilders.{IsMappedBuilder, put_down}
use Rattle.range_set.specs.PrivateMoving.{IsClearWalk}
use Rattle.range_set.proofs.Cost.{allowance}
use Rattle.range_set.proofs.Walked.{IsWalked}
use Rattle.range_set.proofs.moving.map_all.Given as goal

abbrev pub invariant-loop-at : goal.invariant-loop-at
invariant-loop-at g l =
    let rules = g.T.RangeValue.rules in
    record {
      builder : IsMappedBuilder rules l.builder;
      groups : AreGroups rules l.rest;
      walked : IsWalked rules l.changes (flat (spread l.fn.groups)) (spread l.rest) (put_down l.builder) l.builder.run.items l.walk.walker.reached l.left;
      desc : l.walk.walker.desc ≡ l.changes;
      clear : IsClearWalk l.walk;
      begin : BeginAfter 0 l.left;
      cost : l.mapped + allowance rules l.changes (spread l.rest) ≤ l.fn.mapped + allowance rules l.changes (spread l.fn.groups);
    }

abbrev pub invariant-loop-inner : goal.invariant-loop-inner
invariant-loop-inner g l =
    let rules = g.T.RangeValue.rules in
    let rest = map (move l.at) l.chunks ++ spread l.rest in
    record {
      builder : IsMappedBuilder rules l.builder;
      walked : IsWalked rules l.changes (flat (spread l.fn.groups)) rest (put_down l.builder) l.builder.run.items l.walk.walker.reached l.left;
      desc : l.walk.walker.desc ≡ l.changes;
      clear : IsClearWalk l.walk;
      begin : BeginAfter 0 l.left;
      cost : l.mapped + allowance rules l.changes rest ≤ l.fn.mapped + allowance rules l.changes (spread l.fn.groups);
    }

abbrev pub decreases-loop-at : goal.decreases-loop-at
decreases-loop-at g l = length l.rest

abbrev pub decreases-loop-inner : goal.decreases-loop-inner
decreases-loop-inner g l = length l.chunks
