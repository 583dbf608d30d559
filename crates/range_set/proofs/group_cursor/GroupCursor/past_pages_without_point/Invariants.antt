use Rattle.std.proofs.Common.{◌≡◌, length}
use Rattle.range_set.specs.Points.{points_of}
use Rattle.range_set.specs.PrivateChunks.{flat, spread}
use Rattle.range_set.specs.PrivatePages.{AreLast}
use Rattle.range_set.proofs.group_cursor.GroupCursor.past_pages_without_point.Given as goal

abbrev pub invariant-loop-placed : goal.invariant-loop-placed
invariant-loop-placed g l = record {
  kept : points_of g.T.RangeValue.rules (flat (spread l.rest)) ≡ points_of g.T.RangeValue.rules (flat (spread l.self));
  last : AreLast l.self l.rest;
}

abbrev pub decreases-loop-placed : goal.decreases-loop-placed
decreases-loop-placed g l = length l.rest
