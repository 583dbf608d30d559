use Rattle.std.proofs.Common.{◌≡◌, ◌+◌, ◌≤◌, length, map}
use Rattle.std.specs.Str.{chars}
use Rattle.unicode_segmentation.specs.Iter.{graphemes_left}
use Rattle.cells.specs.Layout.{clusters}
use Rattle.cursor_moves.proofs.Ends.{last_of, total}
use Rattle.cursor_moves.proofs.stops.last_end.Given as goal

abbrev pub invariant-loop-cluster : goal.invariant-loop-cluster
invariant-loop-cluster l = record {
  most_is : l.found ≤ l.most;
  place_is : l.place + total (map chars (graphemes_left l.cluster-iterator)) ≡ l.from + length (chars l.line);
  gives : last_of l.most l.found l.place (map chars (graphemes_left l.cluster-iterator)) ≡ last_of l.most l.from l.from (clusters (chars l.line));
}
