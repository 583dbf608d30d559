use Rattle.std.proofs.Common.{◌≡◌, ◌+◌, length, map}
use Rattle.std.specs.Str.{chars}
use Rattle.unicode_segmentation.specs.Iter.{graphemes_left}
use Rattle.cells.specs.Layout.{clusters}
use Rattle.cursor_moves.proofs.Ends.{next_of, total}
use Rattle.cursor_moves.proofs.stops.next_end.Given as goal

abbrev pub invariant-loop-cluster : goal.invariant-loop-cluster
invariant-loop-cluster l = record {
  place_is : l.place + total (map chars (graphemes_left l.cluster-iterator)) ≡ l.from + length (chars l.line);
  gives : next_of l.after l.to l.place (map chars (graphemes_left l.cluster-iterator)) ≡ next_of l.after l.to l.from (clusters (chars l.line));
}
