use Rattle.std.proofs.Common.{◌≡◌, ◌+◌, ◌*◌, ◌≤◌, length, map}
use Rattle.std.specs.List.{concat}
use Rattle.std.specs.Str.{chars}
use Rattle.unicode_segmentation.specs.Iter.{graphemes_left}
use Rattle.cells.specs.Layout.{cells_of, lay}
use Rattle.cells.proofs.columns.columns_of_clusters.Given as goal

abbrev pub invariant-loop-cluster : goal.invariant-loop-cluster
invariant-loop-cluster l = record {
  bound : l.columns + 16 * length (concat (graphemes_left l.cluster-iterator)) ≤ 16 * length l.text;
  value : l.columns + length (lay l.tab (l.start + l.columns) (map chars (graphemes_left l.cluster-iterator))) ≡ length (cells_of l.tab l.start (chars l.text));
}
