use Rattle.std.proofs.Common.{◌≡◌, ◌+◌, ◌*◌, ◌≤◌, length, map}
use Rattle.std.specs.List.{concat}
use Rattle.std.specs.Str.{chars}
use Rattle.unicode_segmentation.specs.Iter.{graphemes_left}
use Rattle.cells.specs.Layout.{clusters}
use Rattle.pieces.proofs.Walks.{total}
use Rattle.line_rows.specs.Place.{is_told, place_of}
use Rattle.line_rows.proofs.places.place_among.Given as goal

abbrev pub invariant-loop-cluster : goal.invariant-loop-cluster
invariant-loop-cluster l = record {
  sum : l.at + total (map chars (graphemes_left l.cluster-iterator)) ≡ l.len;
  bound : l.column + 16 * length (concat (graphemes_left l.cluster-iterator)) ≤ 16 * length l.part;
  place : place_of l.tab l.pos l.at l.column (map chars (graphemes_left l.cluster-iterator)) ≡ place_of l.tab l.pos 0 0 (clusters (chars l.part));
  told : is_told l.pos l.at (map chars (graphemes_left l.cluster-iterator)) ≡ is_told l.pos 0 (clusters (chars l.part));
}
