use Rattle.std.proofs.Common.{◌+◌, length}
use Rattle.std.specs.Str.{chars}
use Rattle.unicode_segmentation.specs.Iter.{graphemes_left}
use Rattle.cells.specs.Layout.{clusters}
use Rattle.pieces.specs.Filling.{put_all}
use Rattle.pieces.specs.Blocks.{shown_block}
use Rattle.pieces.specs.Pieces.{by_clusters}
use Rattle.pieces.proofs.Walks.{Placing}
use Rattle.pieces.proofs.block_pieces.push_clusters.Given as goal

abbrev pub invariant-loop-cluster : goal.invariant-loop-cluster
invariant-loop-cluster l =
    Placing (shown_block l.block).style_of l.place (graphemes_left l.cluster-iterator) l.filling
    (put_all l.fn.filling (by_clusters (shown_block l.block).style_of l.base (clusters (chars l.text)))) (l.base + length (chars l.text))
