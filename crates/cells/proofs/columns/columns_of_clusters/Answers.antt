use Rattle.std.proofs.Common.{◌≡◌, true, arith, map, refl, ap, ◌∙◌, add-zero, zero-add}
use Rattle.std.specs.List.{concat}
use Rattle.std.specs.Str.{chars}
use Rattle.unicode_segmentation.specs.Grapheme.{graphemes, is_grapheme_break}
use Rattle.unicode_segmentation.specs.Iter.{graphemes_left}
use Rattle.unicode_segmentation.proofs.SegmentsLemmas.{concat-segments}
use Rattle.cells.specs.Layout.{clusters}
use Rattle.cells.proofs.Layouts.{clusters-bytes}
use Rattle.cells.proofs.Widths.{bound_step, value_step, value_end}
use Rattle.cells.proofs.columns.columns_of_clusters.Goals as goal

pub loop-cluster-init : goal.loop-cluster-init
loop-cluster-init c =
    let left : graphemes_left c.into_iter-cluster-iterator.result ≡ graphemes true c.args.text.now =
    ap graphemes_left c.into_iter-cluster-iterator.ensures.into_iter_gives ∙ c.graphemes-cluster-items.ensures.left in
    let whole : concat (graphemes_left c.into_iter-cluster-iterator.result) ≡ c.args.text.now =
    ap concat left ∙ concat-segments (is_grapheme_break true) c.args.text.now c.utf8.text in
    let pieces : map chars (graphemes_left c.into_iter-cluster-iterator.result) ≡ clusters (chars c.args.text.now) =
    ap (map chars) left ∙ clusters-bytes c.args.text.now c.utf8.text in
    record { bound = rw whole (omega arith); value = rw (pieces, add-zero c.args.start) (zero-add _) }

pub loop-cluster-preserved : goal.loop-cluster-preserved
loop-cluster-preserved c = record {
  bound = bound_step _ _ _ c.loop-cluster.columns _ _ c.in-Some.ensures.steps c.cluster_columns-columns.ensures.bound c.loop-cluster.invariant.bound;
  value = value_step c.args.tab c.args.start c.loop-cluster.columns _ _ _ _ _ _ c.in-Some.ensures.steps refl c.cluster_columns-columns.ensures.value c.loop-cluster.invariant.value;
}

pub returns-clause-value : goal.returns-clause-value
returns-clause-value c = value_end c.args.tab c.args.start c.loop-cluster.columns _ _ c.in-None.ensures.steps.0 c.loop-cluster.invariant.value
