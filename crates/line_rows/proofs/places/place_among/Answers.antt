use Rattle.std.proofs.Common.{◌≡◌, ◌+◌, true, map, sym, ap, ◌∙◌, arith, zero-add}
use Rattle.std.specs.List.{concat}
use Rattle.std.specs.Str.{chars}
use Rattle.unicode_segmentation.specs.Grapheme.{graphemes, is_grapheme_break}
use Rattle.unicode_segmentation.specs.Iter.{graphemes_left}
use Rattle.unicode_segmentation.proofs.SegmentsLemmas.{concat-segments}
use Rattle.cells.specs.Layout.{clusters}
use Rattle.cells.proofs.Layouts.{clusters-bytes}
use Rattle.cells.proofs.Widths.{bound_step}
use Rattle.pieces.proofs.Walks.{total, total-clusters}
use Rattle.line_rows.specs.Place.{is_told, place_of}
use Rattle.line_rows.proofs.PlaceSteps.{at_least, less_is, place_here, place_next, place_none, sum_next, told_here, told_next, too_few}
use Rattle.line_rows.proofs.places.place_among.Goals as goal

pub loop-cluster-init : goal.loop-cluster-init
loop-cluster-init c =
    let left : graphemes_left c.into_iter-cluster-iterator.result ≡ graphemes true c.args.part.now =
    ap graphemes_left c.into_iter-cluster-iterator.ensures.into_iter_gives ∙ c.graphemes-cluster-items.ensures.left in
    let whole : concat (graphemes_left c.into_iter-cluster-iterator.result) ≡ c.args.part.now =
    ap concat left ∙ concat-segments (is_grapheme_break true) c.args.part.now c.utf8.part in
    let pieces : map chars (graphemes_left c.into_iter-cluster-iterator.result) ≡ clusters (chars c.args.part.now) =
    ap (map chars) left ∙ clusters-bytes c.args.part.now c.utf8.part in
    record {
      sum = zero-add _ ∙ (ap total pieces ∙ total-clusters (chars c.args.part.now) ∙ sym c.requires.len);
      bound = rw whole (omega arith);
      place = ap (place_of c.args.tab c.args.pos 0 0) pieces;
      told = ap (is_told c.args.pos 0) pieces;
    }

pub returns-then-at-pos-clause-place : goal.returns-then-at-pos-clause-place
returns-then-at-pos-clause-place c =
    place_here c.args.tab c.args.pos c.loop-cluster.at c.loop-cluster.column c.columns_of-width.result c.max.result _ _ _ _ c.in-Some.ensures.steps
    c.columns_of-width.ensures.value c.max.ensures (at_least c.loop-cluster.at c.args.pos c.if-at-pos.true) c.loop-cluster.invariant.place

pub returns-then-at-pos-clause-told : goal.returns-then-at-pos-clause-told
returns-then-at-pos-clause-told c = λ more.
    told_here c.args.pos c.loop-cluster.at c.args.len (c.loop-cluster.at + c.char_count.result) _ _ _ _ c.in-Some.ensures.steps
    (ap (λ n. c.loop-cluster.at + n) c.char_count.ensures) (less_is (c.loop-cluster.at + c.char_count.result) c.args.len more)
    (at_least c.loop-cluster.at c.args.pos c.if-at-pos.true) c.loop-cluster.invariant.sum c.loop-cluster.invariant.told

pub loop-cluster-preserved : goal.loop-cluster-preserved
loop-cluster-preserved c =
    let end = ap (λ n. c.loop-cluster.at + n) c.char_count.ensures in
    let before = too_few c.loop-cluster.at c.args.pos c.if-at-pos.false in
    record {
      sum = sum_next c.loop-cluster.at _ c.args.len _ _ _ c.in-Some.ensures.steps end c.loop-cluster.invariant.sum;
      bound = bound_step _ _ _ c.loop-cluster.column _ _ c.in-Some.ensures.steps c.columns_of-width.ensures.bound c.loop-cluster.invariant.bound;
      place = place_next c.args.tab c.args.pos c.loop-cluster.at _ c.loop-cluster.column _ _ _ _ _ c.in-Some.ensures.steps end c.columns_of-width.ensures.value before c.loop-cluster.invariant.place;
      told = told_next c.args.pos c.loop-cluster.at _ _ _ _ _ c.in-Some.ensures.steps end before c.loop-cluster.invariant.told;
    }

pub returns-clause-place : goal.returns-clause-place
returns-clause-place c = place_none c.args.tab c.args.pos c.loop-cluster.at c.loop-cluster.column _ _ c.in-None.ensures.steps.0 c.loop-cluster.invariant.place
