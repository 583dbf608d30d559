use Rattle.std.proofs.Common.{ℕ, ◌+◌, ap, sym, ◌∙◌}
use Rattle.unicode_segmentation.specs.Iter.{graphemes_left}
use Rattle.pieces.specs.Blocks.{shown_block}
use Rattle.pieces.proofs.Walks.{place_begin, place_over, place_step, place_end}
use Rattle.pieces.proofs.block_pieces.push_clusters.Goals as goal

pub loop-cluster-init : goal.loop-cluster-init
loop-cluster-init c =
    place_begin (shown_block c.args.block.now).style_of c.args.base c.args.text.now _ c.args.filling.now c.utf8.text
    (ap graphemes_left c.into_iter-cluster-iterator.ensures.into_iter_gives ∙ c.graphemes-cluster-items.ensures.left)

pub returns-then-is_over : goal.returns-then-is_over
returns-then-is_over c = place_over (shown_block c.args.block.now).style_of c.loop-cluster.place _ _ _ _ (sym c.is_over.ensures ∙ c.if-is_over.true) c.loop-cluster.invariant

pub loop-cluster-preserved : goal.loop-cluster-preserved
loop-cluster-preserved c =
    place_step (shown_block c.args.block.now).style_of c.loop-cluster.place _ _ _ _ _ _ _ _ c.in-Some.ensures.steps
    (ap (λ (n : ℕ). c.loop-cluster.place + n) c.char_count.ensures)
    (rw (← c.style_of-style.ensures) c.in_ok-push.ensures) c.loop-cluster.invariant

pub returns : goal.returns
returns c = place_end (shown_block c.args.block.now).style_of c.loop-cluster.place _ _ _ _ c.in-None.ensures.steps.0 c.loop-cluster.invariant
