use Rattle.std.proofs.Common.{ap, sym, ◌∙◌, arith}
use Rattle.std.proofs.lemmas.List.{nil_from_length}
use Rattle.pieces.specs.Items.{ItemView}
use Rattle.pieces.specs.Blocks.{shown_block}
use Rattle.pieces.proofs.Walks.{walk_step, walk_over, walk_end}
use Rattle.pieces.proofs.block_pieces.push_items.Goals as goal

pub loop-item-preserved : goal.loop-item-preserved
loop-item-preserved c = record {
  from = omega (arith, c.max-at.ensures, c.loop-item.invariant.from);
  puts = walk_step (shown_block c.args.block.now) c.loop-item.at c.max-at.result c.in-Some.item _ _ _ _ _ c.in-Some.ensures.steps.0
      (omega (arith, c.max-at.ensures, ap (λ (x : ItemView). x.to) c.item.view_is))
      c.in_ok-push_up_to.ensures c.loop-item.invariant.puts;
}

pub returns-then-is_over : goal.returns-then-is_over
returns-then-is_over c = walk_over _ _ _ (sym c.is_over.ensures ∙ c.if-is_over.true) c.loop-item.invariant.puts

pub returns : goal.returns
returns c =
    walk_end (shown_block c.args.block.now) c.loop-item.at _ _ _ _
    (nil_from_length _ (omega (arith, c.loop-item.item-iterator.rest.ok.0, c.in-None.ensures.steps.0))) c.in_ok-push_run.ensures c.loop-item.invariant.puts
