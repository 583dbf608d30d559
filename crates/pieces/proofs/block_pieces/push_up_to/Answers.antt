use Rattle.std.proofs.Common.{ℕ, ap, ◌∙◌, arith}
use Rattle.pieces.specs.Items.{ItemView}
use Rattle.pieces.specs.Blocks.{shown_block}
use Rattle.pieces.specs.Filling.{put_all}
use Rattle.pieces.specs.Pieces.{run}
use Rattle.pieces.proofs.Walks.{le_is, not_le_is, put_up_to, put_none}
use Rattle.pieces.proofs.block_pieces.push_up_to.Goals as goal

pub returns-in_ok-push_to : goal.returns-in_ok-push_to
returns-in_ok-push_to c =
    let place = ap (λ (x : ItemView). x.place) c.item.view_is in
    put_up_to (shown_block c.args.block.now) c.args.at c.args.item.now c.args.filling.now c.push_run.new.filling _
    (le_is _ _ (omega (arith, c.if-at-item.true, place)))
    (c.in_ok-push_run.ensures ∙ ap (λ (p : ℕ). put_all c.args.filling.now (run (shown_block c.args.block.now) c.args.at p)) place)
    c.in_ok-push_to.ensures

pub returns-else-at-item : goal.returns-else-at-item
returns-else-at-item c =
    let place = ap (λ (x : ItemView). x.place) c.item.view_is in
    put_none (shown_block c.args.block.now) c.args.at c.args.item.now c.args.filling.now (not_le_is _ _ (omega (arith, c.if-at-item.false, place)))
