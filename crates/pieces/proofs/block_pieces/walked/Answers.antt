use Rattle.std.proofs.Common.{ap, ◌∙◌}
use Rattle.pieces.specs.Blocks.{shown_block}
use Rattle.pieces.specs.Filling.{FillingView, put_all}
use Rattle.pieces.specs.Pieces.{walked}
use Rattle.pieces.proofs.block_pieces.walked.Goals as goal

pub returns : goal.returns
returns c =
    let ps = walked (shown_block c.args.block.now) c.args.block.now.from c.args.items.items in
    c.in_ok-push_items.ensures ∙ ap (λ (f : FillingView). put_all f ps) c.new-filling.ensures
