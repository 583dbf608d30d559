use Rattle.std.proofs.Common.{◌≡◌, [], sym, arith}
use Rattle.pieces.specs.Pieces.{run}
use Rattle.pieces.specs.Blocks.{shown_block}
use Rattle.pieces.proofs.Fillings.{put_all-nil}
use Rattle.pieces.proofs.Walks.{run-none}
use Rattle.pieces.proofs.block_pieces.push_run.Goals as goal

pub returns-then-at-end : goal.returns-then-at-end
returns-then-at-end c =
    let none : run (shown_block c.args.block.now) c.args.at c.args.end ≡ [] =
    run-none (shown_block c.args.block.now) c.args.at c.args.end (omega (arith, c.min-end.ensures, c.if-at-end.true)) in
    rw none (sym (put_all-nil c.args.filling.now))
