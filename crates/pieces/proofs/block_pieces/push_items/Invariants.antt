use Rattle.std.proofs.Common.{◌≡◌, ◌≤◌}
use Rattle.std.specs.Vec.Iter.{into_iter_items}
use Rattle.pieces.specs.Filling.{put_all}
use Rattle.pieces.specs.Pieces.{walked}
use Rattle.pieces.specs.Blocks.{shown_block}
use Rattle.pieces.proofs.block_pieces.push_items.Given as goal

abbrev pub invariant-loop-item : goal.invariant-loop-item
invariant-loop-item l = record {
  from : l.block.from ≤ l.at;
  puts : put_all l.filling (walked (shown_block l.block) l.at (into_iter_items l.item-iterator)) ≡ put_all l.fn.filling (walked (shown_block l.block) l.block.from l.fn.items.items);
}
