use Rattle.std.proofs.Common.{◌≡◌, ◌++◌, ◌+◌, ◌<◌, ◌≤◌, ◌^◌, length, take, drop}
use Rattle.std.specs.List.{concat}
use Rattle.line_tree.proofs.leaf_builder.LeafBuilder.push_pieces.Given as goal

abbrev pub invariant-loop-piece : goal.invariant-loop-piece
invariant-loop-piece l = record {
  value : l.self ++ take l.left (drop l.skip (concat (drop l.piece-index l.pieces))) ≡ l.fn.self ++ take l.fn.count (drop l.fn.from (concat l.fn.pieces));
  within : l.skip + l.left ≤ length (concat (drop l.piece-index l.pieces));
  fits : length l.self + l.left < 2 ^ 32;
}
