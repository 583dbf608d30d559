use Rattle.std.proofs.Common.{◌≡◌, ◌++◌, ◌+◌, ◌<◌, ◌≤◌, ◌^◌, length, take, drop}
use Rattle.std.specs.List.{concat}
use Rattle.line_tree.proofs.leaf_builder.LeafBuilder.push_chunks.Given as goal

abbrev pub invariant-loop-chunk : goal.invariant-loop-chunk
invariant-loop-chunk l = record {
  value : l.self ++ take l.left (drop l.skip (concat (drop l.chunk-index l.chunks))) ≡ l.fn.self ++ take l.fn.count (drop l.fn.from (concat l.fn.chunks));
  within : l.skip + l.left ≤ length (concat (drop l.chunk-index l.chunks));
  fits : length l.self + l.left < 2 ^ 32;
}
