use Rattle.std.proofs.Common.{◌≡◌, take}
use Rattle.line_tree.proofs.leaf_builder.copied.Given as goal

abbrev pub invariant-loop-chunk : goal.invariant-loop-chunk
invariant-loop-chunk l = l.copies.items ≡ take l.chunk-index l.chunk-items
